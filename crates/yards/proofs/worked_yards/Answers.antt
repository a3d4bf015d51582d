use Rattle.yards.proofs.Certified.{worked_yards_right}
use Rattle.yards.proofs.worked_yards.Goals as goal

pub returns : goal.returns
returns c = worked_yards_right
