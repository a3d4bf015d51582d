-- The check finds this alone, but not with half of the search's limits.
use Rattle.std.proofs.Common.{arith, rules}
use Rattle.std.proofs.lemmas.Grind.{common_steps}
use Rattle.frames.proofs.decode.raise.Goals as goal

pub returns : goal.returns
returns c = record { bytes = grind (arith, common_steps); fits = search rules }
