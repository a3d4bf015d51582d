use Rattle.std.proofs.Common.{◌≡◌, ℕ, ◌<◌, length}
use Rattle.network.specs.Tables.{point_in}
use Rattle.placing.specs.Feet.{point_for}
use Rattle.placing.proofs.ground.Ground.of.Given as goal

abbrev pub invariant-loop-mast : goal.invariant-loop-mast
invariant-loop-mast l = (length l.points.items ≡ l.mast-index) × ((k : ℕ) → k < l.mast-index → point_in l.points.items k ≡ point_for l.plan.force l.feet.first k)
