use Rattle.std.proofs.Common.{◌≡◌, ℕ, ◌<◌, length, Some, slice_index_or}
use Rattle.chains.specs.Measures.{no_steps}
use Rattle.placing.specs.Networked.{mast_reach}
use Rattle.placing.proofs.tables.feeder_row.Given as goal

abbrev pub invariant-loop-p : goal.invariant-loop-p
invariant-loop-p l =
    (length l.steps-items ≡ l.plan.force.count)
    × ((k : ℕ) → k < l.p → slice_index_or l.steps-items k no_steps ≡ mast_reach (Some l.standing) l.level k)
