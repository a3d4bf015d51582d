use Rattle.std.proofs.Common.{◌≡◌, ℕ, ◌<◌, length, slice_index_or}
use Rattle.yard.specs.declared.force.Run.TheVariants.{Link}
use Rattle.runs.specs.Order.{run_terms}
use Rattle.runs.proofs.worth.link_row.Given as goal

abbrev pub invariant-loop-q : goal.invariant-loop-q
invariant-loop-q g l =
    (length l.value-items ≡ l.plan.force.count)
    × ((k : ℕ) → k < l.q → slice_index_or l.value-items k g.M.Measure.empty ≡ g.M.Worth.worth (run_terms l.plan.force (Link l.p k)) l.level)
