use Rattle.std.proofs.Common.{◌≡◌, ℕ, ◌<◌, length}
use Rattle.chains.specs.Chains.{run_at}
use Rattle.yard.specs.declared.force.Run.TheVariants.{Link}
use Rattle.runs.specs.Order.{run_terms}
use Rattle.runs.proofs.worth.link_rows.Given as goal

abbrev pub invariant-loop-p : goal.invariant-loop-p
invariant-loop-p g l =
    (length l.row-items ≡ l.plan.force.count)
    × ((k : ℕ) → k < l.p → (q : ℕ) → q < l.plan.force.count → run_at g.M.Measure.empty l.row-items k q ≡ g.M.Worth.worth (run_terms l.plan.force (Link k q)) l.level)
