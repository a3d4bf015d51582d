use Rattle.std.proofs.Common.{◌≡◌, ℕ, ◌<◌}
use Rattle.network.specs.Tables.{reach_in}
use Rattle.yard.specs.Force.{mast_at}
use Rattle.placing.specs.Networked.{mast_reach}
use Rattle.placing.proofs.tables.fill_feeders.Given as goal

abbrev pub invariant-loop-m : goal.invariant-loop-m
invariant-loop-m l =
    (k : ℕ) → k < l.m → (p : ℕ) → p < l.plan.force.count → reach_in l.rows k p ≡ mast_reach (mast_at l.plan.force k) l.level p
