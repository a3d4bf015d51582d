use Rattle.std.proofs.Common.{◌≤◌, drop}
use Rattle.placing.specs.Jumping.{reaches_at}
use Rattle.placing.proofs.Summing.{SumsOnward}
use Rattle.placing.proofs.chain.short_at.Given as goal

-- the steps so far and those of the runs that are left
abbrev pub invariant-loop-run : goal.invariant-loop-run
invariant-loop-run l =
    (l.total ≤ l.gap) × SumsOnward (reaches_at l.terms l.level) l.total (reaches_at (drop l.run-index l.terms) l.level)
