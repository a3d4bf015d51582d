use Rattle.std.proofs.Common.{◌-◌, ◌≤◌}
use Rattle.placing.specs.Settling.{Forced}
use Rattle.placing.proofs.ground.Ground.settle.Given as goal

abbrev pub invariant-jumps : goal.invariant-jumps
invariant-jumps l = (l.fn.start.cents ≤ l.level.cents) × Forced l.self.plan.now.force l.fn.start.cents l.level.cents l.below

abbrev pub decreases-jumps : goal.decreases-jumps
decreases-jumps l = 3000000000 - l.level.cents
