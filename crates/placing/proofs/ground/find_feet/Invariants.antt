use Rattle.placing.proofs.FeetFound.{Seen}
use Rattle.placing.proofs.ground.find_feet.Given as goal

abbrev pub invariant-loop-m : goal.invariant-loop-m
invariant-loop-m l = Seen l.plan.force l.m l.found
