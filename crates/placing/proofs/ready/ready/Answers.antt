use Rattle.std.proofs.Common.{refl, inr, rules}
use Rattle.placing.proofs.FeetFound.{some_stands}
use Rattle.placing.proofs.ready.ready.Goals as goal

pub returns-in-Some : goal.returns-in-Some
returns-in-Some c =
    inr (inr (c.in-Some.pillar, search rules, some_stands c.args.plan.now.force c.in_ok-feet.feet (rw c.in_ok-feet.ensures.ok_part at c.find_feet.ensures), c.in-Some.ensures, refl))

pub returns-in-None : goal.returns-in-None
returns-in-None c =
    (c.of.ensures.plan, (some_stands c.args.plan.now.force c.in_ok-feet.feet (rw c.in_ok-feet.ensures.ok_part at c.find_feet.ensures), c.in-None.ensures), search rules)
