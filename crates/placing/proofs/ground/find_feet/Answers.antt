use Rattle.std.proofs.Common.{rules}
use Rattle.placing.proofs.FeetFound.{seen_all}
use Rattle.placing.proofs.ground.find_feet.Goals as goal

pub returns : goal.returns
returns c =
    let long = c.masts-mast-items.ensures in
    seen_all c.args.plan.now.force c.loop-m.m c.loop-m.found (search rules) (search rules) c.loop-m.invariant
