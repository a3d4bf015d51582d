use Rattle.std.proofs.Common.{rules}
use Rattle.yard.proofs.Ranges.{near_set, feeders_set, feeder_set_fair}
use Rattle.yard.proofs.plan.Plan.feeder.Goals as goal

pub invariant_of-self-clause-near : goal.invariant_of-self-clause-near
invariant_of-self-clause-near c =
    let was = c.args.self.now in
    near_set was.force.masts c.args.mast c.refed.result
    (rw c.refed.ensures.at (rw c.in_ok-standing.ensures.1 at (was.near c.args.mast))) was.near

pub invariant_of-self-clause-feeders : goal.invariant_of-self-clause-feeders
invariant_of-self-clause-feeders c =
    let was = c.args.self.now in
    let old = rw c.in_ok-standing.ensures.1 at (was.feeders c.args.mast) in
    feeders_set was.force.masts c.args.mast c.refed.result
    (rw c.refed.ensures.feeders (search (rules, feeder_set_fair, old, c.in_ok-terms.ensures.2))) was.feeders
