use Rattle.std.proofs.Common.{rules}
use Rattle.yard.proofs.Ranges.{near_set, feeders_set, kept_fair}
use Rattle.yard.proofs.plan.Plan.raise.Goals as goal

pub invariant_of-self-clause-near : goal.invariant_of-self-clause-near
invariant_of-self-clause-near c =
    let was = c.args.self.now in
    near_set was.force.masts c.args.mast c.placed.result (rw c.placed.ensures.at (search rules)) was.near

pub invariant_of-self-clause-feeders : goal.invariant_of-self-clause-feeders
invariant_of-self-clause-feeders c =
    let was = c.args.self.now in
    let old = rw c.in_ok-standing.ensures.1 at (was.feeders c.args.mast) in
    feeders_set was.force.masts c.args.mast c.placed.result (rw c.placed.ensures.feeders (kept_fair c.in_ok-standing.standing old)) was.feeders
