use Rattle.yard.proofs.Ranges.{opened_near, opened_feeders}
use Rattle.yard.proofs.plan.Plan.open.Goals as goal

pub invariant_of-self-clause-near : goal.invariant_of-self-clause-near
invariant_of-self-clause-near c = rw c.opened-self.ensures (opened_near c.args.count)

pub invariant_of-self-clause-feeders : goal.invariant_of-self-clause-feeders
invariant_of-self-clause-feeders c = rw c.opened-self.ensures (opened_feeders c.args.count)
