use Rattle.yard.proofs.Ranges.{opened_near, opened_feeders}
use Rattle.yard.proofs.plan.Plan.new.Goals as goal

pub invariant_of-result-clause-near : goal.invariant_of-result-clause-near
invariant_of-result-clause-near c = rw c.opened.ensures (opened_near 1)

pub invariant_of-result-clause-feeders : goal.invariant_of-result-clause-feeders
invariant_of-result-clause-feeders c = rw c.opened.ensures (opened_feeders 1)
