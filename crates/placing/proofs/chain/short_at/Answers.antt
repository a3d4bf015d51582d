use Rattle.std.proofs.Common.{arith}
use Rattle.placing.proofs.Summing.{sums_more, sums_all}
use Rattle.placing.proofs.chain.short_at.Goals as goal

pub loop-run-preserved : goal.loop-run-preserved
loop-run-preserved c = (
  omega (arith, c.loop-run.invariant.0),
  sums_more c.args.terms.now c.args.level c.loop-run.total c.loop-run.run-index c.loop-run.invariant.1 _ c.loop-run-test.true
      c.in_ok-steps.steps c.in_ok-steps.ensures.reach,
)

pub returns-then-total-gap : goal.returns-then-total-gap
returns-then-total-gap c =
    (sums_all c.args.terms.now c.args.level c.loop-run.total c.loop-run.run-index c.loop-run.invariant.1 c.loop-run-test.false, c.if-total-gap.true)
