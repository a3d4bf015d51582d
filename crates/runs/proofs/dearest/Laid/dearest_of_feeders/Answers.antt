use Rattle.std.specs.Option.{option_copied}
use Rattle.std.proofs.Common.{◌∙◌}
use Rattle.runs.specs.Order.{numbers_from}
use Rattle.runs.specs.Dearest.{price_by}
use Rattle.runs.proofs.DearestRun.{mast_more, mast_past}
use Rattle.runs.proofs.dearest.Laid.dearest_of_feeders.Goals as goal
use Rattle.runs.proofs.dearest.Laid.dearest_of_feeders.Goals.{in-Some, in_default}

pub loop-m-preserved : goal.loop-m-preserved
loop-m-preserved c =
    let of = price_by c.args.self.now.plan.now.force (option_copied c.args.self.now.sites) in
    let ps = numbers_from 0 c.args.self.now.plan.now.force.count in
    let masts = c.masts-mast-items.result.now in
    elim c.match-mast.branch [
      | in-Some w ↦ mast_more of c.loop-m.best _ masts c.loop-m.m ps c.loop-m.invariant w.in-Some.mast c.match-mast.best c.loop-m-test.true w.in-Some.is (w.best-is ∙ w.dearest_feeder-best.ensures)
      | in_default w ↦ mast_past of c.loop-m.best _ masts c.loop-m.m ps c.loop-m.invariant c.match-mast.best c.loop-m-test.true w.in_default.is w.best-is
    ]
