use Rattle.std.specs.Option.{option_copied}
use Rattle.std.proofs.Common.{◌<◌, ◌≤◌, length, rules}
use Rattle.yard.specs.Force.{new_terms}
use Rattle.runs.specs.Dearest.{price_by}
use Rattle.runs.proofs.Dearer.{feeder_more, feeder_priced, front_at}
use Rattle.runs.proofs.dearest.Laid.dearest_feeder.Goals as goal

pub loop-p-preserved : goal.loop-p-preserved
loop-p-preserved c =
    let F = c.args.self.now.plan.now.force in
    let n = c.pillars-count.result in
    let p = c.loop-p.p in
    let h : p < n = search rules in
    let k : n ≤ length c.args.mast.now.feeders = search rules in
    feeder_more (price_by F (option_copied c.args.self.now.sites)) c.loop-p.best _ n c.args.m p c.price.result c.dearer-best.result h c.loop-p.invariant c.dearer-best.ensures
    (feeder_priced F (option_copied c.args.self.now.sites) c.args.m p c.price.result c.feeder_length.result c.args.mast.now _ c.requires.0 (front_at c.args.mast.now.feeders n p _ new_terms h k) c.price.ensures c.feeder_length.ensures)
