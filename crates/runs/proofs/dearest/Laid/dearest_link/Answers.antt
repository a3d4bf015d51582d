use Rattle.std.specs.Option.{option_copied}
use Rattle.std.proofs.Common.{◌<◌, ◌≤◌, length, rules}
use Rattle.yard.specs.Force.{new_terms}
use Rattle.runs.specs.Dearest.{price_by}
use Rattle.runs.proofs.Dearer.{link_more, link_past, link_priced, front_at}
use Rattle.runs.proofs.dearest.Laid.dearest_link.Goals as goal
use Rattle.runs.proofs.dearest.Laid.dearest_link.Goals.{then-p-q, else-p-q}

pub loop-q-preserved : goal.loop-q-preserved
loop-q-preserved c =
    let F = c.args.self.now.plan.now.force in
    let w = (option_copied c.args.self.now.sites) in
    let of = price_by F w in
    let n = c.pillars-count.result in
    let p = c.args.p in
    let q = c.loop-q.q in
    let h : q < n = search rules in
    let k : n ≤ length c.args.row.now = search rules in
    elim c.if-p-q.branch [
      | then-p-q v ↦ link_more of c.loop-q.best _ n p q v.price.result c.if-p-q.best h v.if-p-q.true c.loop-q.invariant (search rules)
          (link_priced F w p q v.price.result v.link_length.result c.args.row.now _ v.if-p-q.true c.requires.0 (front_at c.args.row.now n q _ new_terms h k) v.price.ensures v.link_length.ensures)
      | else-p-q v ↦ link_past of c.loop-q.best _ n p q c.if-p-q.best v.if-p-q.false c.loop-q.invariant v.best-is
    ]
