use Rattle.std.specs.Option.{option_copied}
use Rattle.std.proofs.Common.{◌<◌, ◌≤◌, None, sym, rules}
use native.Mathlib.Nat.{sub-zero}
use Rattle.runs.specs.Order.{numbers_from, standing_from, all_feeders, all_links, runs_of}
use Rattle.runs.specs.Dearest.{price_by}
use Rattle.runs.proofs.DearestRun.{dearest_append, dearest_is, row_more, row_none}
use Rattle.runs.proofs.dearest.dearest.Goals as goal

pub loop-p-init : goal.loop-p-init
loop-p-init c =
    let F = c.args.plan.now.force in
    let ps = numbers_from 0 F.count in
    rw (sub-zero, c.pillars-count.ensures, c.dearest_of_feeders-best.ensures)
    (sym (dearest_append (price_by F (option_copied c.args.sites)) None (all_feeders (standing_from 0 F.masts) ps) (all_links ps)))

pub loop-p-preserved : goal.loop-p-preserved
loop-p-preserved c =
    let n = c.pillars-count.result in
    let h : c.loop-p.p < n = search rules in
    row_more (price_by c.args.plan.now.force (option_copied c.args.sites)) c.loop-p.best _ c.loop-p.p n c.dearest_link-best.result h c.loop-p.invariant
    (rw (sym c.pillars-count.ensures) at c.dearest_link-best.ensures)

pub returns : goal.returns
returns c =
    let of = price_by c.args.plan.now.force (option_copied c.args.sites) in
    let h : c.pillars-count.result ≤ c.loop-p.p = search rules in
    dearest_is of (runs_of c.args.plan.now.force) c.loop-p.best (row_none of c.loop-p.best _ c.loop-p.p c.pillars-count.result h c.loop-p.invariant)
