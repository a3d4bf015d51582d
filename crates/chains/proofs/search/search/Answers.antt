use Rattle.std.proofs.Common.{◌∙◌, get_or, refl, ap, arith}
use Rattle.chains.proofs.Tables.{tables_start, tables_end, tables_turn}
use Rattle.chains.proofs.search.search.Goals as goal

pub loop-u-init : goal.loop-u-init
loop-u-init g c = record {
  tables = tables_start g.met.M.Measure.lawful _ _ _ (omega arith) c.enter.ensures.best c.enter.ensures.before c.new-marks.ensures;
  behind = λ v h. (refl, refl);
}

pub loop-u-preserved : goal.loop-u-preserved
loop-u-preserved g c =
    let u = c.in-Some.u in
    let s = c.in-Some.ensures in
    record {
      tables = tables_turn g.met.M.Measure.lawful c.loop-u.invariant.tables (omega arith) u (omega (arith, s.pillar)) s.unfinished c.finish.ensures (omega arith) (omega arith) s.least (get_or c.loop-u.best u c.index-best-u.result) (ap (get_or c.loop-u.best u) c.index-best-u.is) c.index-runs-u.result c.index-runs-u.is _ _ c.offer.ensures.best c.offer.ensures.before;
      behind = λ v h.
          let now = c.offer.ensures.behind v h in
          let was = c.loop-u.invariant.behind v h in
          (now.0 ∙ was.0, now.1 ∙ was.1);
    }

pub returns : goal.returns
returns g c = (
  record { few = omega arith; rows = omega arith },
  tables_end g.met.M.Measure.lawful c.loop-u.invariant.tables c.in_default.ensures,
  λ v h.
      let now = c.loop-u.invariant.behind v h in
      let was = c.enter.ensures.behind v h in
      (now.0 ∙ was.0, now.1 ∙ was.1),
)
