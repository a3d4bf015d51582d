use Rattle.std.proofs.Common.{length, get_or, ap, arith}
use Rattle.std.proofs.lemmas.List.{get_or_read}
use Rattle.chains.specs.Chains.{value_at, run_at, pillar_at}
use Rattle.chains.proofs.Reading.{traced_wider}
use Rattle.chains.proofs.Forward.{best_read}
use Rattle.chains.proofs.one.best_chain_to.Goals as goal

-- the search's table tells a chain to v
pub unreachable-requires : goal.unreachable-requires
unreachable-requires g c =
    let f = c.in_ok-search.ensures.1.some c.args.v c.if-v-first.false in
    omega (arith, c.in_default.ensures f.0 (traced_wider (length c.args.first.now) (length c.search.new.before) (pillar_at c.search.new.before) c.args.v f.0 (omega (arith, c.in_ok-search.ensures.0.few)) f.1.traced), f.1.traced.short, c.in_ok-search.ensures.0.few)

pub returns : goal.returns
returns g c =
    let m = g.M.Measure in
    let T = c.in_ok-search.ensures in
    (record { plan = T.0; pillar = c.if-v-first.false }, rw c.from.ensures (best_read m.op (value_at m.empty c.args.first.now) (run_at m.empty c.args.runs.now) m.leq (length c.args.first.now) (value_at m.empty c.search.new.best) c.search.new.before T.1 c.args.v c.if-v-first.false (get_or c.search.new.best c.args.v c.index-values-v.result) (get_or_read c.search.new.best c.args.v (get_or c.search.new.best c.args.v c.index-values-v.result) (omega (arith, T.0.few)) (ap (get_or c.search.new.best c.args.v) c.index-values-v.is) m.empty) c.in-Some.pillars.items c.in-Some.ensures.0))
