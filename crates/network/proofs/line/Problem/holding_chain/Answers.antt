use Rattle.std.specs.Prelude.{None, [], slice_index_or}
use Rattle.std.proofs.Common.{◌≡◌, ◌∙◌, arith}
use Rattle.std.proofs.lemmas.List.{get_or_default}
use Rattle.chains.specs.Measures.{no_steps}
use Rattle.network.proofs.Holding.{steps_default, holding_told, first_in, holding_start, holding_giver, holding_sub, holding_tight}
use Rattle.network.proofs.line.Problem.holding_chain.Goals as goal

pub unreachable-requires : goal.unreachable-requires
unreachable-requires c = holding_told c.requires (omega arith) c.in_default.ensures

pub pillar-requires : goal.pillar-requires
pillar-requires c =
    let same : c.deref.result.now ≡ c.in-Some.pillars.items = c.deref.ensures.0 in
    rw same (omega (arith, c.args.self.now.shaped.few, holding_start c.requires c.in-Some.ensures.0))

pub bounds-first-start : goal.bounds-first-start
bounds-first-start c =
    let same : c.deref.result.now ≡ c.in-Some.pillars.items = c.deref.ensures.0 in
    rw same (first_in c.requires c.in-Some.ensures.0)

pub giver-from-requires : goal.giver-from-requires
giver-from-requires c =
    let same : c.deref.result.now ≡ c.in-Some.pillars.items = c.deref.ensures.0 in
    let h = holding_giver c.requires c.in-Some.ensures.0 in
    rw (c.pillar.ensures.line, c.pillar.ensures.number, same) (h.0, h.1, get_or_default c.args.first.now _ None no_steps (first_in c.requires c.in-Some.ensures.0) ∙ h.2)

pub overflow_sub-total : goal.overflow_sub-total
overflow_sub-total c =
    let same : c.deref.result.now ≡ c.in-Some.pillars.items = c.deref.ensures.0 in
    let within = rw c.pillar.ensures.line at c.giver-from.ensures.within in
    let gives = rw (c.pillar.ensures.line, c.pillar.ensures.number, same) at c.giver-from.ensures.gives in
    omega (arith, c.steps_in.ensures ∙ steps_default c.args.best.now.values c.args.low.pillar, c.steps_in-2.ensures ∙ steps_default (slice_index_or c.args.self.now.feeders.now c.args.low.point []) c.args.low.pillar, holding_sub c.requires c.in-Some.ensures.0 within (get_or_default c.args.first.now _ no_steps None (first_in c.requires c.in-Some.ensures.0) ∙ gives))

pub returns : goal.returns
returns c =
    let same : c.deref.result.now ≡ c.in-Some.pillars.items = c.deref.ensures.0 in
    let within = rw c.pillar.ensures.line at c.giver-from.ensures.within in
    let gives = rw (c.pillar.ensures.line, c.pillar.ensures.number, same) at c.giver-from.ensures.gives in
    rw (c.from.ensures, c.steps_in.ensures ∙ steps_default c.args.best.now.values c.args.low.pillar, c.steps_in-2.ensures ∙ steps_default (slice_index_or c.args.self.now.feeders.now c.args.low.point []) c.args.low.pillar) (holding_tight c.requires c.in-Some.ensures.0 within (get_or_default c.args.first.now _ no_steps None (first_in c.requires c.in-Some.ensures.0) ∙ gives))
