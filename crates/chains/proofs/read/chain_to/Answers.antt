use Rattle.std.proofs.Common.{◌≡◌, ◌∙◌, [], ◌∷◌, length, reverse, ap, length-append, arith}
use Rattle.std.proofs.lemmas.List.{length-reverse}
use Rattle.arrayvec.proofs.ArrayVecLemmas.{items-with_items}
use Rattle.chains.proofs.Reading.{when_ok, walk_more, walk_ends}
use Rattle.chains.proofs.read.chain_to.Goals as goal

pub loop-preserved : goal.loop-preserved
loop-preserved g c =
    let here = c.in_ok-next.ensures.lookup in
    let pushed = when_ok c.try_push.result c.in_ok-ok.ensures.variant c.try_push.ensures.ok in
    record {
      walk = rw (pushed, here.3.1 0) (walk_more c.loop.invariant.walk here.3.0 (rw (← here.3.1 0) c.if-next-p.false));
      long = rw pushed (omega (arith, length-append c.loop.pillars.items (c.loop.p ∷ [])));
    }

pub returns-then-next-p : goal.returns-then-next-p
returns-then-next-p g c =
    let here = c.in_ok-next.ensures.lookup in
    let pushed = when_ok c.try_push.result c.in_ok-ok.ensures.variant c.try_push.ensures.ok in
    let e = walk_ends c.loop.invariant.walk here.3.0 (rw (← here.3.1 0) c.if-next-p.true) (omega arith) in
    let turned : c.reverse.new.self ≡ reverse c.try_push.new.self.items = c.reverse.ensures.after ∙ ap reverse c.deref_mut.ensures.value in
    let long : length c.reverse.new.self ≡ length c.try_push.new.self.items = ap length turned ∙ length-reverse c.try_push.new.self.items in
    rw (items-with_items c.try_push.new.self c.reverse.new.self long) (record { passed = e.0; traced = e.1; told = turned ∙ ap reverse (pushed ∙ e.2) }, omega arith)
