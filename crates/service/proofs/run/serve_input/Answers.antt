use Rattle.std.proofs.Common.{◌++◌, vec_items, ap, ◌∙◌, rules}
use Rattle.yard.specs.Force.{opened_at}
use Rattle.frames.specs.Lines.{lines_of}
use Rattle.frames.specs.Left.{lines_left}
use Rattle.service.specs.Serving.{reply_text}
use Rattle.service.specs.Output.{Gives}
use Rattle.service.proofs.Turns.{head_of, one_more, no_more, all_given, gives_once}
use Rattle.service.proofs.run.serve_input.Goals as goal

pub loop-line-preserved : goal.loop-line-preserved
loop-line-preserved c =
    let served = c.in-Ok.ensures in
    let r = served.1 in
    let grown = c.in_ok-extend_from_slice.ensures.items ∙ ap (λ l. vec_items c.loop-line.output ++ l) (head_of (reply_text r) _ _ c.in-Ok.count served.3 served.4) in
    one_more (opened_at 1) (lines_of c.args.input.now) (vec_items c.loop-line.output) c.loop-line.plan.force (lines_left c.loop-line.line-iterator) c.loop-line.invariant
    c.in-Some.line.now (lines_left c.next.new.self) r c.serve.new.plan.force _ c.in-Some.ensures.steps served.2 grown

pub returns-then-input-gt-MOST_SERVED : goal.returns-then-input-gt-MOST_SERVED
returns-then-input-gt-MOST_SERVED c =
    let input = c.args.input.now in
    let out = vec_items c.refuse.new.output in
    let gives : Gives input out = search rules in
    record { gives = gives; once = λ other h. gives_once input out other gives h }

pub returns : goal.returns
returns c =
    let input = c.args.input.now in
    let out = vec_items c.loop-line.output in
    let gives = all_given input out (search rules)
    (no_more (opened_at 1) (lines_of input) out c.loop-line.plan.force (lines_left c.loop-line.line-iterator) c.loop-line.invariant c.in-None.ensures.steps.0) in
    record { gives = gives; once = λ other h. gives_once input out other gives h }
