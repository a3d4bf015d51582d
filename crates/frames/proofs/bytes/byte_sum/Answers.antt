use Rattle.std.proofs.Common.{rules, ◌≡◌, ◌+◌, ◌%◌, ◌^◌, lit<, ◌∙◌, arith}
use Rattle.std.specs.List.{fold}
use Rattle.frames.proofs.Sums.{fold_wrap}
use Rattle.frames.proofs.bytes.byte_sum.Goals as goal

pub returns : goal.returns
returns c =
    let e : c.fold.result ≡ fold (λ a x. (a + x) % 2 ^ 8) 0 c.args.bytes.now = search rules in
    e ∙ fold_wrap 0 c.args.bytes.now (lit< tt) ∙ omega arith
