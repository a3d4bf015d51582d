use Rattle.std.proofs.Common.{◌≡◌, ℕ, get_or, ℤ, pos, sym, ap, ◌∙◌, rules, tests, arith}
use Rattle.std.proofs.lemmas.List.{get_or_past}
use Rattle.network.proofs.FromFn.{from_fn_over}
use Rattle.network.proofs.fitting.paired.Goals as goal

pub returns : goal.returns
returns c = from_fn_over (λ (i : ℕ) (x : ℤ × ℤ). x ≡ (get_or c.args.s i (pos 0), get_or c.args.t i (pos 0))) (λ i y s k. search (rules, tests)) c.from_fn.ensures.items (pos 0, pos 0) (λ j h. ap (λ x. (x, pos 0)) (sym (get_or_past c.args.s j (pos 0) (omega arith))) ∙ ap (λ y. (get_or c.args.s j (pos 0), y)) (sym (get_or_past c.args.t j (pos 0) (omega arith))))
