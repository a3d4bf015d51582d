use Rattle.std.proofs.Common.{◌≡◌, ℕ, ◌<◌, ◌≤◌, length, get_or, ℤ, pos, ◌+ℤ◌, refl, rules, tests, arith}
use Rattle.network.proofs.FromFn.{from_fn_at, from_fn_over}
use Rattle.network.proofs.axis.positions.Goals as goal

pub returns-clause-at : goal.returns-clause-at
returns-clause-at c = λ j h. from_fn_at (λ (i : ℕ) (x : ℤ). i < length c.args.places.now → x ≡ c.args.low +ℤ pos (get_or c.args.places.now i 0)) (λ i y s k. search (rules, tests)) c.from_fn.ensures.items j (pos 0) (omega (arith, c.requires.few)) h

pub returns-clause-behind : goal.returns-clause-behind
returns-clause-behind c = from_fn_over (λ (i : ℕ) (x : ℤ). length c.args.places.now ≤ i → x ≡ pos 0) (λ i y s k. search (rules, tests)) c.from_fn.ensures.items (pos 0) (λ j h n. refl)
