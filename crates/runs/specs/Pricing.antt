-- What a run costs, and how far it can go at a level.
use Rattle.std.specs.Prelude.{ℕ, zero, suc, ◌+◌, ◌-◌, ◌*◌, ◌/◌, ◌≤◌, min, Some, None, Option}
use Rattle.chains.specs.Measures.{Steps}
use Rattle.network.specs.Layout.{Within}
use Rattle.yard.specs.declared.force.Terms.{Terms}

-- the price of a run of n steps
abbrev pub price_at : Terms → ℕ → ℕ
price_at t n = t.rate * n + t.fixed

abbrev pub KeepsLimit : ℕ → Option ℕ → Type 0
KeepsLimit n (Some limit) = n ≤ limit
KeepsLimit n None = Unit {0}

-- what is left of the level above the fixed price, over the rate and rounded down; at rate 0 it is no bound
abbrev pub paid_reach : ℕ → ℕ → Steps
paid_reach zero left = None
paid_reach (suc r) left = Some (left / suc r)

-- the smaller of two reaches
abbrev pub nearer : Steps → Steps → Steps
nearer None b = b
nearer (Some a) None = Some a
nearer (Some a) (Some b) = Some (min a b)

abbrev pub reach_at : Terms → ℕ → Steps
reach_at t level = nearer t.limit (paid_reach t.rate (level - t.fixed))

-- At a level that pays the fixed price, the lengths within the reach are exactly those that keep the limit and cost no more than the level.
pub record Exact (t : Terms) (level : ℕ) (r : Steps) : Type 0 where
  pub enough : t.fixed ≤ level → (n : ℕ) → price_at t n ≤ level → KeepsLimit n t.limit → Within n r
  pub cheap : t.fixed ≤ level → (n : ℕ) → Within n r → price_at t n ≤ level
  pub kept : (n : ℕ) → Within n r → KeepsLimit n t.limit
