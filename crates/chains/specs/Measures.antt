-- The two measures of the crate. Assumes nothing.
use Rattle.std.specs.Prelude.{ℕ, Option, ◌+◌, ◌-◌, ◌^◌, max, Bool, true, false, cond, not, ◌&&◌, ◌||◌, nat_le, Some, None}
use Rattle.chains.specs.declared.measure.Tied.{Tied}

-- A number of steps, or none where there is no limit.
abbrev pub Steps : Type 0
Steps = Option ℕ

abbrev pub no_steps : Steps
no_steps = Some 0

-- A sum that does not fit 64 bits is unlimited. (A sum of which one part is 0 is the other part, and so it is at numbers that no `u64` holds.)
abbrev pub sum_fits : ℕ → ℕ → Bool
sum_fits a b = nat_le (a + b) (max (2 ^ 64 - 1) (max a b))

abbrev pub add_steps : Steps → Steps → Steps
add_steps (Some a) (Some b) = cond (sum_fits a b) (Some (a + b)) None
add_steps (Some a) None = None
add_steps None y = None

abbrev pub fewer : Steps → Steps → Bool
fewer (Some a) (Some b) = nat_le a b
fewer (Some a) None = true
fewer None (Some b) = false
fewer None None = true

abbrev pub of_yes : Bool → Tied
of_yes b = record { yes = b }

abbrev pub no_tie : Tied
no_tie = of_yes true

abbrev pub both_tied : Tied → Tied → Tied
both_tied x y = of_yes (x.yes && y.yes)

abbrev pub rather : Tied → Tied → Bool
rather x y = x.yes || not y.yes
