-- One axis of a layout: the readings of the points on it, and which positions are the greatest on it. Assumes nothing.
use Rattle.std.specs.Prelude.{◌≡◌, ℕ, ◌<◌, ◌≤◌, List, ℤ, pos, ◌-ℤ◌, ◌≤ℤ◌, Ok, Err, Result, slice_index_or, unsigned_abs}
use Rattle.chains.specs.Pillars.{listed}
use Rattle.network.specs.declared.axis.Axis.{Axis}
use Rattle.network.specs.declared.axis.Axis.TheVariants.{First, Second}
use Rattle.network.specs.declared.answer.Chain.{Chain}
use Rattle.network.specs.Layout.{Layout, Within, Between}
use Rattle.network.specs.Chain.{Chained}

abbrev pub number_on : Axis → ℤ × ℤ → ℤ
number_on First p = p.0
number_on Second p = p.1

-- r is the least of m numbers
pub record Least (m : ℕ) (a : ℕ → ℤ) (r : ℤ) : Type 0 where
  pub bound : (i : ℕ) → i < m → r ≤ℤ a i
  pub reached : (i : ℕ) × (i < m) × (a i ≡ r)

-- r is the greatest of m numbers
pub record Most (m : ℕ) (a : ℕ → ℕ) (r : ℕ) : Type 0 where
  pub bound : (i : ℕ) → i < m → a i ≤ r
  pub reached : (i : ℕ) × (i < m) × (a i ≡ r)

-- the positions lie in the field and meet the layout, as far as one axis goes; a are the readings of the points on it
pub record MeetsOn (L : Layout) (a x : ℕ → ℤ) : Type 0 where
  pub field : (j : ℕ) → j < L.pillars → Between L.points a (x j)
  pub feeders : (i j : ℕ) → i < L.points → j < L.pillars → Within (unsigned_abs (a i -ℤ x j)) (L.feeder i j)
  pub links : (j k : ℕ) → j < L.pillars → k < L.pillars → Within (unsigned_abs (x j -ℤ x k)) (L.link j k)

pub record GreatestOn (L : Layout) (a x : ℕ → ℤ) : Type 0 where
  pub meets : MeetsOn L a x
  pub greatest : (y : ℕ → ℤ) → MeetsOn L a y → (j : ℕ) → j < L.pillars → y j ≤ℤ x j

-- a chain that is too short on one axis
pub record ShortOn (L : Layout) (a : ℕ → ℤ) (from to : ℕ) (pillars : List ℕ) (total : ℕ) : Type 0 where
  pub chain : Chained L.points L.pillars L.feeder L.link from to pillars total
  pub short : total < unsigned_abs (a from -ℤ a to)

-- what the problem on one axis answers: the greatest positions with 0 behind them, or a chain that is too short
abbrev pub SolvedOn : Layout → (ℕ → ℤ) → Result (List ℤ) Chain → Type 0
SolvedOn L a (Ok xs) = GreatestOn L a (λ j. slice_index_or xs j (pos 0)) × ((j : ℕ) → L.pillars ≤ j → slice_index_or xs j (pos 0) ≡ pos 0)
SolvedOn L a (Err e) = ShortOn L a e.from e.to (listed e.pillars) e.total
