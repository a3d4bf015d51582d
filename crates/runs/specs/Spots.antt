-- Spots on the trench grid, by twice their x and twice their y.
use Rattle.std.specs.Prelude.{◌≡◌, ℕ, ◌%◌, ℤ, pos, ◌+ℤ◌, ◌-ℤ◌, Some, Option, unsigned_abs}
use Rattle.std.specs.Option.{option_map, option_map_or}
use Rattle.yard.specs.declared.force.InForce.{InForce}
use Rattle.yard.specs.declared.force.Mast.{Mast}
use Rattle.yard.specs.declared.force.Point.{Point}
use Rattle.yard.specs.Force.{mast_at}
use Rattle.yard.specs.Grid.{distance}

-- twice the x and twice the y of a spot
pub record Spot : Type 0 where
  pub hx : ℤ
  pub hy : ℤ

-- a crossing of trenches has both halves even and the middle of a trench square both odd; how far out it lies is left open
abbrev pub OnTrenches : Spot → Type 0
OnTrenches s = unsigned_abs s.hx % 2 ≡ unsigned_abs s.hy % 2

-- the length between two spots in steps
abbrev pub steps_between : Spot → Spot → ℕ
steps_between a b = distance a.hx a.hy b.hx b.hy

-- twice the sum and twice the difference of a spot's x and y
abbrev pub twice_sum : Spot → ℤ
twice_sum s = s.hx +ℤ s.hy

abbrev pub twice_difference : Spot → ℤ
twice_difference s = s.hx -ℤ s.hy

-- the spot of a point
abbrev pub spot_of : Point → Spot
spot_of p = record { hx = p.x +ℤ p.x; hy = p.y +ℤ p.y }

abbrev pub origin : Spot
origin = record { hx = pos 0; hy = pos 0 }

-- where the mast of a number stands, if it does
abbrev pub foot_spot : Option Mast → Option Spot
foot_spot o = option_map (λ a. spot_of a.at) o

abbrev pub mast_spot : InForce → ℕ → Option Spot
mast_spot F m = foot_spot (mast_at F m)

abbrev pub StandsAt : InForce → ℕ → Spot → Type 0
StandsAt F m s = mast_spot F m ≡ Some s

-- some mast stands
abbrev pub SomeMast : InForce → Type 0
SomeMast F = (m : ℕ) × (s : Spot) × StandsAt F m s

-- where a mast stands, or else a point that stands in for it, and the reading of a point
abbrev pub foot_or : Option Mast → Point → Point
foot_or o p = option_map_or (λ a. a.at) o p

abbrev pub point_reading : Point → ℤ × ℤ
point_reading p = (p.x +ℤ p.y, p.x -ℤ p.y)
