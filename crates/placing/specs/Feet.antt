-- Where the masts of a plan stand.
use Rattle.std.specs.Prelude.{◌≡◌, ℕ, ◌+◌, ◌<◌, ◌≤◌, Bool, false, ◌&&◌, ℤ, ◌+ℤ◌, ◌-ℤ◌, Some, None, Option}
use Rattle.std.specs.List.{list_any}
use Rattle.std.specs.Option.{option_map_or}
use Rattle.std.specs.Ordering.{int_eq}
use Rattle.yard.specs.declared.force.InForce.{InForce}
use Rattle.yard.specs.declared.force.Mast.{Mast}
use Rattle.yard.specs.declared.force.Point.{Point}
use Rattle.yard.specs.Force.{mast_at}
use Rattle.runs.specs.Spots.{Spot, StandsAt, foot_or, point_reading}
use Rattle.placing.specs.declared.ground.Feet.{Feet}

-- a mast stands at the point `first`, and every mast that stands has a number below `span`
pub record FeetOf (F : InForce) (f : Feet) : Type 0 where
  pub few : f.span ≤ 40
  pub mast : (m : ℕ) × (a : Mast) × (m < f.span) × (mast_at F m ≡ Some a) × (f.first ≡ a.at)
  pub covers : (m : ℕ) (s : Spot) → StandsAt F m s → m < f.span

-- the feet found so far and a mast of the number m
abbrev pub feet_with : Option Feet → ℕ → Point → Feet
feet_with found m p = record { first = option_map_or (λ f. f.first) found p; span = m + 1 }

-- the reading of a number's fixed point
abbrev pub point_for : InForce → Point → ℕ → ℤ × ℤ
point_for F first i = point_reading (foot_or (mast_at F i) first)

-- a mast stands and has this reading (a test, since it says so in a type's invariant)
abbrev pub reads : ℤ × ℤ → Option Mast → Bool
reads p (Some a) = int_eq (a.at.x +ℤ a.at.y) p.0 && int_eq (a.at.x -ℤ a.at.y) p.1
reads p None = false

-- some mast of the plan does
abbrev pub some_reads : InForce → ℤ × ℤ → Bool
some_reads F p = list_any (reads p) F.masts
