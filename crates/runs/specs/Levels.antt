-- Placings of a plan's pillars, what they cost, and the least level.
use Rattle.std.specs.Prelude.{◌≡◌, ℕ, ◌<◌, ◌≤◌, max, List, [], ◌∷◌, map, length, ℤ, ◌≤ℤ◌, Option, slice_index_or}
use Rattle.std.specs.List.{AllByRecursion}
use Rattle.std.specs.Option.{unwrap_or}
use Rattle.yard.specs.Grid.{IsReading}
use Rattle.yard.specs.declared.force.InForce.{InForce}
use Rattle.yard.specs.declared.force.Run.{Run}
use Rattle.yard.specs.declared.force.Run.TheVariants.{Feeder, Link}
use Rattle.runs.specs.Spots.{Spot, OnTrenches, steps_between, twice_sum, twice_difference, origin, mast_spot, StandsAt}
use Rattle.runs.specs.Order.{runs_of, run_terms}
use Rattle.runs.specs.Pricing.{price_at, KeepsLimit}

-- a placing gives each pillar a spot
abbrev pub Placing : Type 0
Placing = List Spot

abbrev pub site_at : Placing → ℕ → Spot
site_at P p = slice_index_or P p origin

abbrev pub spot_or_origin : Option Spot → Spot
spot_or_origin o = unwrap_or o origin

-- the length and the price of a run
abbrev pub length_of : InForce → Placing → Run → ℕ
length_of F P (Feeder m p) = steps_between (spot_or_origin (mast_spot F m)) (site_at P p)
length_of F P (Link p q) = steps_between (site_at P p) (site_at P q)

abbrev pub price_of : InForce → Placing → Run → ℕ
price_of F P r = price_at (run_terms F r) (length_of F P r)

abbrev pub greatest : List ℕ → ℕ
greatest [] = 0
greatest (n ∷ ns) = max n (greatest ns)

-- the level of a placing: the greatest price of a run
abbrev pub level_of : InForce → Placing → ℕ
level_of F P = greatest (map (price_of F P) (runs_of F))

-- no run is longer than its limit
abbrev pub KeepsLimits : InForce → Placing → Type 0
KeepsLimits F P = AllByRecursion (λ r. KeepsLimit (length_of F P r) (run_terms F r).limit) (runs_of F)

-- any placing at all: one site a pillar, however far out
abbrev pub Rival : InForce → Placing → Type 0
Rival F P = (length P ≡ F.count) × AllByRecursion OnTrenches P

-- no placing keeps all limits
abbrev pub NoneKeeps : InForce → Type 0
NoneKeeps F = (R : Placing) → Rival F R → KeepsLimits F R → ⊥

-- a number of a spot lies between the least and the greatest of the standing masts
abbrev pub BetweenMasts : InForce → (Spot → ℤ) → Spot → Type 0
BetweenMasts F of s =
    ((m : ℕ) × (a : Spot) × StandsAt F m a × (of a ≤ℤ of s)) × ((m : ℕ) × (a : Spot) × StandsAt F m a × (of s ≤ℤ of a))

-- the field: by sum and by difference between the masts
abbrev pub InTheField : InForce → Placing → Type 0
InTheField F P = AllByRecursion (λ s. BetweenMasts F twice_sum s × BetweenMasts F twice_difference s) P

-- no placing that keeps all limits has a lower level
abbrev pub NoneLower : InForce → ℕ → Type 0
NoneLower F L = (R : Placing) → Rival F R → KeepsLimits F R → L ≤ level_of F R

-- the least level of all placings that keep all limits
pub record LeastLevel (F : InForce) (L : ℕ) : Type 0 where
  pub reached : (P : Placing) × Rival F P × KeepsLimits F P × (level_of F P ≡ L)
  pub none_lower : NoneLower F L

-- at no pillar is R's sum or difference larger than P's
abbrev pub NoLarger : InForce → Placing → Placing → Type 0
NoLarger F R P =
    (p : ℕ) → p < F.count → (twice_sum (site_at R p) ≤ℤ twice_sum (site_at P p)) × (twice_difference (site_at R p) ≤ℤ twice_difference (site_at P p))

-- readings are those of the sites, pillar by pillar
abbrev pub ReadAs : InForce → Placing → (ℕ → ℤ × ℤ) → Type 0
ReadAs F P at = (j : ℕ) → j < F.count → IsReading (site_at P j).hx (site_at P j).hy (at j)

-- The placing in the field with no run above L in which each pillar's sum and difference are largest.
pub record Found (F : InForce) (L : ℕ) (P : Placing) : Type 0 where
  pub sites : Rival F P
  pub in_field : InTheField F P
  pub keeps : KeepsLimits F P
  pub no_more : level_of F P ≤ L
  pub largest : (R : Placing) → Rival F R → InTheField F R → KeepsLimits F R → level_of F R ≤ L → NoLarger F R P
