-- Which runs tie, and which pillars are loose.
use Rattle.std.specs.Prelude.{◌≡◌, ℕ, ◌<◌, Bool, true, false, ◌||◌, Some, None, Option, ◌≢◌, nat_lt, slice_index_or}
use Rattle.std.specs.List.{list_any}
use Rattle.std.specs.Option.{is_some}
use Rattle.yard.specs.declared.force.InForce.{InForce}
use Rattle.yard.specs.declared.force.Mast.{Mast}
use Rattle.yard.specs.declared.force.Terms.{Terms}
use Rattle.yard.specs.declared.force.Run.TheVariants.{Feeder, Link}
use Rattle.yard.specs.Force.{new_terms}
use Rattle.runs.specs.Spots.{Spot, StandsAt, SomeMast}
use Rattle.runs.specs.Order.{run_terms}

-- a run ties if its rate is above 0 or it has a limit
abbrev pub ties_by : Terms → Bool
ties_by t = nat_lt 0 t.rate || is_some t.limit

-- a mast stands, and its feeder to a pillar ties
abbrev pub mast_ties : ℕ → Option Mast → Bool
mast_ties p (Some a) = ties_by (slice_index_or a.feeders p new_terms)
mast_ties p None = false

-- one of the plan's masts does
abbrev pub is_fed : InForce → ℕ → Bool
is_fed F p = list_any (mast_ties p) F.masts

-- tying runs, each joined to the next at a pillar, lead from a pillar to a standing mast
pub data TiedDown (F : InForce) : ℕ → Type 0 where
  by_feeder : (m p : ℕ) (s : Spot) → StandsAt F m s → p < F.count → ties_by (run_terms F (Feeder m p)) ≡ true → TiedDown F p
  by_link : (p q : ℕ) → p < F.count → q < F.count → (p ≢ q) → ties_by (run_terms F (Link p q)) ≡ true → TiedDown F q → TiedDown F p

-- the mast of a number stands and has a tying feeder to the pillar
abbrev pub Feeds : InForce → ℕ → ℕ → Type 0
Feeds F m p = (s : Spot) × StandsAt F m s × (ties_by (run_terms F (Feeder m p)) ≡ true)

-- some standing mast has a tying feeder to the pillar (`is_fed` is the same as a test)
abbrev pub Fed : InForce → ℕ → Type 0
Fed F p = (m : ℕ) × Feeds F m p

abbrev pub IsLoose : InForce → ℕ → Type 0
IsLoose F p = TiedDown F p → ⊥

abbrev pub NoneLoose : InForce → Type 0
NoneLoose F = (p : ℕ) → p < F.count → TiedDown F p

abbrev pub LowestLoose : InForce → ℕ → Type 0
LowestLoose F p = (p < F.count) × IsLoose F p × ((q : ℕ) → q < p → TiedDown F q)

-- a mast stands and no pillar is loose
abbrev pub Ready : InForce → Type 0
Ready F = SomeMast F × NoneLoose F
