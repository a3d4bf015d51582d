-- Chains of runs between two masts, and when one is too short.
use Rattle.std.specs.Prelude.{◌≡◌, ℕ, ◌<◌, List, [], ◌∷◌, map, length, Option}
use Rattle.std.specs.List.{AllByRecursion}
use Rattle.std.specs.Option.{option_and_then}
use Rattle.chains.specs.Measures.{Steps}
use Rattle.chains.specs.Chains.{Different}
use Rattle.network.specs.Chain.{AddTo}
use Rattle.yard.specs.declared.force.InForce.{InForce}
use Rattle.yard.specs.declared.force.Mast.{Mast}
use Rattle.yard.specs.declared.force.Run.{Run}
use Rattle.yard.specs.declared.force.Run.TheVariants.{Feeder, Link}
use Rattle.runs.specs.Spots.{Spot, StandsAt, steps_between}
use Rattle.runs.specs.Order.{run_terms}
use Rattle.runs.specs.Pricing.{reach_at}

-- how far a run can go by its limit, and at a level
abbrev pub run_limit : InForce → Run → Steps
run_limit F r = (run_terms F r).limit

abbrev pub reach_of : InForce → ℕ → Run → Steps
reach_of F L r = reach_at (run_terms F r) L

-- from a number whose mast does not stand every reach is unlimited
abbrev pub if_stands : Option Mast → Steps → Steps
if_stands o r = option_and_then (λ _. r) o

-- the runs from a pillar on by further pillars to a mast
abbrev pub runs_onward : ℕ → List ℕ → ℕ → List Run
runs_onward p [] m = Feeder m p ∷ []
runs_onward p (q ∷ ps) m = Link p q ∷ runs_onward q ps m

-- the runs of a chain from a mast by pillars to a mast
abbrev pub chain_runs : ℕ → List ℕ → ℕ → List Run
chain_runs m [] n = []
chain_runs m (p ∷ ps) n = Feeder m p ∷ runs_onward p ps n

-- A chain from a standing mast by one or more different pillars to another standing mast of a higher number, whose runs each go so far and no farther,
-- and altogether `total` steps, which is less than `gap`, the length between the masts.
pub record TooShort (F : InForce) (of : Run → Steps) (from to gap total : ℕ) (pillars : List ℕ) : Type 0 where
  pub lower_first : from < to
  pub here : Spot
  pub there : Spot
  pub from_stands : StandsAt F from here
  pub to_stands : StandsAt F to there
  pub some_pillar : 0 < length pillars
  pub in_plan : AllByRecursion (λ p. p < F.count) pillars
  pub different : Different pillars
  pub gap_is : gap ≡ steps_between here there
  pub total_is : AddTo (map of (chain_runs from pillars to)) total
  pub short : total < gap
