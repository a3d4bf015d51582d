-- What complete pages promise, page by page.
use Rattle.std.specs.Prelude.{◌≡◌, ℕ, zero, suc, ◌*◌, ◌<◌, ◌≤◌, ◌⊎◌, List, [], ◌∷◌, ◌++◌, map, take, ℤ, Ok, Err, Result}
use Rattle.network.specs.Chain.{AddTo}
use Rattle.yard.specs.declared.force.InForce.{InForce}
use Rattle.yard.specs.declared.fault.Refusal.{Refusal}
use Rattle.yard.specs.declared.fault.Rule.TheVariants as rule
use Rattle.yard.specs.Force.{opened_at}
use Rattle.yard.specs.Rows.{refusal_of}
use Rattle.yard.specs.Edits.{answered}
use Rattle.runs.specs.Spots.{Spot, StandsAt, steps_between}
use Rattle.runs.specs.Levels.{Placing, level_of, KeepsLimits, Rival, NoneKeeps, InTheField, NoneLower, NoLarger}
use Rattle.runs.specs.Tying.{Ready}
use Rattle.runs.specs.Shortness.{run_limit, chain_runs}
use Rattle.placing.specs.declared.answer.ChainTold.{ChainTold}
use Rattle.placing.specs.declared.answer.Reason.{Reason}
use Rattle.placing.specs.declared.answer.Reason.TheVariants.{Floor, Fixed, Chain, Clash}
use Rattle.placing.specs.Steps.{Reasoned, count_told}
use Rattle.book.specs.Pages.{SitePage, edited_by, placed_on, asked_on, entry_told, in_force_from, Complete}

-- the placing of so many pillars at the head of a list of halves
abbrev pub sites_in : ℕ → List ℤ → Placing
sites_in zero hs = []
sites_in (suc n) [] = []
sites_in (suc n) (x ∷ []) = []
sites_in (suc n) (x ∷ y ∷ hs) = record { hx = x; hy = y } ∷ sites_in n hs

-- A Place on what is in force, with a list of so many entries. Where it answers a level:
-- the list has a placing in the field that keeps all limits, at that level;
-- no placing whatsoever that keeps all limits has a lower one;
-- and none in the field at that level has a pillar whose sum or difference is larger.
-- On a plan with a mast and no loose pillar, and with entries enough, it answers a level, or refuses since no placing keeps all limits.
pub record PlaceHolds (F : InForce) (n : ℕ) (a : Result ℕ Refusal) (hs : List ℤ) : Type 0 where
  pub sites : (L : ℕ) → a ≡ Ok L → let P = sites_in F.count hs in Rival F P × InTheField F P × KeepsLimits F P × (level_of F P ≡ L)
  pub rivals : (L : ℕ) → a ≡ Ok L → NoneLower F L
  pub largest : (L : ℕ) → a ≡ Ok L →
      (R : Placing) → Rival F R → InTheField F R → KeepsLimits F R → level_of F R ≡ L → NoLarger F R (sites_in F.count hs)
  pub refuses : Ready F → 2 * F.count ≤ n →
      ((a ≡ Err (refusal_of rule.Unkept 0)) × NoneKeeps F) ⊎ (((L : ℕ) × (a ≡ Ok L)) × (NoneKeeps F → ⊥))

abbrev pub IsClash : Reason → Type 0
IsClash Floor = ⊥
IsClash (Fixed r) = ⊥
IsClash (Chain c) = ⊥
IsClash (Clash c) = Unit {0}

-- both masts of a chain stand, and farther apart than the limits along the chain add up to
pub record FartherThanLimits (F : InForce) (c : ChainTold) (pillars : List ℕ) : Type 0 where
  pub lower_foot : Spot
  pub higher_foot : Spot
  pub lower_stands : StandsAt F c.from lower_foot
  pub higher_stands : StandsAt F c.to higher_foot
  pub limits_add : AddTo (map (run_limit F) (chain_runs c.from pillars c.to)) c.total
  pub farther : c.total < steps_between lower_foot higher_foot

-- A Why on what is in force, with a list of so many entries.
-- On a plan with a mast and no loose pillar, and with entries enough, it answers a reason, which is a clash exactly where no placing keeps all limits.
-- Each reason that it answers is right, with its pillars at the head of the list; and the masts of a clash stand farther apart than the limits between them allow.
pub record WhyHolds (F : InForce) (n : ℕ) (a : Result Reason Refusal) (ps : List ℕ) : Type 0 where
  pub answers : Ready F → F.count ≤ n → (w : Reason) × (a ≡ Ok w) × ((IsClash w → NoneKeeps F) × (NoneKeeps F → IsClash w))
  pub reasoned : (w : Reason) → a ≡ Ok w → Reasoned F w (take (count_told w) ps)
  pub clashes : (c : ChainTold) → a ≡ Ok (Clash c) → FartherThanLimits F c (take c.count ps)

abbrev pub PageHolds : InForce → SitePage → Type 0
PageHolds F (edited_by e a) = a ≡ entry_told (answered F e)
PageHolds F (placed_on n a hs) = PlaceHolds F n a hs
PageHolds F (asked_on n a ps) = WhyHolds F n a ps

-- on each page what it promises holds of what the pages before it left in force
abbrev pub BookHolds : List SitePage → Type 0
BookHolds written = (before rest : List SitePage) (g : SitePage) → written ≡ before ++ (g ∷ rest) → ∥ PageHolds (in_force_from (opened_at 1) before) g ∥₁

-- any pages that are complete for some plan promise this
abbrev pub SiteBook : Type 0
SiteBook = (written : List SitePage) (F : InForce) → Complete written F → BookHolds written
