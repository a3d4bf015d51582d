-- What Place and Why answer, and what they leave in the caller's list.
use Rattle.std.specs.Prelude.{◌≡◌, ℕ, ◌-◌, ◌*◌, ◌<◌, ◌≤◌, ◌⊎◌, List, [], ◌∷◌, ◌++◌, length, drop, ℤ, Ok, Err, Result, ◌≢◌}
use Rattle.std.specs.List.{AllByRecursion}
use Rattle.chains.specs.Measures.{Steps}
use Rattle.yard.specs.declared.force.InForce.{InForce}
use Rattle.yard.specs.declared.force.Run.{Run}
use Rattle.yard.specs.declared.fault.Refusal.{Refusal}
use Rattle.yard.specs.declared.fault.Rule.TheVariants as rule
use Rattle.yard.specs.Rows.{refusal_of}
use Rattle.runs.specs.Spots.{SomeMast}
use Rattle.runs.specs.Order.{runs_of, run_terms, FirstWith}
use Rattle.runs.specs.Levels.{Placing, level_of, KeepsLimits, Rival, NoneKeeps, InTheField, NoneLower, LeastLevel, NoLarger}
use Rattle.runs.specs.Tying.{LowestLoose, Ready}
use Rattle.runs.specs.Shortness.{run_limit, reach_of, TooShort}
use Rattle.placing.specs.declared.answer.ChainTold.{ChainTold}
use Rattle.placing.specs.declared.answer.Reason.{Reason}
use Rattle.placing.specs.declared.answer.Reason.TheVariants.{Floor, Fixed, Chain, Clash}

-- The rows that Place and Why share, in their order: too few entries, no mast, a loose pillar. `need` entries are enough, and the list has `room`.
abbrev pub Bars : InForce → ℕ → ℕ → Refusal → Type 0
Bars F need room r =
    ((room < need) × (r ≡ refusal_of rule.Room 0))
    ⊎ (((need ≤ room) × (SomeMast F → ⊥) × (r ≡ refusal_of rule.NoMast 0))
    ⊎ ((p : ℕ) × (need ≤ room) × SomeMast F × LowestLoose F p × (r ≡ refusal_of rule.Loose p)))

-- The placing in the field at the least level in which each pillar's sum and difference are largest.
pub record Placed (F : InForce) (L : ℕ) (P : Placing) : Type 0 where
  pub sites : Rival F P
  pub in_field : InTheField F P
  pub keeps : KeepsLimits F P
  pub level_is : level_of F P ≡ L
  pub least : NoneLower F L
  pub largest : (R : Placing) → Rival F R → InTheField F R → KeepsLimits F R → level_of F R ≡ L → NoLarger F R P

-- the halves of a placing, pillar by pillar
abbrev pub halves_of : Placing → List ℤ
halves_of [] = []
halves_of (s ∷ P) = s.hx ∷ s.hy ∷ halves_of P

-- What Place answers on a plan, given the list before and after it: a level, with the halves at the head of the list; or a refusal, with the list as it was.
abbrev pub PlaceStep : InForce → List ℤ → Result ℕ Refusal → List ℤ → Type 0
PlaceStep F before (Ok L) after =
    Ready F × (2 * F.count ≤ length before) × ((P : Placing) × Placed F L P × (after ≡ halves_of P ++ drop (2 * F.count) before))
PlaceStep F before (Err r) after =
    (after ≡ before)
    × (Bars F (2 * F.count) (length before) r
    ⊎ (Ready F × (2 * F.count ≤ length before) × NoneKeeps F × (r ≡ refusal_of rule.Unkept 0)))

-- a chain, as it is told, is too short
abbrev pub ToldShort : InForce → (Run → Steps) → ChainTold → List ℕ → Type 0
ToldShort F of c pillars = TooShort F of c.from c.to c.gap c.total pillars

-- Why no level below the least level L exists: it is 0; or it is a fixed price, of which the first run is named; or a chain is too short at one cent less.
abbrev pub Because : InForce → ℕ → Reason → List ℕ → Type 0
Because F L Floor pillars = L ≡ 0
Because F L (Fixed r) pillars = (0 < L) × FirstWith (λ s. (run_terms F s).fixed ≡ L) (runs_of F) r
Because F L (Chain c) pillars = (0 < L) × AllByRecursion (λ s. (run_terms F s).fixed ≢ L) (runs_of F) × ToldShort F (reach_of F (L - 1)) c pillars
Because F L (Clash c) pillars = ⊥

-- a reason is right: the limits along a chain clash, or there is a least level and this is why it is no lower
abbrev pub Reasoned : InForce → Reason → List ℕ → Type 0
Reasoned F (Clash c) pillars = ToldShort F (run_limit F) c pillars
Reasoned F Floor pillars = (L : ℕ) × LeastLevel F L × Because F L Floor pillars
Reasoned F (Fixed r) pillars = (L : ℕ) × LeastLevel F L × Because F L (Fixed r) pillars
Reasoned F (Chain c) pillars = (L : ℕ) × LeastLevel F L × Because F L (Chain c) pillars

-- how many pillars a reason tells
abbrev pub count_told : Reason → ℕ
count_told Floor = 0
count_told (Fixed r) = 0
count_told (Chain c) = c.count
count_told (Clash c) = c.count

-- What Why answers on a plan: a reason, with its chain's pillars at the head of the list; or a refusal, with the list as it was.
abbrev pub WhyStep : InForce → List ℕ → Result Reason Refusal → List ℕ → Type 0
WhyStep F before (Ok a) after =
    Ready F × (F.count ≤ length before)
    × ((pillars : List ℕ) × Reasoned F a pillars × (count_told a ≡ length pillars) × (after ≡ pillars ++ drop (length pillars) before))
WhyStep F before (Err r) after = (after ≡ before) × Bars F F.count (length before) r
