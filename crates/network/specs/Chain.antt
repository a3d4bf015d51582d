-- Chains between two fixed points, and when one is too short. Assumes nothing.
use Rattle.std.specs.Prelude.{◌≡◌, ℕ, ◌+◌, ◌<◌, ◌≢◌, List, [], ◌∷◌, ℤ, Some, None}
use Rattle.std.specs.List.{AllByRecursion}
use Rattle.chains.specs.Chains.{Different}
use Rattle.chains.specs.Measures.{Steps}
use Rattle.network.specs.Layout.{Layout, apart, Meets}

-- the reaches from the pillar p by the pillars ps to the point b
abbrev pub reaches_onward : (ℕ → ℕ → Steps) → (ℕ → ℕ → Steps) → ℕ → List ℕ → ℕ → List Steps
reaches_onward feeder link p [] b = feeder b p ∷ []
reaches_onward feeder link p (q ∷ ps) b = link p q ∷ reaches_onward feeder link q ps b

-- the reaches along the chain from the point a by the pillars p ∷ ps to the point b
abbrev pub reaches_along : (ℕ → ℕ → Steps) → (ℕ → ℕ → Steps) → ℕ → ℕ → List ℕ → ℕ → List Steps
reaches_along feeder link a p ps b = feeder a p ∷ reaches_onward feeder link p ps b

-- the reaches are all limited, and add up to t
abbrev pub AddTo : List Steps → ℕ → Type 0
AddTo [] t = t ≡ 0
AddTo (Some r ∷ more) t = (u : ℕ) × AddTo more u × (t ≡ r + u)
AddTo (None ∷ more) t = ⊥

-- A chain from the point a by different pillars, one at least, to the point b, whose reaches are all limited and add up to `total`. There are m points and n pillars.
pub record Chained (m n : ℕ) (feeder link : ℕ → ℕ → Steps) (a b : ℕ) (pillars : List ℕ) (total : ℕ) : Type 0 where
  pub from : a < m
  pub to : b < m
  pub start : ℕ
  pub rest : List ℕ
  pub listed : pillars ≡ start ∷ rest
  pub within : AllByRecursion (λ p. p < n) (start ∷ rest)
  pub different : Different (start ∷ rest)
  pub adds : AddTo (reaches_along feeder link a start rest b) total

-- A chain between two different points whose reaches add up to less than `gap`, the length between the two points.
pub record Short (L : Layout) (a b : ℕ) (pillars : List ℕ) (gap total : ℕ) : Type 0 where
  pub chain : Chained L.points L.pillars L.feeder L.link a b pillars total
  pub different_points : a ≢ b
  pub gap_is : gap ≡ apart (L.point a) (L.point b)
  pub short : total < gap

-- Where there is a short chain, no positions whatsoever meet the network.
abbrev pub ShortRulesOut : Type 0
ShortRulesOut = (L : Layout) (a b : ℕ) (pillars : List ℕ) (gap total : ℕ) → Short L a b pillars gap total → (position : ℕ → ℤ × ℤ) → Meets L position → ⊥
