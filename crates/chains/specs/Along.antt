-- Chains as they are read out, from the first pillar p on: p and the list of the further ones. Assumes nothing.
use Rattle.std.specs.Prelude.{◌≡◌, ℕ, ◌<◌, Bool, true, List, [], ◌∷◌, length}
use Rattle.std.specs.List.{AllByRecursion}
use Rattle.chains.specs.Chains.{Different, PlanFits}

-- the value x at p, joined with each run to the next pillar
abbrev pub value_onward : {M : Type 0} → (M → M → M) → (ℕ → ℕ → M) → M → ℕ → List ℕ → M
value_onward op run x p [] = x
value_onward op run x p (q ∷ ps) = value_onward op run (op x (run p q)) q ps

-- the value of a chain: of entering at p, and of each run between neighbours
abbrev pub value_along : {M : Type 0} → (M → M → M) → (ℕ → M) → (ℕ → ℕ → M) → ℕ → List ℕ → M
value_along op first run p ps = value_onward op run (first p) p ps

abbrev pub last_of : ℕ → List ℕ → ℕ
last_of p [] = p
last_of p (q ∷ ps) = last_of q ps

-- `pillars` are a chain of different pillars to v, of value x, and x is at least as good as the value of every chain to v, repeated pillars or not
pub record BestTo {M : Type 0} (op : M → M → M) (leq : M → M → Bool) (first : ℕ → M) (run : ℕ → ℕ → M) (n v : ℕ) (x : M) (pillars : List ℕ) : Type 0 where
  pub start : ℕ
  pub rest : List ℕ
  pub listed : pillars ≡ start ∷ rest
  pub within : AllByRecursion (λ p. p < n) (start ∷ rest)
  pub different : Different (start ∷ rest)
  pub ends : last_of start rest ≡ v
  pub worth : value_along op first run start rest ≡ x
  pub least : (p : ℕ) (ps : List ℕ) → AllByRecursion (λ q. q < n) (p ∷ ps) → last_of p ps ≡ v → leq x (value_along op first run p ps) ≡ true

-- a plan, and one of its pillars
pub record AsksFit {M : Type 0} (first : List M) (runs : List (List M)) (v : ℕ) : Type 0 where
  pub plan : PlanFits first runs
  pub pillar : v < length first
