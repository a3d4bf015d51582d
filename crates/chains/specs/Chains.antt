-- Chains of pillars, their values, and what a search for the best of them answers. Assumes nothing.
-- A chain to a pillar v is given by the list of its earlier pillars, the nearest first: `v` and `u ∷ p ∷ []` stand for the chain that is entered at p and goes by u to v.
use Rattle.std.specs.Prelude.{◌≡◌, ℕ, ◌+◌, ◌<◌, ◌≤◌, Bool, true, ◌≢◌, List, [], ◌∷◌, reverse, length, slice_index, slice_index_or}
use Rattle.std.specs.List.{AllByRecursion}

-- The value of a chain: of entering at its first pillar, joined with each run to the next one. `first p` is the value of entering at p, `run u v` that of the run between u and v.
abbrev pub chain_value : {M : Type 0} → (M → M → M) → (ℕ → M) → (ℕ → ℕ → M) → ℕ → List ℕ → M
chain_value op first run v [] = first v
chain_value op first run v (u ∷ c) = op (chain_value op first run u c) (run u v)

-- every pillar of the chain is one of the n pillars
abbrev pub Chain : ℕ → ℕ → List ℕ → Type 0
Chain n v c = AllByRecursion (λ p. p < n) (v ∷ c)

-- no pillar stands twice
abbrev pub Different : List ℕ → Type 0
Different [] = Unit {0}
Different (p ∷ ps) = AllByRecursion (λ q. q ≢ p) ps × Different ps

-- `before` tells the chain: it holds the previous pillar of each pillar on it, and at the first one that pillar itself
abbrev pub Told : (ℕ → ℕ) → ℕ → List ℕ → Type 0
Told before v [] = before v ≡ v
Told before v (u ∷ c) = (before v ≡ u) × (u ≢ v) × Told before u c

-- `before` tells this chain, and it has no more pillars than there are
pub record Traced (n : ℕ) (before : ℕ → ℕ) (v : ℕ) (c : List ℕ) : Type 0 where
  pub chain : Chain n v c
  pub short : length c < n
  pub told : Told before v c

-- a chain of different pillars to v that `before` tells, and whose value is x
pub record Leads {M : Type 0} (op : M → M → M) (first : ℕ → M) (run : ℕ → ℕ → M) (n : ℕ) (before : ℕ → ℕ) (v : ℕ) (x : M) (c : List ℕ) : Type 0 where
  pub traced : Traced n before v c
  pub different : Different (v ∷ c)
  pub worth : chain_value op first run v c ≡ x

-- What the search answers over n pillars: `best v` is the value of some chain of different pillars to v, which `before` tells, and it is at least as good as the value of every chain to v.
pub record BestFound {M : Type 0} (op : M → M → M) (leq : M → M → Bool) (first : ℕ → M) (run : ℕ → ℕ → M) (n : ℕ) (best : ℕ → M) (before : ℕ → ℕ) : Type 0 where
  pub some : (v : ℕ) → v < n → (c : List ℕ) × Leads op first run n before v (best v) c
  pub least : (v : ℕ) (c : List ℕ) → Chain n v c → leq (best v) (chain_value op first run v c) ≡ true

-- what tables hold: the value at a pillar, that of the run between two, and the previous pillar of one
abbrev pub value_at : {M : Type 0} → M → List M → ℕ → M
value_at empty table v = slice_index_or table v empty

abbrev pub run_at : {M : Type 0} → M → List (List M) → ℕ → ℕ → M
run_at empty table u v = slice_index_or (slice_index_or table u []) v empty

abbrev pub pillar_at : List ℕ → ℕ → ℕ
pillar_at table v = slice_index table v

-- behind the last of n pillars the tables hold what they held
abbrev pub StaysBehind : {M : Type 0} → M → ℕ → List M → List ℕ → List M → List ℕ → Type 0
StaysBehind empty n values before values' before' = (v : ℕ) → n ≤ v → (value_at empty values' v ≡ value_at empty values v) × (pillar_at before' v ≡ pillar_at before v)

-- behind the last of n pillars each value is that of the empty chain, and each previous pillar is 255, which is none: no chain is told there
abbrev pub NoneBehind : {M : Type 0} → M → ℕ → List M → List ℕ → Type 0
NoneBehind empty n values before = (v : ℕ) → n ≤ v → (value_at empty values v ≡ empty) × (v < 12 → pillar_at before v ≡ 255)

-- the tables of a plan: at most twelve pillars, and a row of runs for each
pub record PlanFits {M : Type 0} (first : List M) (runs : List (List M)) : Type 0 where
  pub few : length first ≤ 12
  pub rows : length runs ≡ length first

-- What is read out of the table `before`: the pillars of the chain to v that it tells, from the first on.
pub record ReadOut (before : List ℕ) (v : ℕ) (pillars : List ℕ) : Type 0 where
  pub passed : List ℕ
  pub traced : Traced (length before) (pillar_at before) v passed
  pub told : pillars ≡ reverse (v ∷ passed)

-- nothing can be read out: each chain to v that `before` tells has more than `room` pillars
abbrev pub Unread : List ℕ → ℕ → ℕ → Type 0
Unread before v room = (passed : List ℕ) → Traced (length before) (pillar_at before) v passed → room < length passed + 1
