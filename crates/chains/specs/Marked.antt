-- What is found in a table of marks, where `true` stands for a finished pillar. Assumes nothing.
use Rattle.std.specs.Prelude.{◌≡◌, ℕ, ◌<◌, Bool, true, false, List, slice_index_or}

abbrev pub Finished : List Bool → ℕ → Type 0
Finished marked p = slice_index_or marked p false ≡ true

abbrev pub Unfinished : List Bool → ℕ → Type 0
Unfinished marked p = slice_index_or marked p false ≡ false

-- u is an unfinished pillar, and its value is at least as good as that of each other one
pub record BestUnfinished {M : Type 0} (leq : M → M → Bool) (marked : List Bool) (n : ℕ) (worth : ℕ → M) (u : ℕ) : Type 0 where
  pub pillar : u < n
  pub unfinished : Unfinished marked u
  pub least : (k : ℕ) → k < n → Unfinished marked k → leq (worth u) (worth k) ≡ true
