-- The lines of an input.
use Rattle.std.specs.Prelude.{◌≡◌, ℕ, ◌<◌, cond, ◌⊎◌, List, [], ◌∷◌, ◌++◌, length, ◌==◌, ◌≢◌}
use Rattle.std.specs.List.{AllByRecursion}

-- the first line of an input that has bytes, and what comes after its end
pub record FirstLine (input line rest : List ℕ) : Type 0 where
  pub some_bytes : 0 < length input
  pub unbroken : AllByRecursion (λ b. b ≢ 10) line
  pub whole : (input ≡ line ++ (10 ∷ rest)) ⊎ ((input ≡ line) × (rest ≡ []))

abbrev pub onto_first : ℕ → List (List ℕ) → List (List ℕ)
onto_first b [] = (b ∷ []) ∷ []
onto_first b (l ∷ ls) = (b ∷ l) ∷ ls

-- all lines: a line feed ends a line, any other byte is the first of the line that it stands in
abbrev pub lines_of : List ℕ → List (List ℕ)
lines_of [] = []
lines_of (b ∷ bs) = cond (b == 10) ([] ∷ lines_of bs) (onto_first b (lines_of bs))
