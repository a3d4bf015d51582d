-- The table of worked yards is right: each certificate passes the check, which antt computes.
use Rattle.std.proofs.Common.{ℕ, List, [], ◌∷◌, Some, None, Option, refl}
use Rattle.yards.specs.Table.{worked_yards, WorkedYardsRight}
use Rattle.yards.proofs.Finding.{found}
use Rattle.yards.proofs.Capping.{Way}
use Rattle.yards.proofs.Checking.{Certificate, each_right}

abbrev way : List ℕ → ℕ → Way
way ps m = record { onward = ps; mast = m }

abbrev one_pillar : Option Way → Option Way → Certificate
one_pillar s d = record { ties = way [] 0 ∷ []; sum_caps = s ∷ []; difference_caps = d ∷ [] }

-- in the order of the table
abbrev certificates : List Certificate
certificates =
    one_pillar (Some (way [] 0)) (Some (way [] 0)) ∷
    one_pillar (Some (way [] 0)) (Some (way [] 2)) ∷
    one_pillar None None ∷
    one_pillar (Some (way [] 0)) (Some (way [] 0)) ∷
    record {
      ties = way [] 0 ∷ way [] 1 ∷ [];
      sum_caps = Some (way [] 0) ∷ Some (way (0 ∷ []) 0) ∷ [];
      difference_caps = Some (way [] 0) ∷ Some (way (0 ∷ []) 0) ∷ [];
    } ∷
    one_pillar None None ∷
    one_pillar None None ∷
    one_pillar (Some (way [] 0)) None ∷ []

pub worked_yards_right : WorkedYardsRight
worked_yards_right = found (each_right worked_yards certificates) refl
