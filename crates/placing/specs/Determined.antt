-- Two answers to one plan and one list: the rules of Place and Why leave free only which chain is told.
use Rattle.std.specs.Prelude.{◌≡◌, ℕ, max, List, drop, Ok, Err, Result}
use Rattle.yard.specs.declared.fault.Refusal.{Refusal}
use Rattle.placing.specs.declared.answer.Reason.{Reason}
use Rattle.placing.specs.declared.answer.Reason.TheVariants.{Floor, Fixed, Chain, Clash}
use Rattle.placing.specs.Steps.{count_told}

-- the same reason: which chain is told is free
abbrev pub SameReason : Reason → Reason → Type 0
SameReason Floor Floor = Unit {0}
SameReason Floor (Fixed s) = ⊥
SameReason Floor (Chain d) = ⊥
SameReason Floor (Clash d) = ⊥
SameReason (Fixed r) Floor = ⊥
SameReason (Fixed r) (Fixed s) = r ≡ s
SameReason (Fixed r) (Chain d) = ⊥
SameReason (Fixed r) (Clash d) = ⊥
SameReason (Chain c) Floor = ⊥
SameReason (Chain c) (Fixed s) = ⊥
SameReason (Chain c) (Chain d) = Unit {0}
SameReason (Chain c) (Clash d) = ⊥
SameReason (Clash c) Floor = ⊥
SameReason (Clash c) (Fixed s) = ⊥
SameReason (Clash c) (Chain d) = ⊥
SameReason (Clash c) (Clash d) = Unit {0}

-- the same answer of Why, with the same list behind the longer chain told
abbrev pub SameWhy : Result Reason Refusal → Result Reason Refusal → List ℕ → List ℕ → Type 0
SameWhy (Ok a) (Ok b) after after' =
    SameReason a b × (drop (max (count_told a) (count_told b)) after ≡ drop (max (count_told a) (count_told b)) after')
SameWhy (Ok a) (Err s) after after' = ⊥
SameWhy (Err r) (Ok b) after after' = ⊥
SameWhy (Err r) (Err s) after after' = (r ≡ s) × (after ≡ after')
