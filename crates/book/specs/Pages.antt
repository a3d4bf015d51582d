-- The pages of a book of calls on a plan, and when they are complete.
use Rattle.std.specs.Prelude.{◌≡◌, ℕ, List, [], ◌∷◌, length, ℤ, Ok, Err, Result}
use Rattle.yard.specs.declared.edit.Edit.{Edit}
use Rattle.yard.specs.declared.fault.EntryFault.{EntryFault}
use Rattle.yard.specs.declared.fault.Refusal.{Refusal}
use Rattle.yard.specs.declared.force.InForce.{InForce}
use Rattle.yard.specs.Force.{opened_at}
use Rattle.yard.specs.Rows.{entry_refusal}
use Rattle.yard.specs.Edits.{answered, after_edit}
use Rattle.placing.specs.declared.answer.Reason.{Reason}
use Rattle.placing.specs.Steps.{PlaceStep, WhyStep}

-- A page of the book: an edit with its answer; or a Place or a Why with its list's length, its answer and the list after it. Refusals stand as they are told.
pub data SitePage : Type 0 where
  edited_by : Edit → Result (Unit {0}) Refusal → SitePage
  placed_on : ℕ → Result ℕ Refusal → List ℤ → SitePage
  asked_on : ℕ → Result Reason Refusal → List ℕ → SitePage

-- an edit's answer with its refusal as it is told
abbrev pub entry_told : Result (Unit {0}) EntryFault → Result (Unit {0}) Refusal
entry_told (Ok u) = Ok u
entry_told (Err f) = Err (entry_refusal f)

-- A page is honest on what was in force when it was written: its answer, and its list after the call, are what the rules give; of the list before, the page keeps the length alone.
abbrev pub HonestPage : InForce → SitePage → Type 0
HonestPage F (edited_by e a) = a ≡ entry_told (answered F e)
HonestPage F (placed_on n a hs) = (before : List ℤ) × (length before ≡ n) × PlaceStep F before a hs
HonestPage F (asked_on n a ps) = (before : List ℕ) × (length before ≡ n) × WhyStep F before a ps

-- what is in force after a page, and after several: edits alone count
abbrev pub after_page : InForce → SitePage → InForce
after_page F (edited_by e a) = after_edit F e
after_page F (placed_on n a hs) = F
after_page F (asked_on n a ps) = F

abbrev pub in_force_from : InForce → List SitePage → InForce
in_force_from F [] = F
in_force_from F (g ∷ gs) = in_force_from (after_page F g) gs

-- each page is honest on what the pages before it left in force
abbrev pub HonestFrom : InForce → List SitePage → Type 0
HonestFrom F [] = Unit {0}
HonestFrom F (g ∷ gs) = HonestPage F g × HonestFrom (after_page F g) gs

-- Pages are complete for what is in force if it is what their edits made of a new plan, and each page says what its call did.
pub record Complete (written : List SitePage) (F : InForce) : Type 0 where
  pub plan_stands : F ≡ in_force_from (opened_at 1) written
  pub all_honest : HonestFrom (opened_at 1) written
