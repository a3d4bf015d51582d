-- What each call does to a book.
use Rattle.std.specs.Prelude.{◌≡◌, ℕ, List, [], ◌∷◌, ◌++◌, length, ℤ, Ok, Err, vec_items, Result}
use Rattle.yard.specs.declared.edit.Edit.{Edit}
use Rattle.yard.specs.declared.fault.EntryFault.{EntryFault}
use Rattle.yard.specs.declared.force.InForce.{InForce}
use Rattle.yard.specs.Edits.{answered}
use Rattle.placing.specs.declared.answer.Reason.{Reason}
use Rattle.placing.specs.declared.fault.Barred.{Barred}
use Rattle.placing.specs.declared.fault.PlaceFault.{PlaceFault}
use Rattle.placing.specs.Refusals.{place_told, why_told}
use Rattle.placing.specs.Steps.{PlaceStep, WhyStep}
use Rattle.book.specs.declared.book.Book.{Book}
use Rattle.book.specs.Pages.{SitePage, edited_by, placed_on, asked_on, entry_told, after_page}
use Rattle.book.specs.Kept.{pages_of}

-- what is in force on a book's plan, and what its pages say
abbrev pub book_force : Book → InForce
book_force b = b.plan.force

abbrev pub book_pages : Book → List SitePage
book_pages b = pages_of (vec_items b.pages)

-- one page more, and what it leaves in force
pub record Adds (was is : Book) (g : SitePage) : Type 0 where
  pub page_added : book_pages is ≡ book_pages was ++ (g ∷ [])
  pub force_after : book_force is ≡ after_page (book_force was) g

-- the same pages, and the same in force
pub record Stays (was is : Book) : Type 0 where
  pub pages_stay : book_pages is ≡ book_pages was
  pub force_stays : book_force is ≡ book_force was

-- Each call adds its own page, with what the rules answer; where there is no memory for the page, the call is not made.
abbrev pub EditMade : {X : Type 0} → Book → Edit → Result (Result (Unit {0}) EntryFault) X → Book → Type 0
EditMade was e (Ok a) is = (a ≡ answered (book_force was) e) × Adds was is (edited_by e (entry_told a))
EditMade was e (Err x) is = Stays was is

abbrev pub PlaceMade : {X : Type 0} → Book → List ℤ → Result (Result ℕ PlaceFault) X → Book → List ℤ → Type 0
PlaceMade was before (Ok a) is after =
    PlaceStep (book_force was) before (place_told a) after × Adds was is (placed_on (length before) (place_told a) after)
PlaceMade was before (Err x) is after = Stays was is × (after ≡ before)

abbrev pub WhyMade : {X : Type 0} → Book → List ℕ → Result (Result Reason Barred) X → Book → List ℕ → Type 0
WhyMade was before (Ok a) is after =
    WhyStep (book_force was) before (why_told a) after × Adds was is (asked_on (length before) (why_told a) after)
WhyMade was before (Err x) is after = Stays was is × (after ≡ before)
