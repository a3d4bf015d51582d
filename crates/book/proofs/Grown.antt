-- How the pages of a book begin and grow.
use Rattle.std.proofs.Common.{◌≡◌, List, [], ◌∷◌, ◌++◌, sym, refl, ap, ◌∙◌}
use mathlib.Core.Logic.{∥∥₁_elim, ∥∥₁_prop}
use Rattle.std.proofs.lemmas.List.{map_push}
use Rattle.yard.specs.declared.force.InForce.{InForce}
use Rattle.yard.specs.Force.{opened_at}
use Rattle.book.specs.declared.page.Page.{Page}
use Rattle.book.specs.Pages.{SitePage, HonestPage, after_page, in_force_from, HonestFrom, Complete}
use Rattle.book.specs.Promise.{BookHolds}
use Rattle.book.specs.Kept.{page_of, pages_of}
use Rattle.book.proofs.Promise.{site_book}

force_push : (F : InForce) (gs : List SitePage) (g : SitePage) → in_force_from F (gs ++ (g ∷ [])) ≡ after_page (in_force_from F gs) g
force_push F [] g = refl
force_push F (h ∷ gs) g = force_push (after_page F h) gs g

honest_push : (F : InForce) (gs : List SitePage) (g : SitePage) → HonestFrom F gs → HonestPage (in_force_from F gs) g → HonestFrom F (gs ++ (g ∷ []))
honest_push F [] g h k = (k, tt)
honest_push F (p ∷ gs) g h k = (h.0, honest_push (after_page F p) gs g h.1 k)

complete_push : (F : InForce) (gs : List SitePage) (g : SitePage) → Complete gs F → HonestPage F g → Complete (gs ++ (g ∷ [])) (after_page F g)
complete_push F gs g d k = record {
  plan_stands = ap (λ (G : InForce). after_page G g) d.plan_stands ∙ sym (force_push (opened_at 1) gs g);
  all_honest = honest_push (opened_at 1) gs g d.all_honest (rw (sym d.plan_stands) k);
}

-- a page more
pub complete_more : (F G : InForce) (xs ys zs : List Page) (x : Page) →
    ∥ Complete (pages_of xs) F ∥₁ → ys ≡ xs → zs ≡ ys ++ (x ∷ []) → G ≡ after_page F (page_of x) → HonestPage F (page_of x) → ∥ Complete (pages_of zs) G ∥₁
complete_more F G xs ys zs x d e n f k = rw (n, f, e, map_push page_of xs x) (∥∥₁_elim d ∥∥₁_prop (λ w. ∣ complete_push F (pages_of xs) (page_of x) w k ∣₁))

pub book_holds : (F : InForce) (gs : List SitePage) → ∥ Complete gs F ∥₁ → BookHolds gs
book_holds F gs d before rest g e = ∥∥₁_elim d ∥∥₁_prop (λ w. site_book gs F w before rest g e)
