-- The dearest of some runs, found run by run.
use Rattle.std.proofs.Common.{◌≡◌, ℕ, suc, ◌+◌, ◌-◌, ◌<◌, ◌≤◌, min, max, List, [], ◌∷◌, length, get_or, take, Some, Option, sym, ap, ◌∙◌, add-one, arith}
use native.Mathlib.Nat.{sub-zero}
use Rattle.std.proofs.lemmas.List.{get_or-take, get_or_default}
use Rattle.yard.specs.Force.{new_terms, mast_at}
use Rattle.yard.specs.declared.force.InForce.{InForce}
use Rattle.yard.specs.declared.force.Mast.{Mast}
use Rattle.yard.specs.declared.force.Terms.{Terms}
use Rattle.yard.specs.declared.force.Run.{Run}
use Rattle.yard.specs.declared.force.Run.TheVariants.{Feeder, Link}
use Rattle.runs.specs.declared.dearest.Priced.{Priced}
use Rattle.runs.specs.Order.{numbers_from, feeders_of, links_of}
use Rattle.yard.specs.declared.site.Site.{Site}
use Rattle.runs.specs.Pricing.{price_at}
use Rattle.runs.specs.Dearest.{length_at, price_by, dearer_of, dearest_from}

-- the numbers from i up to n: i and those after it, or none
pub numbers_more : (i n : ℕ) → i < n → numbers_from i (n - i) ≡ i ∷ numbers_from (i + 1) (n - (i + 1))
numbers_more i n h =
    let e : n - i ≡ suc (n - (i + 1)) = omega arith in rw (e, add-one i)

pub numbers_none : (i n : ℕ) → n ≤ i → numbers_from i (n - i) ≡ []
numbers_none i n h =
    let e : n - i ≡ 0 = omega arith in rw e

module _ (of : Run → ℕ) (best : Option Priced) (all : Option Priced) (n : ℕ) where
  -- one feeder more
  pub feeder_more : (m p x : ℕ) (next : Option Priced) → p < n → dearest_from of best (feeders_of m (numbers_from p (n - p))) ≡ all →
      next ≡ dearer_of best (Feeder m p) x → x ≡ of (Feeder m p) → dearest_from of next (feeders_of m (numbers_from (p + 1) (n - (p + 1)))) ≡ all
  feeder_more m p x next h inv e f =
      ap (λ b. dearest_from of b (feeders_of m (numbers_from (p + 1) (n - (p + 1))))) (e ∙ ap (dearer_of best (Feeder m p)) f)
      ∙ sym (ap (λ ps. dearest_from of best (feeders_of m ps)) (numbers_more p n h)) ∙ inv

  -- one link more, if it goes to a higher pillar
  pub link_more : (p q x : ℕ) (next : Option Priced) → q < n → p < q → dearest_from of best (links_of p (numbers_from (max q (p + 1)) (n - max q (p + 1)))) ≡ all →
      next ≡ dearer_of best (Link p q) x → x ≡ of (Link p q) → dearest_from of next (links_of p (numbers_from (max (q + 1) (p + 1)) (n - max (q + 1) (p + 1)))) ≡ all
  link_more p q x next h above inv e f =
      let here : max q (p + 1) ≡ q = omega arith in
      let onward : max (q + 1) (p + 1) ≡ q + 1 = omega arith in
      rw onward
      (ap (λ b. dearest_from of b (links_of p (numbers_from (q + 1) (n - (q + 1))))) (e ∙ ap (dearer_of best (Link p q)) f)
      ∙ sym (ap (λ qs. dearest_from of best (links_of p qs)) (numbers_more q n h)) ∙ rw here at inv)

  pub link_past : (p q : ℕ) (next : Option Priced) → q ≤ p → dearest_from of best (links_of p (numbers_from (max q (p + 1)) (n - max q (p + 1)))) ≡ all →
      next ≡ best → dearest_from of next (links_of p (numbers_from (max (q + 1) (p + 1)) (n - max (q + 1) (p + 1)))) ≡ all
  link_past p q next below inv e =
      let same : max (q + 1) (p + 1) ≡ max q (p + 1) = omega arith in
      rw (same, e) inv

-- an element of a slice's front part
pub front_at : {X : Type 0} (xs : List X) (n p : ℕ) (d e : X) → p < n → n ≤ length xs → get_or (take (n - 0) xs) p d ≡ get_or xs p e
front_at xs n p d e h k =
    let l : p < length xs = omega arith in
    rw sub-zero (get_or-take n xs p d h ∙ get_or_default xs p d e l)

pub front_row : {X : Type 0} (rows : List (List X)) (n p q : ℕ) (d : X) → p < n → n ≤ length rows →
    get_or (get_or (take (n - 0) rows) p []) q d ≡ get_or (get_or rows p []) q d
front_row rows n p q d h k = ap (λ row. get_or row q d) (front_at rows n p [] [] h k)

-- the prices of a feeder and of a link, by the terms as they are stored
pub feeder_priced : (F : InForce) (w : Option (List Site)) (m p x y : ℕ) (a : Mast) (t : Terms) → mast_at F m ≡ Some a → t ≡ get_or a.feeders p new_terms →
    x ≡ price_at t y → y ≡ length_at F w (Feeder m p) → x ≡ price_by F w (Feeder m p)
feeder_priced F w m p x y a t stands e f g = rw stands (f ∙ ap (λ s. price_at s y) e ∙ ap (price_at (get_or a.feeders p new_terms)) g)

-- the price of a link by the row of its lower pillar
pub link_priced : (F : InForce) (w : Option (List Site)) (p q x y : ℕ) (row : List Terms) (t : Terms) → p < q → get_or F.links p [] ≡ row → t ≡ get_or row q new_terms →
    x ≡ price_at t y → y ≡ length_at F w (Link p q) → x ≡ price_by F w (Link p q)
link_priced F w p q x y row t h is e f g =
    let low : min p q ≡ p = omega arith in
    let high : max p q ≡ q = omega arith in
    rw (low, high, is) (f ∙ ap (λ s. price_at s y) e ∙ ap (price_at (get_or row q new_terms)) g)
