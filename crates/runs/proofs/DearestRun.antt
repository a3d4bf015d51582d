-- What is found run by run is the dearest run.
use Rattle.std.proofs.Common.{◌≡◌, ℕ, suc, ◌+◌, ◌-◌, ◌<◌, ◌≤◌, max, Bool, true, false, cond, leb, List, [], ◌∷◌, ◌++◌, map, length, get_or, drop, Some, None, Option, sym, refl, ap, ◌∙◌, subst, add-one, arith}
use Rattle.std.specs.List.{AllByRecursion}
use Rattle.std.proofs.lemmas.List.{append_assoc, append-nil, drop_more}
use Rattle.std.proofs.ByRecursion.{All-weaker}
use Rattle.std.proofs.lemmas.Bool.{leb-true, leb-false}
use Rattle.yard.specs.declared.force.Mast.{Mast}
use Rattle.yard.specs.declared.force.Run.{Run}
use Rattle.runs.specs.declared.dearest.Priced.{Priced}
use Rattle.runs.specs.Order.{numbers_from, standing_from, feeders_of, links_of, all_feeders, all_links, FirstWith}
use Rattle.runs.specs.Levels.{greatest}
use Rattle.runs.specs.Dearest.{IsDearest, dearer_of, dearest_from}
use Rattle.runs.proofs.Dearer.{numbers_more, numbers_none}

module _ (of : Run → ℕ) where
  greatest_push : (xs : List Run) (r : Run) → greatest (map of (xs ++ (r ∷ []))) ≡ max (greatest (map of xs)) (of r)
  greatest_push [] r = omega arith
  greatest_push (x ∷ xs) r = omega (arith, greatest_push xs r)

  pub at_most : (xs : List Run) (n : ℕ) → greatest (map of xs) ≤ n → AllByRecursion (λ s. of s ≤ n) xs
  at_most [] n h = tt
  at_most (x ∷ xs) n h = (omega arith, at_most xs n (omega arith))

  first_push : (P : Run → Type 0) (xs : List Run) (s r : Run) → FirstWith P xs s → FirstWith P (xs ++ (r ∷ [])) s
  first_push P xs s r f = record {
    before = f.before;
    after = f.after ++ (r ∷ []);
    split = ap (λ l. l ++ (r ∷ [])) f.split ∙ append_assoc f.before (s ∷ f.after) (r ∷ []);
    none_before = f.none_before;
    holds = f.holds;
  }

  -- a further run is dearer than all before it, or it is not
  dearer_is : (xs : List Run) (d : Priced) (r : Run) (b : Bool) → leb (of r) d.cents ≡ b → IsDearest of xs (Some d) →
      IsDearest of (xs ++ (r ∷ [])) (cond b (Some d) (Some (record { run = r; cents = of r })))
  dearer_is xs d r true e is = (omega (arith, is.0, greatest_push xs r, leb-true (of r) d.cents e), first_push (λ s. of s ≡ d.cents) xs d.run r is.1)
  dearer_is xs d r false e is =
      let above : greatest (map of xs) < of r = omega (arith, is.0, leb-false (of r) d.cents e) in (
        omega (arith, greatest_push xs r, above),
        record {
          before = xs;
          after = [];
          split = refl;
          none_before = All-weaker (λ s. of s ≤ greatest (map of xs)) (λ s. of s ≡ of r → ⊥) (λ s h f. omega (arith, h, f, above)) xs (at_most xs (greatest (map of xs)) (omega arith));
          holds = refl;
        },
      )

  one_more : (xs : List Run) (best : Option Priced) (r : Run) → IsDearest of xs best → IsDearest of (xs ++ (r ∷ [])) (dearer_of best r (of r))
  one_more xs None r is =
      rw is (omega arith, record { before = []; after = []; split = refl; none_before = tt; holds = refl })
  one_more xs (Some d) r is = dearer_is xs d r (leb (of r) d.cents) refl is

  dearest_after : (rs xs : List Run) (best : Option Priced) → IsDearest of xs best → IsDearest of (xs ++ rs) (dearest_from of best rs)
  dearest_after [] xs best is = rw (append-nil xs) is
  dearest_after (r ∷ rs) xs best is =
      subst (λ l. IsDearest of l (dearest_from of (dearer_of best r (of r)) rs)) (append_assoc xs (r ∷ []) rs)
      (dearest_after rs (xs ++ (r ∷ [])) (dearer_of best r (of r)) (one_more xs best r is))

  pub dearest_is : (rs : List Run) (d : Option Priced) → d ≡ dearest_from of None rs → IsDearest of rs d
  dearest_is rs d e = rw e (dearest_after rs [] None refl)

  pub dearest_append : (best : Option Priced) (xs ys : List Run) → dearest_from of best (xs ++ ys) ≡ dearest_from of (dearest_from of best xs) ys
  dearest_append best [] ys = refl
  dearest_append best (x ∷ xs) ys = dearest_append (dearer_of best x (of x)) xs ys

  module _ (best all : Option Priced) where
    -- the masts from the number m on: the one of that number, if it stands, and the others
    module _ (masts : List (Option Mast)) (m : ℕ) (ps : List ℕ) (inv : dearest_from of best (all_feeders (standing_from m (drop m masts)) ps) ≡ all) where
      at_mast : (o : Option Mast) → m < length masts → get_or masts m None ≡ o → dearest_from of best (all_feeders (standing_from m (o ∷ drop (m + 1) masts)) ps) ≡ all
      at_mast o h e = rw (drop_more masts m None h, e) at inv

      pub mast_more : (a : Mast) (next : Option Priced) → m < length masts → get_or masts m None ≡ Some a → next ≡ dearest_from of best (feeders_of m ps) →
          dearest_from of next (all_feeders (standing_from (m + 1) (drop (m + 1) masts)) ps) ≡ all
      mast_more a next h e f =
          rw (add-one m, f)
          (sym (dearest_append best (feeders_of m ps) (all_feeders (standing_from (suc m) (drop (suc m) masts)) ps)) ∙ rw (add-one m) at (at_mast (Some a) h e))

      pub mast_past : (next : Option Priced) → m < length masts → get_or masts m None ≡ None → next ≡ best →
          dearest_from of next (all_feeders (standing_from (m + 1) (drop (m + 1) masts)) ps) ≡ all
      mast_past next h e f = rw (add-one m, f) (rw (add-one m) at (at_mast None h e))

    -- the links of one pillar
    pub row_more : (p n : ℕ) (next : Option Priced) → p < n → dearest_from of best (all_links (numbers_from p (n - p))) ≡ all →
        next ≡ dearest_from of best (links_of p (numbers_from (p + 1) (n - (p + 1)))) → dearest_from of next (all_links (numbers_from (p + 1) (n - (p + 1)))) ≡ all
    row_more p n next h inv e =
        rw e
        (sym (dearest_append best (links_of p (numbers_from (p + 1) (n - (p + 1)))) (all_links (numbers_from (p + 1) (n - (p + 1)))))
        ∙ sym (ap (λ ps. dearest_from of best (all_links ps)) (numbers_more p n h)) ∙ inv)

    pub row_none : (p n : ℕ) → n ≤ p → dearest_from of best (all_links (numbers_from p (n - p))) ≡ all → best ≡ all
    row_none p n h inv = sym (ap (λ ps. dearest_from of best (all_links ps)) (numbers_none p n h)) ∙ inv
