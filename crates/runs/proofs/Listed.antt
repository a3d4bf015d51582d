-- The list of a plan's runs holds each of its runs, and no others.
use Rattle.std.proofs.Common.{◌≡◌, ℕ, zero, suc, ◌+◌, ◌<◌, ◌≤◌, List, [], ◌∷◌, ◌++◌, length, get_or, Some, None, Option, sym, refl, ap, ◌∙◌, subst, ⊎_elim, arith}
use Rattle.std.specs.List.{AllByRecursion}
use Rattle.std.proofs.ByRecursion.{All-append}
use Rattle.std.proofs.lemmas.Bool.{cases_eq, cases_lt}
use Rattle.std.proofs.lemmas.List.{get_or_past}
use Rattle.yard.specs.declared.force.InForce.{InForce}
use Rattle.yard.specs.declared.force.Mast.{Mast}
use Rattle.yard.specs.declared.force.Run.{Run}
use Rattle.yard.specs.declared.force.Run.TheVariants.{Feeder, Link}
use Rattle.yard.specs.Force.{mast_at}
use Rattle.runs.specs.Spots.{Spot, StandsAt, foot_spot, spot_of}
use Rattle.runs.specs.Order.{numbers_from, standing_from, feeders_of, all_feeders, links_of, all_links, runs_of}

abbrev IsNone : {A : Type 0} → Option A → Type 0
IsNone None = Unit {0}
IsNone (Some a) = ⊥

pub none_some : {A : Type 0} {a : A} → None ≡ Some a → ⊥
none_some e = subst IsNone e tt

-- what stands at a spot is a mast
pub mast_there : (o : Option Mast) (s : Spot) → foot_spot o ≡ Some s → (a : Mast) × (o ≡ Some a)
mast_there (Some a) s e = (a, refl)
mast_there None s e = absurd (none_some e)

-- a mast that stands is in the list
pub mast_listed : (F : InForce) (m : ℕ) (a : Mast) → mast_at F m ≡ Some a → m < length F.masts
mast_listed F m a e = ⊎_elim (λ l. l) (λ l. absurd (none_some (sym (get_or_past F.masts m None l) ∙ e))) (cases_lt m (length F.masts))

module _ (Q : Run → Type 0) where
  first_part : (xs ys : List Run) → AllByRecursion Q (xs ++ ys) → AllByRecursion Q xs
  first_part [] ys h = tt
  first_part (x ∷ xs) ys h = (h.0, first_part xs ys h.1)

  pub last_part : (xs ys : List Run) → AllByRecursion Q (xs ++ ys) → AllByRecursion Q ys
  last_part [] ys h = h
  last_part (x ∷ xs) ys h = last_part xs ys h.1

  of_feeders : (m a k p : ℕ) → AllByRecursion Q (feeders_of m (numbers_from a k)) → a ≤ p → p < a + k → Q (Feeder m p)
  of_feeders m a zero p h l u = absurd (omega arith)
  of_feeders m a (suc k) p h l u =
      ⊎_elim (λ e. subst (λ (n : ℕ). Q (Feeder m n)) e h.0) (λ n. of_feeders m (suc a) k p h.1 (omega arith) (omega arith)) (cases_eq a p)

  of_masts : (masts : List (Option Mast)) (a i : ℕ) (at : Mast) (ps : List ℕ) →
      AllByRecursion Q (all_feeders (standing_from a masts) ps) → get_or masts i None ≡ Some at → AllByRecursion Q (feeders_of (a + i) ps)
  of_masts [] a i at ps h e = absurd (none_some e)
  of_masts (Some b ∷ ms) a zero at ps h e = subst (λ (n : ℕ). AllByRecursion Q (feeders_of n ps)) (omega arith) (first_part (feeders_of a ps) _ h)
  of_masts (None ∷ ms) a zero at ps h e = absurd (none_some e)
  of_masts (Some b ∷ ms) a (suc i) at ps h e =
      subst (λ (n : ℕ). AllByRecursion Q (feeders_of n ps)) (omega arith) (of_masts ms (suc a) i at ps (last_part (feeders_of a ps) _ h) e)
  of_masts (None ∷ ms) a (suc i) at ps h e = subst (λ (n : ℕ). AllByRecursion Q (feeders_of n ps)) (omega arith) (of_masts ms (suc a) i at ps h e)

  of_row : (p a k q : ℕ) → AllByRecursion Q (links_of p (numbers_from a k)) → a ≤ q → q < a + k → Q (Link p q)
  of_row p a zero q h l u = absurd (omega arith)
  of_row p a (suc k) q h l u =
      ⊎_elim (λ e. subst (λ (n : ℕ). Q (Link p n)) e h.0) (λ n. of_row p (suc a) k q h.1 (omega arith) (omega arith)) (cases_eq a q)

  of_links : (a k p q : ℕ) → AllByRecursion Q (all_links (numbers_from a k)) → a ≤ p → p < q → q < a + k → Q (Link p q)
  of_links a zero p q h l o u = absurd (omega arith)
  of_links a (suc k) p q h l o u =
      ⊎_elim
      (λ e. subst (λ (n : ℕ). Q (Link n q)) e (of_row a (suc a) k q (first_part (links_of a (numbers_from (suc a) k)) _ h) (omega arith) (omega arith)))
      (λ n. of_links (suc a) k p q (last_part (links_of a (numbers_from (suc a) k)) _ h) (omega arith) o (omega arith))
      (cases_eq a p)

  pub the_feeder : (F : InForce) (m p : ℕ) (s : Spot) → AllByRecursion Q (runs_of F) → StandsAt F m s → p < F.count → Q (Feeder m p)
  the_feeder F m p s h e u =
      let a = mast_there (mast_at F m) s e in
      of_feeders m 0 F.count p
      (subst (λ (n : ℕ). AllByRecursion Q (feeders_of n (numbers_from 0 F.count))) (omega arith)
      (of_masts F.masts 0 m a.0 (numbers_from 0 F.count) (first_part (all_feeders (standing_from 0 F.masts) (numbers_from 0 F.count)) _ h) a.1))
      (omega arith) (omega arith)

  pub the_link : (F : InForce) (p q : ℕ) → AllByRecursion Q (runs_of F) → p < q → q < F.count → Q (Link p q)
  the_link F p q h o u =
      of_links 0 F.count p q (last_part (all_feeders (standing_from 0 F.masts) (numbers_from 0 F.count)) _ h) (omega arith) o (omega arith)

  to_feeders : (m a k : ℕ) → ((p : ℕ) → a ≤ p → p < a + k → Q (Feeder m p)) → AllByRecursion Q (feeders_of m (numbers_from a k))
  to_feeders m a zero h = tt
  to_feeders m a (suc k) h = (h a (omega arith) (omega arith), to_feeders m (suc a) k (λ p l u. h p (omega arith) (omega arith)))

  to_masts : (masts : List (Option Mast)) (a : ℕ) (ps : List ℕ) →
      ((i : ℕ) (at : Mast) → get_or masts i None ≡ Some at → AllByRecursion Q (feeders_of (a + i) ps)) → AllByRecursion Q (all_feeders (standing_from a masts) ps)
  to_masts [] a ps h = tt
  to_masts (Some b ∷ ms) a ps h =
      All-append Q (feeders_of a ps) _ (subst (λ (n : ℕ). AllByRecursion Q (feeders_of n ps)) (omega arith) (h 0 b refl))
      (to_masts ms (suc a) ps (λ i at e. subst (λ (n : ℕ). AllByRecursion Q (feeders_of n ps)) (omega arith) (h (suc i) at e)))
  to_masts (None ∷ ms) a ps h = to_masts ms (suc a) ps (λ i at e. subst (λ (n : ℕ). AllByRecursion Q (feeders_of n ps)) (omega arith) (h (suc i) at e))

  to_row : (p a k : ℕ) → ((q : ℕ) → a ≤ q → q < a + k → Q (Link p q)) → AllByRecursion Q (links_of p (numbers_from a k))
  to_row p a zero h = tt
  to_row p a (suc k) h = (h a (omega arith) (omega arith), to_row p (suc a) k (λ q l u. h q (omega arith) (omega arith)))

  to_links : (a k : ℕ) → ((p q : ℕ) → a ≤ p → p < q → q < a + k → Q (Link p q)) → AllByRecursion Q (all_links (numbers_from a k))
  to_links a zero h = tt
  to_links a (suc k) h =
      All-append Q (links_of a (numbers_from (suc a) k)) _ (to_row a (suc a) k (λ q l u. h a q (omega arith) (omega arith) (omega arith)))
      (to_links (suc a) k (λ p q l o u. h p q (omega arith) o (omega arith)))

  pub all_runs : (F : InForce) → ((m p : ℕ) (s : Spot) → StandsAt F m s → p < F.count → Q (Feeder m p)) →
      ((p q : ℕ) → p < q → q < F.count → Q (Link p q)) → AllByRecursion Q (runs_of F)
  all_runs F f g =
      All-append Q (all_feeders (standing_from 0 F.masts) (numbers_from 0 F.count)) _
      (to_masts F.masts 0 (numbers_from 0 F.count) (λ i at e. subst (λ (n : ℕ). AllByRecursion Q (feeders_of n (numbers_from 0 F.count))) (omega arith)
      (to_feeders i 0 F.count (λ p l u. f i p (spot_of at.at) (ap foot_spot e) (omega arith)))))
      (to_links 0 F.count (λ p q l o u. g p q o (omega arith)))
