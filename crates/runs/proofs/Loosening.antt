-- The best chains of tying runs say which pillars are loose.
use Rattle.std.proofs.Common.{◌≡◌, ℕ, ◌<◌, Bool, true, false, not, ◌||◌, List, [], ◌∷◌, length, Some, None, Decides, Option, sym, refl, ap, ◌∙◌, arith, MatchOption}
use native.Mathlib.Nat.{min_comm, max_comm}
use Rattle.std.proofs.lemmas.List.{get_or_default}
use Rattle.std.proofs.lemmas.List.Folds.{Any-from_list_any, list_any_at}
use Rattle.std.proofs.lemmas.Bool.{false≢true, both_ways, and_parts, and_from}
use Rattle.chains.specs.declared.measure.Tied.{Tied}
use Rattle.chains.specs.Chains.{Chain, Different, BestFound, chain_value}
use Rattle.chains.specs.Measures.{of_yes, both_tied, rather}
use Rattle.yard.specs.declared.force.InForce.{InForce}
use Rattle.yard.specs.declared.force.Mast.{Mast}
use Rattle.yard.specs.declared.force.Run.TheVariants.{Link}
use Rattle.yard.specs.Force.{mast_at, mast_terms}
use Rattle.runs.specs.Spots.{spot_of, foot_spot}
use Rattle.runs.specs.Order.{terms_or_new, run_terms}
use Rattle.runs.proofs.Listed.{none_some, mast_listed}
use Rattle.runs.specs.Tying.{ties_by, mast_ties, is_fed, TiedDown, by_feeder, by_link, Feeds, Fed, NoneLoose, LowestLoose}

yes_is : (t : Tied) (b : Bool) → t ≡ of_yes b → t.yes ≡ b
yes_is t b e = cc

-- what is at least as good as yes is yes
rather_yes : (a b : Bool) → (a || not b) ≡ true → b ≡ true → a ≡ true
rather_yes true b h e = refl
rather_yes false true h e = h
rather_yes false false h e = e

-- a link has the same terms from either end
link_turned : (F : InForce) (p q : ℕ) → run_terms F (Link p q) ≡ run_terms F (Link q p)
link_turned F p q = rw (min_comm p q, max_comm p q)

-- the masts of which one has it say whether the pillar is fed
module _ (F : InForce) (p : ℕ) where
  feeds_from : (m : ℕ) (o : Option Mast) → mast_at F m ≡ o → mast_ties p o ≡ true → Feeds F m p
  feeds_from m (Some a) e ties = (spot_of a.at, ap foot_spot e, ap (λ o. ties_by (terms_or_new (mast_terms o p))) e ∙ ties)
  feeds_from m None e ties = absurd (false≢true ties)

  ties_from : (m : ℕ) (o : Option Mast) → mast_at F m ≡ o → Feeds F m p → (m < length F.masts) × (mast_ties p o ≡ true)
  ties_from m (Some a) e feeds = (mast_listed F m a e, sym (ap (λ o. ties_by (terms_or_new (mast_terms o p))) e) ∙ feeds.2)
  ties_from m None e feeds = absurd (none_some (sym (ap foot_spot e) ∙ feeds.1))

  fed_is : Decides (is_fed F p) (Fed F p)
  fed_is = (
    λ e. let x = Any-from_list_any (mast_ties p) F.masts e in
        (x.0, feeds_from x.0 (mast_at F x.0) refl (rw (get_or_default F.masts x.0 None x.1 x.2) (rw x.3 x.4))),
    λ fed. let x = ties_from fed.0 (mast_at F fed.0) refl fed.1 in list_any_at (mast_ties p) F.masts fed.0 None x.0 x.1,
  )

-- the values of entering at each pillar and of the links
module _ (F : InForce) (first : ℕ → Tied) (run : ℕ → ℕ → Tied)
    (enters : (p : ℕ) → p < F.count → first p ≡ of_yes (is_fed F p))
    (links : (p q : ℕ) → p < F.count → q < F.count → run p q ≡ of_yes (ties_by (run_terms F (Link p q)))) where
  abbrev ties_along : ℕ → List ℕ → Bool
  ties_along v c = (chain_value both_tied first run v c).yes

  link_ties : (p q : ℕ) → p < F.count → q < F.count → (run p q).yes ≡ ties_by (run_terms F (Link q p))
  link_ties p q u v = yes_is (run p q) (ties_by (run_terms F (Link p q))) (links p q u v) ∙ ap ties_by (link_turned F p q)

  fed_first : (p : ℕ) → p < F.count → Decides (first p).yes (Fed F p)
  fed_first p u = rw (enters p u) (fed_is F p)

  -- a chain of different pillars that ties leads from its last pillar to a mast
  tied_by : (v : ℕ) (c : List ℕ) → Chain F.count v c → Different (v ∷ c) → ties_along v c ≡ true → TiedDown F v
  tied_by v [] h d e =
      let fed = (fed_first v h.0).0 e in
      by_feeder fed.0 v fed.1.0 fed.1.1 h.0 fed.1.2
  tied_by v (u ∷ c) h d e =
      let parts = and_parts (ties_along u c) (run u v).yes e in
      by_link v u h.0 h.1.0 (λ s. d.0.0 (sym s)) (sym (link_ties u v h.1.0 h.0) ∙ parts.1) (tied_by u c h.1 d.1 parts.0)

  -- a pillar that is tied down has a chain that ties
  tied_chain_to : (v : ℕ) → TiedDown F v → (c : List ℕ) × Chain F.count v c × (ties_along v c ≡ true)
  tied_chain_to v (by_feeder m p s at u ties) = ([], (u, tt), (fed_first p u).1 (m, (s, at, ties)))
  tied_chain_to v (by_link p q u w ne ties t) =
      let rest = tied_chain_to q t in
      (q ∷ rest.0, (u, rest.1), and_from (ties_along q rest.0) (run q p).yes rest.2 (link_ties q p w u ∙ ties))

  module _ (best : ℕ → Tied) (before : ℕ → ℕ) (found : BestFound both_tied rather first run F.count best before) where
    best_ties : (v : ℕ) → v < F.count → Decides (best v).yes (TiedDown F v)
    best_ties v u = (
      λ e. let s = found.some v u in tied_by v s.0 s.1.traced.chain s.1.different (ap (λ t. t.yes) s.1.worth ∙ e),
      λ t. let c = tied_chain_to v t in rather_yes (best v).yes (ties_along v c.0) (found.least v c.0 c.1) c.2,
    )

    -- the first pillar whose best chain does not tie is the lowest loose one
    pub lowest_found : (n : ℕ) → n ≡ F.count → (r : Option ℕ) →
        MatchOption r ((p : ℕ) → p < n → (best p).yes ≡ true) (λ p. (p < n) × ((best p).yes ≡ false) × ((q : ℕ) → q < p → (best q).yes ≡ true)) →
        MatchOption r (NoneLoose F) (LowestLoose F)
    lowest_found n same None all = λ p u. (best_ties p u).0 (all p (omega arith))
    lowest_found n same (Some p) h = (omega arith, λ t. both_ways (best p).yes h.1 ((best_ties p (omega arith)).1 t), λ q l. (best_ties q (omega arith)).0 (h.2 q l))
