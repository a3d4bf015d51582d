-- The reaches of some runs at a level, added up run by run.
use Rattle.std.specs.Prelude.{Some}
use Rattle.std.proofs.Common.{◌≡◌, ℕ, ◌+◌, ◌<◌, ◌≤◌, List, ◌∷◌, length, get_or, drop, sym, refl, ◌∙◌, subst, arith}
use Rattle.std.proofs.lemmas.List.{at_drop_more, at_drop_all}
use Rattle.chains.specs.Measures.{Steps}
use Rattle.network.specs.Chain.{AddTo}
use Rattle.network.proofs.Sums.{add_first, add_cons, limited_same}
use Rattle.yard.specs.declared.force.Terms.{Terms}
use Rattle.runs.specs.Pricing.{reach_at}
use Rattle.placing.specs.Jumping.{reaches_at}

-- all the reaches add up to what `sum` and the reaches that are left add up to
pub record SumsOnward (all : List Steps) (sum : ℕ) (left : List Steps) : Type 0 where
  pub onward : (u : ℕ) → AddTo left u → AddTo all (sum + u)
  pub back : (t : ℕ) → AddTo all t → (u : ℕ) × AddTo left u × (t ≡ sum + u)

module _ (ts : List Terms) (level sum i : ℕ) (so_far : SumsOnward (reaches_at ts level) sum (reaches_at (drop i ts) level)) where
  module _ (d : Terms) (inside : i < length ts) where
    split : reaches_at (drop i ts) level ≡ reach_at (get_or ts i d) level ∷ reaches_at (drop (i + 1) ts) level
    split = at_drop_more (λ us. reaches_at us level) ts i d inside

    -- where all add up, the next run is limited
    next_limited : (t : ℕ) → AddTo (reaches_at ts level) t →
        (r : ℕ) × (u : ℕ) × (reach_at (get_or ts i d) level ≡ Some r) × AddTo (reaches_at (drop (i + 1) ts) level) u × (t ≡ sum + r + u)
    next_limited t h =
        let k = so_far.back t h in
        let f = add_first (reach_at (get_or ts i d) level) (reaches_at (drop (i + 1) ts) level) k.0 (subst (λ l. AddTo l k.0) split k.1) in
        (f.0, f.1, f.2, f.3, omega (arith, k.2, f.4))

    -- one run more, which is limited
    pub sums_more : (r : ℕ) → Some r ≡ reach_at (get_or ts i d) level → SumsOnward (reaches_at ts level) (sum + r) (reaches_at (drop (i + 1) ts) level)
    sums_more r e = record {
      onward = λ u h. subst (AddTo (reaches_at ts level)) (omega arith) (so_far.onward (r + u)
          (subst (λ l. AddTo l (r + u)) (sym split) (add_cons (reach_at (get_or ts i d) level) (reaches_at (drop (i + 1) ts) level) r u (r + u) (sym e) h refl)));
      back = λ t h. let n = next_limited t h in (n.1, n.3, omega (arith, n.4, limited_same r n.0 (e ∙ n.2)));
    }

  -- no run is left
  pub sums_all : length ts ≤ i → AddTo (reaches_at ts level) sum
  sums_all h =
      subst (AddTo (reaches_at ts level)) (omega arith)
      (so_far.onward 0 (subst (λ l. AddTo l 0) (sym (at_drop_all (λ us. reaches_at us level) ts i h)) refl))
