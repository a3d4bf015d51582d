-- What the search keeps from turn to turn, over any lawful measure; no code is named here. Assumes nothing.
use Rattle.std.proofs.Common.{◌≡◌, ℕ, ◌+◌, ◌<◌, ◌≤◌, Bool, true, false, cond, ◌≢◌, List, [], ◌∷◌, length, sym, ap, ◌∙◌, inl, inr, arith}
use Rattle.std.specs.List.{AllByRecursion}
use Rattle.std.proofs.ByRecursion.{All-weaker}
use Rattle.std.proofs.lemmas.Bool.{cases_eq, cases_Bool, both_ways, cond-true, cond-false}
use Rattle.chains.specs.Laws.{Laws}
use Rattle.chains.specs.Chains.{chain_value, Chain, Different, Told, BestFound}

-- The chain that stands for `best v`: its earlier pillars are done, and with those that are not done, `left` of them, they are no more than n.
pub record Way {M : Type 0} (op : M → M → M) (first : ℕ → M) (run : ℕ → ℕ → M) (n : ℕ) (best : ℕ → M) (before : ℕ → ℕ) (done : ℕ → Bool) (left : ℕ) (v : ℕ) : Type 0 where
  pub c : List ℕ
  pub chain : AllByRecursion (λ p. p < n) c
  pub finished : AllByRecursion (λ p. done p ≡ true) c
  pub different : Different (v ∷ c)
  pub short : length c + left ≤ n
  pub shorter : done v ≡ true → length c + left < n
  pub told : Told before v c
  pub worth : chain_value op first run v c ≡ best v

pub record State {M : Type 0} (op : M → M → M) (leq : M → M → Bool) (first : ℕ → M) (run : ℕ → ℕ → M) (n : ℕ) (best : ℕ → M) (before : ℕ → ℕ) (done : ℕ → Bool) (left : ℕ) : Type 0 where
  pub ways : (v : ℕ) → v < n → Way op first run n best before done left v
  pub offered : (u v : ℕ) → u < n → v < n → done u ≡ true → leq (best v) (op (best u) (run u v)) ≡ true
  pub ordered : (u v : ℕ) → u < n → v < n → done u ≡ true → done v ≡ false → leq (best u) (best v) ≡ true
  pub entered : (v : ℕ) → v < n → leq (best v) (first v) ≡ true

-- `before` may change at pillars that are not on the chain
pub told_kept : (f g : ℕ → ℕ) (v : ℕ) (c : List ℕ) → g v ≡ f v → AllByRecursion (λ p. g p ≡ f p) c → Told f v c → Told g v c
told_kept f g v [] e es t = e ∙ t
told_kept f g v (u ∷ c) e es t = (e ∙ t.0, t.1, told_kept f g u c es.0 es.1 t.2)

pub both_all : (P Q : ℕ → Type 0) (c : List ℕ) → AllByRecursion P c → AllByRecursion Q c → AllByRecursion (λ p. P p × Q p) c
both_all P Q [] h k = tt
both_all P Q (p ∷ c) h k = ((h.0, k.0), both_all P Q c h.1 k.1)

module _ {M : Type 0} {empty : M} {op : M → M → M} {leq : M → M → Bool} (laws : Laws empty op leq) {first : ℕ → M} {run : ℕ → ℕ → M} {n : ℕ} {best : ℕ → M} {before : ℕ → ℕ} {done : ℕ → Bool} {left : ℕ} where
  pub at_start : left ≡ n → ((v : ℕ) → v < n → best v ≡ first v) → ((v : ℕ) → v < n → before v ≡ v) → ((v : ℕ) → v < n → done v ≡ false) → State op leq first run n best before done left
  at_start all b f d = record {
    ways = λ v h. record {
      c = [];
      chain = tt;
      finished = tt;
      different = (tt, tt);
      short = omega arith;
      shorter = λ e. absurd (both_ways (done v) (d v h) e);
      told = f v h;
      worth = sym (b v h);
    };
    offered = λ u v hu hv e. absurd (both_ways (done u) (d u hu) e);
    ordered = λ u v hu hv e. absurd (both_ways (done u) (d u hu) e);
    entered = λ v h. rw (b v h) (laws.reflexive (first v));
  }

  module _ (S : State op leq first run n best before done left) where
    at_least : (v : ℕ) (c : List ℕ) → ((p : ℕ) → p < n → done p ≡ true) → Chain n v c → leq (best v) (chain_value op first run v c) ≡ true
    at_least v [] all h = S.entered v h.0
    at_least v (u ∷ c) all h =
        laws.transitive _ _ _ (S.offered u v h.1.0 h.0 (all u h.1.0)) (laws.keeps _ _ _ _ (at_least u c all h.1) (laws.reflexive (run u v)))

    pub at_end : left ≡ 0 → ((p : ℕ) → p < n → done p ≡ true) → BestFound op leq first run n best before
    at_end none all = record {
      some = λ v h. let w = S.ways v h in (w.c, record { traced = record { chain = (h, w.chain); short = omega (arith, w.shorter (all v h)); told = w.told }; different = w.different; worth = w.worth });
      least = λ v c h. at_least v c all h;
    }

    -- One turn: u is the best of those that are not done. It is now done, and offers each pillar the chain through it.
    module _ (u left' : ℕ) (best' : ℕ → M) (before' : ℕ → ℕ) (done' : ℕ → Bool) (in_u : u < n) (open_u : done u ≡ false) (picked : (k : ℕ) → k < n → done k ≡ false → leq (best u) (best k) ≡ true) (now_u : done' u ≡ true) (others : (v : ℕ) → v ≢ u → done' v ≡ done v) (one_less : left' + 1 ≡ left) (best_is : (v : ℕ) → v < n → best' v ≡ cond (leq (best v) (op (best u) (run u v))) (best v) (op (best u) (run u v))) (before_is : (v : ℕ) → v < n → before' v ≡ cond (leq (best v) (op (best u) (run u v))) (before v) u) where
      still : (p : ℕ) → done p ≡ true → done' p ≡ true
      still p e = elim (cases_eq p u) [ inl q ↦ ap done' q ∙ now_u | inr ne ↦ others p ne ∙ e ]

      was : (p : ℕ) → p ≢ u → done' p ≡ true → done p ≡ true
      was p ne e = sym (others p ne) ∙ e

      was_open : (p : ℕ) → done' p ≡ false → (p ≢ u) × (done p ≡ false)
      was_open p e =
          let ne : p ≢ u = λ q. both_ways (done' p) e (ap done' q ∙ now_u) in
          (ne, sym (others p ne) ∙ e)

      -- a pillar that is done is at least as good as what it is offered
      settled : (v : ℕ) → v < n → done' v ≡ true → leq (best v) (op (best u) (run u v)) ≡ true
      settled v h e = elim (cases_eq v u) [
        | inl q ↦ rw q (laws.further (best u) (run u u))
        | inr ne ↦ laws.transitive _ _ _ (S.ordered v u h in_u (was v ne e) open_u) (laws.further (best u) (run u v))
      ]

      kept_best : (v : ℕ) → v < n → leq (best v) (op (best u) (run u v)) ≡ true → best' v ≡ best v
      kept_best v h e = best_is v h ∙ cond-true _ _ _ e

      kept_before : (v : ℕ) → v < n → leq (best v) (op (best u) (run u v)) ≡ true → before' v ≡ before v
      kept_before v h e = before_is v h ∙ cond-true _ _ _ e

      taken_best : (v : ℕ) → v < n → leq (best v) (op (best u) (run u v)) ≡ false → best' v ≡ op (best u) (run u v)
      taken_best v h e = best_is v h ∙ cond-false _ _ _ e

      taken_before : (v : ℕ) → v < n → leq (best v) (op (best u) (run u v)) ≡ false → before' v ≡ u
      taken_before v h e = before_is v h ∙ cond-false _ _ _ e

      done_best : (v : ℕ) → v < n → done' v ≡ true → best' v ≡ best v
      done_best v h e = kept_best v h (settled v h e)

      -- what was not better is no worse
      other_way : (x y : M) → leq x y ≡ false → leq y x ≡ true
      other_way x y e = elim (laws.total x y) [ inl t ↦ absurd (both_ways (leq x y) e t) | inr t ↦ t ]

      no_worse : (v : ℕ) → v < n → leq (best' v) (best v) ≡ true
      no_worse v h = elim (cases_Bool (leq (best v) (op (best u) (run u v)))) [
        | inl t ↦ rw (kept_best v h t) (laws.reflexive (best v))
        | inr f ↦ rw (taken_best v h f) (other_way _ _ f)
      ]

      as_offered : (v : ℕ) → v < n → leq (best' v) (op (best u) (run u v)) ≡ true
      as_offered v h = elim (cases_Bool (leq (best v) (op (best u) (run u v)))) [
        | inl t ↦ rw (kept_best v h t) t
        | inr f ↦ rw (taken_best v h f) (laws.reflexive (op (best u) (run u v)))
      ]

      befores : (c : List ℕ) → AllByRecursion (λ p. p < n) c → AllByRecursion (λ p. done p ≡ true) c → AllByRecursion (λ p. before' p ≡ before p) c
      befores c h k = All-weaker (λ p. (p < n) × (done p ≡ true)) (λ p. before' p ≡ before p) (λ p b. kept_before p b.0 (settled p b.0 (still p b.1))) c (both_all (λ p. p < n) (λ p. done p ≡ true) c h k)

      keeps_way : (v : ℕ) → v < n → leq (best v) (op (best u) (run u v)) ≡ true → Way op first run n best' before' done' left' v
      keeps_way v h t =
          let w = S.ways v h in
          record {
            c = w.c;
            chain = w.chain;
            finished = All-weaker (λ p. done p ≡ true) (λ p. done' p ≡ true) still w.c w.finished;
            different = w.different;
            short = omega (arith, w.short);
            shorter = λ e. omega (arith, w.short);
            told = told_kept before before' v w.c (kept_before v h t) (befores w.c w.chain w.finished) w.told;
            worth = w.worth ∙ sym (kept_best v h t);
          }

      takes_way : (v : ℕ) → v < n → leq (best v) (op (best u) (run u v)) ≡ false → Way op first run n best' before' done' left' v
      takes_way v h f =
          let w = S.ways u in_u in
          let still_open : done' v ≡ false = elim (cases_Bool (done' v)) [ inl t ↦ absurd (both_ways _ f (settled v h t)) | inr e ↦ e ] in
          let ne : u ≢ v = λ q. (was_open v still_open).0 (sym q) in
          record {
            c = u ∷ w.c;
            chain = (in_u, w.chain);
            finished = (now_u, All-weaker (λ p. done p ≡ true) (λ p. done' p ≡ true) still w.c w.finished);
            different = ((ne, All-weaker (λ p. done p ≡ true) (λ p. p ≢ v) (λ p e q. both_ways (done' v) still_open (ap done' (sym q) ∙ still p e)) w.c w.finished), w.different);
            short = omega (arith, w.short);
            shorter = λ e. absurd (both_ways (done' v) still_open e);
            told = (taken_before v h f, ne, told_kept before before' u w.c (kept_before u in_u (settled u in_u now_u)) (befores w.c w.chain w.finished) w.told);
            worth = ap (λ x. op x (run u v)) w.worth ∙ sym (taken_best v h f);
          }

      pub turn : State op leq first run n best' before' done' left'
      turn = record {
        ways = λ v h. elim (cases_Bool (leq (best v) (op (best u) (run u v)))) [ inl t ↦ keeps_way v h t | inr f ↦ takes_way v h f ];
        offered = λ p v hp hv e. rw (done_best p hp e) (elim (cases_eq p u) [
          | inl q ↦ rw q (as_offered v hv)
          | inr ne ↦ laws.transitive _ _ _ (no_worse v hv) (S.offered p v hp hv (was p ne e))
        ]);
        ordered = λ p v hp hv e f. rw (done_best p hp e) (elim (cases_Bool (leq (best v) (op (best u) (run u v)))) [
          | inl t ↦ rw (kept_best v hv t) (elim (cases_eq p u) [
            | inl q ↦ rw q (picked v hv (was_open v f).1)
            | inr ne ↦ S.ordered p v hp hv (was p ne e) (was_open v f).1
          ])
          | inr t ↦ rw (taken_best v hv t) (laws.transitive _ _ _ (elim (cases_eq p u) [
            | inl q ↦ rw q (laws.reflexive (best u))
            | inr ne ↦ S.ordered p u hp in_u (was p ne e) open_u
          ]) (laws.further (best u) (run u v)))
        ]);
        entered = λ v h. laws.transitive _ _ _ (no_worse v h) (S.entered v h);
      }
