-- A chain read from its other end. Assumes nothing.
use Rattle.std.proofs.Common.{◌≡◌, ℕ, ◌+◌, ◌<◌, List, [], ◌∷◌, reverse, Err, sym, refl, ap, ◌∙◌, subst, arith}
use mathlib.Core.List.{reverse_aux}
use Rattle.chains.specs.Pillars.{listed}
use Rattle.network.specs.declared.answer.Chain.{Chain}
use Rattle.std.specs.List.{AllByRecursion}
use Rattle.chains.specs.Chains.{Different}
use Rattle.chains.proofs.Reversed.{all_reversed, different_reversed}
use Rattle.chains.specs.Measures.{Steps}
use Rattle.network.specs.Layout.{Layout, apart}
use Rattle.network.specs.Chain.{reaches_onward, reaches_along, AddTo, Chained, Short}
use Rattle.network.specs.Networks.{SolvedBoth, Turned}
use Rattle.network.proofs.Sums.{add_first, add_cons}
use Rattle.network.proofs.Triangle.{apart_turned}

module _ (m n : ℕ) (feeder link : ℕ → ℕ → Steps) (even : (j k : ℕ) → j < n → k < n → link j k ≡ link k j) (a b : ℕ) where
  -- `behind` are the pillars that were passed before p, the nearest first
  back : (p : ℕ) (ps behind : List ℕ) (t u : ℕ) → AllByRecursion (λ q. q < n) (p ∷ ps) → AddTo (reaches_onward feeder link p ps b) t → AddTo (reaches_onward feeder link p behind a) u → (s : ℕ) × (rest : List ℕ) × (reverse_aux ps (p ∷ behind) ≡ s ∷ rest) × AddTo (reaches_along feeder link b s rest a) (t + u)
  back p [] behind t u h ahead passed =
      let f = add_first (feeder b p) [] t ahead in
      (p, behind, refl, add_cons (feeder b p) (reaches_onward feeder link p behind a) f.0 u (t + u) f.2 passed (omega (arith, f.3, f.4)))
  back p (q ∷ ps) behind t u h ahead passed =
      let f = add_first (link p q) (reaches_onward feeder link q ps b) t ahead in
      let r = back q ps (p ∷ behind) f.1 (f.0 + u) h.1 f.3 (add_cons (link q p) (reaches_onward feeder link p behind a) f.0 u (f.0 + u) (even q p h.1.0 h.0 ∙ f.2) passed refl) in
      let sums : f.1 + (f.0 + u) ≡ t + u = omega (arith, f.4) in
      (r.0, r.1, r.2, rw sums at r.3)

  turned_by : (pillars : List ℕ) (total : ℕ) (C : Chained m n feeder link a b pillars total) (p : ℕ) (ps : List ℕ) → reverse (C.start ∷ C.rest) ≡ p ∷ ps → AddTo (reaches_along feeder link b p ps a) total → Chained m n feeder link b a (reverse pillars) total
  turned_by pillars total C p ps is adds = record {
    from = C.to;
    to = C.from;
    start = p;
    rest = ps;
    listed = ap reverse C.listed ∙ is;
    within = subst (AllByRecursion (λ q. q < n)) is (all_reversed (λ q. q < n) (C.start ∷ C.rest) C.within);
    different = subst Different is (different_reversed (C.start ∷ C.rest) C.different);
    adds = adds;
  }

  pub chain_turned : (pillars : List ℕ) (total : ℕ) → Chained m n feeder link a b pillars total → Chained m n feeder link b a (reverse pillars) total
  chain_turned pillars total C =
      let f = add_first (feeder a C.start) (reaches_onward feeder link C.start C.rest b) total C.adds in
      let r = back C.start C.rest [] f.1 f.0 C.within f.3 (add_cons (feeder a C.start) [] f.0 0 f.0 f.2 refl (omega arith)) in
      let sums : f.1 + f.0 ≡ total = omega (arith, f.4) in
      turned_by pillars total C r.0 r.1 r.2 (rw sums at r.3)

-- a short chain is short from either end
pub short_turned : (L : Layout) → ((j k : ℕ) → j < L.pillars → k < L.pillars → L.link j k ≡ L.link k j) → (a b : ℕ) (pillars : List ℕ) (gap total : ℕ) → Short L a b pillars gap total → Short L b a (reverse pillars) gap total
short_turned L even a b pillars gap total S = record {
  chain = chain_turned L.points L.pillars L.feeder L.link even a b pillars total S.chain;
  different_points = λ e. S.different_points (sym e);
  gap_is = S.gap_is ∙ apart_turned (L.point a) (L.point b);
  short = S.short;
}

-- the chain of both line problems, from its other end
pub solved_turned : (L : Layout) → ((j k : ℕ) → j < L.pillars → k < L.pillars → L.link j k ≡ L.link k j) → (e d : Chain) → Turned e d → SolvedBoth L (Err e) → SolvedBoth L (Err d)
solved_turned L even e d T S = rw (T.from, T.to, T.total, T.pillars, apart_turned (L.point e.to) (L.point e.from)) (short_turned L even e.from e.to (listed e.pillars) (apart (L.point e.from) (L.point e.to)) e.total S)
