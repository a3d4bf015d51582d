-- Best chains on a line are the highest places, or a pillar that is too low gives a tight chain. No code is named here. Assumes nothing.
use Rattle.std.specs.Prelude.{Some, None}
use Rattle.std.proofs.Common.{◌≡◌, ℕ, ◌+◌, ◌^◌, ◌<◌, ◌≤◌, true, List, [], ◌∷◌, reverse, sym, refl, ap, ◌∙◌, inl, inr, arith}
use Rattle.std.specs.List.{AllByRecursion}
use Rattle.chains.specs.Measures.{add_steps, fewer, Steps}
use Rattle.chains.specs.Chains.{chain_value, Chain, Different, Leads, BestFound}
use Rattle.chains.specs.Along.{value_onward, last_of}
use Rattle.chains.specs.StepsLaws.{steps_laws}
use Rattle.chains.proofs.Forward.{best_to}
use Rattle.network.specs.Chain.{reaches_onward, AddTo}
use Rattle.network.specs.Line.{Line, Upto, Sits, Highest, Tight, Start, steps_of}
use Rattle.network.proofs.Sums.{add_cons, add_parts, limited_under, under_sum, limited_same}

-- what `Upto` says, by the two cases of a reach
pub upto_by : (s : Steps) (x y : ℕ) → ((r : ℕ) → s ≡ Some r → x ≤ y + r) → Upto s x y
upto_by (Some r) x y h = h r refl
upto_by None x y h = tt

pub upto_limited : (s : Steps) (x y r : ℕ) → s ≡ Some r → Upto s x y → x ≤ y + r
upto_limited s x y r e h = rw e at h

-- A chain to a pillar that goes on to the point b: `from` is its value at its first pillar, and `onto` what the reaches from there to b add up to.
pub record Way (l : Line) (first : ℕ → Steps) (b sum : ℕ) (pillars : List ℕ) : Type 0 where
  pub start : ℕ
  pub rest : List ℕ
  pub listed : pillars ≡ start ∷ rest
  pub within : AllByRecursion (λ p. p < l.pillars) (start ∷ rest)
  pub different : Different (start ∷ rest)
  pub from : ℕ
  pub onto : ℕ
  pub from_is : first start ≡ Some from
  pub adds : AddTo (reaches_onward l.feeder l.link start rest b) onto
  pub sums : from + onto ≡ sum

module _ (l : Line) (first best : ℕ → Steps) (before : ℕ → ℕ) (narrow : l.width < 2 ^ 64) (starts : (j : ℕ) → j < l.pillars → Start l j (first j)) (F : BestFound add_steps fewer first l.link l.pillars best before) where
  entered : (j : ℕ) → j < l.pillars → fewer (best j) (first j) ≡ true
  entered j h = F.least j [] (h, tt)

  limited : (j : ℕ) → j < l.pillars → (x : ℕ) × (best j ≡ Some x) × (x ≤ l.width)
  limited j h = limited_under (best j) l.width (steps_laws.transitive (best j) (first j) (Some l.width) (entered j h) (starts j h).cut)

  pub best_is : (j : ℕ) → j < l.pillars → best j ≡ Some (steps_of (best j))
  best_is j h = let k = limited j h in k.1 ∙ ap Some (sym (ap steps_of k.1))

  pub best_inside : (j : ℕ) → j < l.pillars → steps_of (best j) ≤ l.width
  best_inside j h = let k = limited j h in rw k.1 k.2

  -- no higher than what it is offered
  offered : (j : ℕ) (x s : Steps) (a : ℕ) → j < l.pillars → x ≡ Some a → fewer (best j) (add_steps x s) ≡ true → Upto s (steps_of (best j)) a
  offered j x s a h e o = upto_by s _ a (λ r q. under_sum (steps_of (best j)) l.width a r (best_inside j h) narrow (rw (best_is j h, e, q) at o))

  -- a rival is no higher than the value of any chain
  rival : (y : ℕ → ℕ) → Sits l y → (v : ℕ) (c : List ℕ) (z : ℕ) → Chain l.pillars v c → chain_value add_steps first l.link v c ≡ Some z → y v ≤ z
  rival y S v [] z h e = elim (starts v h.0).some [
    | inl q ↦ omega (arith, S.inside v h.0, limited_same l.width z (sym q ∙ e))
    | inr q ↦ let p = add_parts (Some (l.at q.0)) (l.feeder q.0 v) z (sym q.2 ∙ e) in
        omega (arith, upto_limited (l.feeder q.0 v) (y v) (l.at q.0) p.1 p.3 (S.under q.0 v q.1 h.0), limited_same (l.at q.0) p.0 p.2, p.4)
  ]
  rival y S v (u ∷ c) z h e =
      let p = add_parts (chain_value add_steps first l.link u c) (l.link u v) z e in
      omega (arith, rival y S u c p.0 h.1 p.2, upto_limited (l.link u v) (y v) (y u) p.1 p.3 (S.linked u v h.1.0 h.0), p.4)

  pub highest : ((i j : ℕ) → i < l.points → j < l.pillars → Upto (l.feeder i j) (l.at i) (steps_of (best j))) → Highest l (λ j. steps_of (best j))
  highest above = record {
    sits = record {
      inside = best_inside;
      under = λ i j hi hj. offered j (Some (l.at i)) (l.feeder i j) (l.at i) hj refl (steps_laws.transitive (best j) (first j) (add_steps (Some (l.at i)) (l.feeder i j)) (entered j hj) ((starts j hj).least i hi));
      over = above;
      linked = λ u v hu hv.
          let f = F.some u hu in
          offered v (best u) (l.link u v) (steps_of (best u)) hv (best_is u hu) (rw f.1.worth at (F.least v (u ∷ f.0) (hv, f.1.traced.chain)));
    };
    highest = λ y S j h. let f = F.some j h in rival y S j f.0 (steps_of (best j)) f.1.traced.chain (f.1.worth ∙ best_is j h);
  }

  -- the pillar v is too low for the point b: the chain that holds it down
  module _ (v b : ℕ) (in_v : v < l.pillars) (in_b : b < l.points) (narrow_b : l.at b ≤ l.width) (r : ℕ) (reach_is : l.feeder b v ≡ Some r) (low : steps_of (best v) + r < l.at b) where
    summed : (x : Steps) (p : ℕ) (ps : List ℕ) (z : ℕ) → value_onward add_steps l.link x p ps ≡ Some z → last_of p ps ≡ v → (f : ℕ) × (t : ℕ) × (x ≡ Some f) × AddTo (reaches_onward l.feeder l.link p ps b) t × (f + t ≡ z + r)
    summed x p [] z e q = (z, r + 0, e, add_cons (l.feeder b p) [] r 0 (r + 0) (ap (l.feeder b) q ∙ reach_is) refl refl, omega arith)
    summed x p (q ∷ ps) z e k =
        let d = summed (add_steps x (l.link p q)) q ps z e k in
        let a = add_parts x (l.link p q) d.0 d.2 in
        (a.0, a.1 + d.1, a.2, add_cons (l.link p q) (reaches_onward l.feeder l.link q ps b) a.1 d.1 (a.1 + d.1) a.3 d.3 refl, omega (arith, a.4, d.4))

    pub way : (c : List ℕ) → Leads add_steps first l.link l.pillars before v (best v) c → (pillars : List ℕ) → pillars ≡ reverse (v ∷ c) → Way l first b (steps_of (best v) + r) pillars
    way c L pillars w =
        let B = best_to add_steps first l.link fewer l.pillars best before F v in_v c L (best v) refl pillars w in
        let s = summed (first B.start) B.start B.rest (steps_of (best v)) (B.worth ∙ best_is v in_v) B.ends in
        record {
          start = B.start;
          rest = B.rest;
          listed = B.listed;
          within = B.within;
          different = B.different;
          from = s.0;
          onto = s.1;
          from_is = s.2;
          adds = s.3;
          sums = s.4;
        }

    -- the cut at the width is never what holds a pillar down too far
    pub giver_stands : (pillars : List ℕ) (W : Way l first b (steps_of (best v) + r) pillars) → (i : ℕ) × (i < l.points) × (first W.start ≡ add_steps (Some (l.at i)) (l.feeder i W.start))
    giver_stands pillars W = elim (starts W.start W.within.0).some [
      | inl q ↦ absurd (omega (arith, limited_same W.from l.width (sym W.from_is ∙ q), W.sums))
      | inr q ↦ q
    ]

    pub tight : (pillars : List ℕ) (W : Way l first b (steps_of (best v) + r) pillars) (i : ℕ) → i < l.points → first W.start ≡ add_steps (Some (l.at i)) (l.feeder i W.start) → (total : ℕ) → total + l.at i ≡ steps_of (best v) + r → Tight l i b pillars total
    tight pillars W i in_i e total sum =
        let p = add_parts (Some (l.at i)) (l.feeder i W.start) W.from (sym e ∙ W.from_is) in
        record {
          chain = record {
            from = in_i;
            to = in_b;
            start = W.start;
            rest = W.rest;
            listed = W.listed;
            within = W.within;
            different = W.different;
            adds = add_cons (l.feeder i W.start) (reaches_onward l.feeder l.link W.start W.rest b) p.1 W.onto total p.3 W.adds (omega (arith, limited_same (l.at i) p.0 p.2, p.4, W.sums));
          };
          short = omega arith;
        }
