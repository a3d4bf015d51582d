-- A chain that is too short, at another level.
use Rattle.std.proofs.Common.{◌≡◌, ℕ, ◌+◌, ◌/◌, ◌<◌, ◌≤◌, true, List, [], ◌∷◌, map, ℤ, ◌+ℤ◌, ◌-ℤ◌, nat_abs, Some, sym, refl, ap, ◌∙◌, subst, arith}
use Rattle.std.specs.List.{AllByRecursion}
use Rattle.std.proofs.lemmas.Int.{ints}
use Rattle.chains.specs.Measures.{Steps}
use Rattle.chains.specs.Pillars.{listed}
use Rattle.network.specs.declared.answer.ShortChain.{ShortChain}
use Rattle.network.specs.Chain.{AddTo}
use Rattle.yard.specs.Force.{mast_at}
use Rattle.yard.specs.Grid.{distance}
use Rattle.yard.specs.Sound.{on_grid, feeder_fair, link_fair, fair}
use Rattle.yard.specs.declared.force.InForce.{InForce}
use Rattle.yard.specs.declared.force.Terms.{Terms}
use Rattle.yard.specs.declared.force.Run.{Run}
use Rattle.runs.specs.Spots.{Spot, StandsAt, spot_of, foot_spot, steps_between}
use Rattle.runs.specs.Order.{run_terms}
use Rattle.runs.specs.Shortness.{chain_runs, run_limit, reach_of}
use Rattle.runs.proofs.Listed.{mast_there}
use Rattle.placing.specs.Jumping.{reaches_at}
use Rattle.placing.specs.Settling.{ChainShort}
use Rattle.placing.proofs.Networking.{foot_near}
use Rattle.placing.proofs.Topmost.{top_limits, run_fair}

fused : {A B C : Type 0} (f : A → B) (g : B → C) (xs : List A) → map g (map f xs) ≡ map (λ x. g (f x)) xs
fused f g [] = refl
fused f g (x ∷ xs) = ap (λ l. g (f x) ∷ l) (fused f g xs)

-- two masts are at most 200,000 steps apart
far_apart : (x y z w : ℤ) → nat_abs x ≤ 50000 → nat_abs y ≤ 50000 → nat_abs z ≤ 50000 → nat_abs w ≤ 50000 →
    distance (x +ℤ x) (y +ℤ y) (z +ℤ z) (w +ℤ w) ≤ 200000
far_apart x y z w h i j k = halved _ _ (gap x z h j) (gap y w i k)
  where
    gap : (a b : ℤ) → nat_abs a ≤ 50000 → nat_abs b ≤ 50000 → nat_abs ((a +ℤ a) -ℤ (b +ℤ b)) ≤ 200000
    gap a b p q = omega (arith, ints)

    halved : (m n : ℕ) → m ≤ 200000 → n ≤ 200000 → (m + n) / 2 ≤ 200000
    halved m n p q = omega arith

feet_far : (s t : Spot) (x y z w : ℤ) → s ≡ record { hx = x +ℤ x; hy = y +ℤ y } → t ≡ record { hx = z +ℤ z; hy = w +ℤ w } →
    distance (x +ℤ x) (y +ℤ y) (z +ℤ z) (w +ℤ w) ≤ 200000 → steps_between s t ≤ 200000
feet_far s t x y z w e f h = rw (e, f) h

module _ (F : InForce) (c : ShortChain) (of : Run → Steps) (W : ChainShort F of c) where
  abbrev runs : List Run
  runs = chain_runs c.chain.from (listed c.chain.pillars) c.chain.to

  -- the same chain, with what its runs add up to by another measure
  pub by_other : (other : Run → Steps) (total : ℕ) → AddTo (map other runs) total → total < c.gap →
      ChainShort F other (record c { chain = record c.chain { total = total } })
  by_other other total adds short = record {
    lower_first = W.lower_first;
    here = W.here;
    there = W.there;
    from_stands = W.from_stands;
    to_stands = W.to_stands;
    some_pillar = W.some_pillar;
    in_plan = W.in_plan;
    different = W.different;
    gap_is = W.gap_is;
    total_is = adds;
    short = short;
  }

  -- the terms of its runs
  module _ (terms : List Terms) (gathered : terms ≡ map (run_terms F) runs) where
    pub to_runs : (L total : ℕ) → AddTo (reaches_at terms L) total → AddTo (map (reach_of F L) runs) total
    to_runs L total a = subst (λ (l : List Steps). AddTo l total) (ap (λ ts. reaches_at ts L) gathered ∙ fused _ _ runs) a

    pub from_runs : (L total : ℕ) → AddTo (map (reach_of F L) runs) total → AddTo (reaches_at terms L) total
    from_runs L total a = subst (λ (l : List Steps). AddTo l total) (sym (ap (λ ts. reaches_at ts L) gathered ∙ fused _ _ runs)) a

  -- at the highest level it goes by its limits
  module _ (grid : (m : ℕ) → on_grid F m ≡ true) (feeders : (m p : ℕ) → feeder_fair F m p ≡ true) (links : (p q : ℕ) → link_fair F p q ≡ true) where
    -- where a mast stands, in whole steps
    foot_far : (m : ℕ) (s : Spot) → StandsAt F m s → (x : ℤ) × (y : ℤ) × (s ≡ record { hx = x +ℤ x; hy = y +ℤ y }) × (nat_abs x ≤ 50000) × (nat_abs y ≤ 50000)
    foot_far m s e =
        let (a, is) = mast_there (mast_at F m) s e in
        let near = foot_near F m a (grid m) is in
        let same : Some (spot_of a.at) ≡ Some s = sym (ap foot_spot is) ∙ e in
        let spot : s ≡ spot_of a.at = cc in
        (a.at.x, a.at.y, spot, near.0, near.1)

    pub gap_far : c.gap ≤ 200000
    gap_far =
        let a = foot_far c.chain.from W.here W.from_stands in
        let b = foot_far c.chain.to W.there W.to_stands in
        subst (λ n. n ≤ 200000) (sym W.gap_is) (feet_far W.here W.there a.0 a.1 b.0 b.1 a.2 b.2 (far_apart a.0 a.1 b.0 b.1 a.3 a.4 b.3 b.4))

    fair_runs : (rs : List Run) → AllByRecursion (λ t. fair t ≡ true) (map (run_terms F) rs)
    fair_runs [] = tt
    fair_runs (r ∷ rs) = (run_fair F feeders links r, fair_runs rs)

    pub by_limits : (total : ℕ) → AddTo (map (reach_of F 3000000000) (runs)) total → total < c.gap →
        AddTo (map (run_limit F) (runs)) total
    by_limits total a short =
        subst (λ (l : List Steps). AddTo l total) (fused (run_terms F) (λ t. t.limit) runs)
        (top_limits (map (run_terms F) runs) total c.gap (fair_runs runs) (subst (λ (l : List Steps). AddTo l total) (sym (fused (run_terms F) _ runs)) a) short gap_far)
