-- A plan and a network that stands for it: lengths, fields and chains of the one are those of the other.
use Rattle.std.specs.Prelude.{Some, None}
use Rattle.std.proofs.Common.{◌≡◌, ℕ, ◌%◌, ◌<◌, List, [], ◌∷◌, map, length, ℤ, pos, ◌+ℤ◌, ◌-ℤ◌, nat_abs, ◌≤ℤ◌, Some, None, Option, sym, refl, ap, ◌∙◌, subst, ⊎_elim, arith}
use lib.Signed.{quot_z}
use Rattle.std.specs.List.{AllByRecursion}
use Rattle.std.proofs.ByRecursion.{All-get_or, All-from_get_or}
use Rattle.std.proofs.lemmas.Int.{ints}
use Rattle.std.proofs.lemmas.Bool.{cases_order}
use Rattle.chains.specs.Measures.{Steps}
use Rattle.chains.specs.Chains.{Different}
use Rattle.network.specs.Layout.{Layout, apart, Within, Meets, Between, InField}
use Rattle.network.specs.Chain.{reaches_onward, reaches_along, AddTo, Short}
use Rattle.network.proofs.Sums.{add_first}
use Rattle.network.proofs.Triangle.{apart_turned}
use Rattle.yard.specs.Grid.{IsReading}
use Rattle.yard.proofs.Readings.{larger_gap}
use Rattle.yard.specs.declared.force.InForce.{InForce}
use Rattle.yard.specs.declared.force.Run.{Run}
use Rattle.yard.specs.declared.force.Run.TheVariants.{Feeder, Link}
use Rattle.runs.specs.Spots.{Spot, OnTrenches, StandsAt, mast_spot, steps_between, twice_sum, twice_difference, origin}
use Rattle.runs.specs.Order.{runs_of}
use Rattle.runs.specs.Levels.{Placing, site_at, spot_or_origin, length_of, Rival, BetweenMasts, InTheField, ReadAs}
use Rattle.runs.specs.Shortness.{runs_onward, chain_runs, TooShort}
use Rattle.runs.proofs.Modelled.{Models, Footed, Even}
use Rattle.runs.proofs.Listed.{the_feeder, the_link, all_runs}

-- the reading of each site
abbrev pub readings : Placing → ℕ → ℤ × ℤ
readings P j = (quot_z ((site_at P j).hx +ℤ (site_at P j).hy) (pos 2), quot_z ((site_at P j).hx -ℤ (site_at P j).hy) (pos 2))

-- the halves of a site have an even sum and an even difference
half_sum : (z w : ℤ) → nat_abs z % 2 ≡ nat_abs w % 2 → quot_z (z +ℤ w) (pos 2) +ℤ quot_z (z +ℤ w) (pos 2) ≡ z +ℤ w
half_sum z w e = omega (arith, ints)

half_gap : (z w : ℤ) → nat_abs z % 2 ≡ nat_abs w % 2 → quot_z (z -ℤ w) (pos 2) +ℤ quot_z (z -ℤ w) (pos 2) ≡ z -ℤ w
half_gap z w e = omega (arith, ints)

pub readings_read : (F : InForce) (R : Placing) → Rival F R → ReadAs F R (readings R)
readings_read F R s j u =
    let h : OnTrenches (site_at R j) = All-get_or OnTrenches R j origin (omega (arith, s.0)) s.1 in
    (half_sum (site_at R j).hx (site_at R j).hy h, half_gap (site_at R j).hx (site_at R j).hy h)

-- a pillar is not apart from itself
apart_self : (p : ℤ × ℤ) → apart p p ≡ 0
apart_self p = omega (arith, gap_self p.0, gap_self p.1)
  where
    gap_self : (x : ℤ) → nat_abs (x -ℤ x) ≡ 0
    gap_self x = omega (arith, ints)

within_none : (s : Steps) → Within 0 s
within_none (Some r) = omega arith
within_none None = tt

within_moved : (d e : ℕ) (s t : Steps) → d ≡ e → s ≡ t → Within e t → Within d s
within_moved d e s t p q w = rw (p, q) w

module _ (F : InForce) (of : Run → Steps) (N : Layout) (M : Models F of N) (P : Placing) (at : ℕ → ℤ × ℤ) (R : ReadAs F P at) where
  feeder_length_lem : (m j : ℕ) (s : Spot) → StandsAt F m s → j < F.count → apart (N.point m) (at j) ≡ length_of F P (Feeder m j)
  feeder_length_lem m j s e u =
      larger_gap s.hx s.hy (site_at P j).hx (site_at P j).hy (N.point m) (at j) (M.point m s e) (R j u)
      ∙ ap (λ (o : Option Spot). steps_between (spot_or_origin o) (site_at P j)) (sym e)

  link_length_lem : (p q : ℕ) → p < F.count → q < F.count → apart (at p) (at q) ≡ length_of F P (Link p q)
  link_length_lem p q u v = larger_gap (site_at P p).hx (site_at P p).hy (site_at P q).hx (site_at P q).hy (at p) (at q) (R p u) (R q v)

  meets_read : Even of → AllByRecursion (λ r. Within (length_of F P r) (of r)) (runs_of F) → Meets N at
  meets_read even h = record {
    feeders = λ i j k l. from_point i j k (omega (arith, M.pillars)) (mast_spot F i) refl;
    links = λ j k l m. between j k (omega (arith, M.pillars)) (omega (arith, M.pillars));
  }
    where
      from_point : (i j : ℕ) → i < N.points → j < F.count → (o : Option Spot) → mast_spot F i ≡ o → Within (apart (N.point i) (at j)) (N.feeder i j)
      from_point i j k u (Some s) e = within_moved _ _ _ _ (feeder_length_lem i j s e u) (M.feeder i j s e u) (the_feeder _ F i j s h e u)
      from_point i j k u None e = within_moved _ _ _ None refl (M.absent i j k e u) tt

      up : (j k : ℕ) → j < F.count → k < F.count → j < k → Within (apart (at j) (at k)) (N.link j k)
      up j k u v l = within_moved _ _ _ _ (link_length_lem j k u v) (M.link j k u v) (the_link _ F j k h l v)

      between : (j k : ℕ) → j < F.count → k < F.count → Within (apart (at j) (at k)) (N.link j k)
      between j k u v =
          ⊎_elim (λ e. within_moved _ 0 _ _ (ap (λ n. apart (at j) (at n)) (sym e) ∙ apart_self (at j)) refl (within_none (N.link j k)))
          (⊎_elim (λ l. up j k u v l)
          (λ l. within_moved _ _ _ _ (apart_turned (at j) (at k)) (M.link j k u v ∙ even j k ∙ sym (M.link k j v u)) (up k j v u l)))
          (cases_order j k)

  pub meets_all : Meets N at → AllByRecursion (λ r. Within (length_of F P r) (of r)) (runs_of F)
  meets_all m =
      all_runs _ F
      (λ i j s e u. within_moved _ _ _ _ (sym (feeder_length_lem i j s e u)) (sym (M.feeder i j s e u)) (m.feeders i j (M.covers i s e) (omega (arith, M.pillars))))
      (λ p q l u. let v : p < F.count = omega arith in
      within_moved _ _ _ _ (sym (link_length_lem p q v u)) (sym (M.link p q v u)) (m.links p q (omega (arith, M.pillars)) (omega (arith, M.pillars))))

pub meets_from : (F : InForce) (of : Run → Steps) (N : Layout) → Models F of N → Even of → (R : Placing) → Rival F R →
    AllByRecursion (λ r. Within (length_of F R r) (of r)) (runs_of F) → Meets N (readings R)
meets_from F of N M even R s h = meets_read F of N M R (readings R) (readings_read F R s) even h

-- the order of two numbers is that of their doubles
halves_order : (a b x y : ℤ) → a +ℤ a ≡ x → b +ℤ b ≡ y → x ≤ℤ y → a ≤ℤ b
halves_order a b x y e f h = omega (arith, ints)

pub doubles_order : (a b x y : ℤ) → a +ℤ a ≡ x → b +ℤ b ≡ y → a ≤ℤ b → x ≤ℤ y
doubles_order a b x y e f h = omega (arith, ints)

-- one axis: `axis` of a reading, and `twice` as much of a spot with that reading
module _ (F : InForce) (of : Run → Steps) (N : Layout) (M : Models F of N)
    (twice : Spot → ℤ) (axis : ℤ × ℤ → ℤ) (double : (s : Spot) (r : ℤ × ℤ) → IsReading s.hx s.hy r → axis r +ℤ axis r ≡ twice s)
    (s : Spot) (r : ℤ × ℤ) (read : IsReading s.hx s.hy r) where
  between_points : BetweenMasts F twice s → Between N.points (λ i. axis (N.point i)) (axis r)
  between_points ((m, a, e, h), (n, b, f, k)) = record {
    low = (m, M.covers m a e, halves_order _ _ _ _ (double a (N.point m) (M.point m a e)) (double s r read) h);
    high = (n, M.covers n b f, halves_order _ _ _ _ (double s r read) (double b (N.point n) (M.point n b f)) k);
  }

  between_masts : Footed F N → Between N.points (λ i. axis (N.point i)) (axis r) → BetweenMasts F twice s
  between_masts foot b = (below b.low, above b.high)
    where
      below : (i : ℕ) × (i < N.points) × (axis (N.point i) ≤ℤ axis r) → (m : ℕ) × (a : Spot) × StandsAt F m a × (twice a ≤ℤ twice s)
      below (i, u, h) = let f = foot i u in
          (f.0, f.1, f.2, doubles_order _ _ _ _ (double f.1 (N.point f.0) (M.point f.0 f.1 f.2)) (double s r read) (rw f.3 at h))

      above : (i : ℕ) × (i < N.points) × (axis r ≤ℤ axis (N.point i)) → (m : ℕ) × (a : Spot) × StandsAt F m a × (twice s ≤ℤ twice a)
      above (i, u, h) = let f = foot i u in
          (f.0, f.1, f.2, doubles_order _ _ _ _ (double s r read) (double f.1 (N.point f.0) (M.point f.0 f.1 f.2)) (rw f.3 at h))

pub field_from : (F : InForce) (of : Run → Steps) (N : Layout) → Models F of N → (R : Placing) → Rival F R → InTheField F R → InField N (readings R)
field_from F of N M R sites h = record {
  s = λ j u. between_points F of N M twice_sum (λ r. r.0) (λ s r e. e.0) (site_at R j) (readings R j) (readings_read F R sites j (omega (arith, M.pillars))) (here j u).0;
  t = λ j u. between_points F of N M twice_difference (λ r. r.1) (λ s r e. e.1) (site_at R j) (readings R j) (readings_read F R sites j (omega (arith, M.pillars))) (here j u).1;
}
  where
    here : (j : ℕ) → j < N.pillars → BetweenMasts F twice_sum (site_at R j) × BetweenMasts F twice_difference (site_at R j)
    here j u = All-get_or (λ s. BetweenMasts F twice_sum s × BetweenMasts F twice_difference s) R j origin (omega (arith, M.pillars, sites.0)) h

pub field_all : (F : InForce) (of : Run → Steps) (N : Layout) → Models F of N → Footed F N → (at : ℕ → ℤ × ℤ) (P : Placing) → length P ≡ F.count → ReadAs F P at →
    InField N at → InTheField F P
field_all F of N M foot at P long read h =
    All-from_get_or _ P origin (λ j u. let v : j < F.count = omega arith in let w : j < N.pillars = omega (arith, M.pillars) in (
      between_masts F of N M twice_sum (λ r. r.0) (λ s r e. e.0) (site_at P j) (at j) (read j v) foot (h.s j w),
      between_masts F of N M twice_difference (λ r. r.1) (λ s r e. e.1) (site_at P j) (at j) (read j v) foot (h.t j w),
    ))

-- along a chain between standing masts the network has the reaches of the plan's runs
module _ (F : InForce) (of : Run → Steps) (N : Layout) (M : Models F of N) (a b : ℕ) (here there : Spot) (e : StandsAt F a here) (f : StandsAt F b there) where
  onward : (p : ℕ) (ps : List ℕ) → AllByRecursion (λ q. q < F.count) (p ∷ ps) → reaches_onward N.feeder N.link p ps b ≡ map of (runs_onward p ps b)
  onward p [] h = let x = M.feeder b p there f h.0 in cc
  onward p (q ∷ ps) h = let x = M.link p q h.0 h.1.0 in let y = onward q ps h.1 in cc

  pub along : (p : ℕ) (ps : List ℕ) → AllByRecursion (λ q. q < F.count) (p ∷ ps) → reaches_along N.feeder N.link a p ps b ≡ map of (chain_runs a (p ∷ ps) b)
  along p ps h = let x = M.feeder a p here e h.0 in let y = onward p ps h in cc

-- some feeder at the end of a chain whose reaches add up is limited
last_limited : (feeder link : ℕ → ℕ → Steps) (n b p : ℕ) (ps : List ℕ) (t : ℕ) → AllByRecursion (λ q. q < n) (p ∷ ps) → AddTo (reaches_onward feeder link p ps b) t →
    (q : ℕ) × (r : ℕ) × (q < n) × (feeder b q ≡ Some r)
last_limited feeder link n b p [] t h sum = let f = add_first _ [] t sum in (p, f.0, h.0, f.2)
last_limited feeder link n b p (q ∷ ps) t h sum =
    let f = add_first _ (reaches_onward feeder link q ps b) t sum in last_limited feeder link n b q ps f.1 h.1 f.3

module _ (F : InForce) (of : Run → Steps) (N : Layout) (M : Models F of N) where
  -- where a feeder is limited, a mast stands
  stands_there : (i p r : ℕ) → i < N.points → p < F.count → N.feeder i p ≡ Some r → (s : Spot) × StandsAt F i s
  stands_there i p r u v e = go (mast_spot F i) refl
    where
      go : (o : Option Spot) → mast_spot F i ≡ o → (s : Spot) × StandsAt F i s
      go (Some s) k = (s, k)
      go None k = absurd (let x = M.absent i p u k v in let z : ◌≡◌ {A = ℕ} 0 1 = cc in omega arith)

  between_standing : (a b p : ℕ) (ps : List ℕ) (gap total : ℕ) (here there : Spot) → StandsAt F a here → StandsAt F b there → a < b →
      AllByRecursion (λ q. q < F.count) (p ∷ ps) → Different (p ∷ ps) → gap ≡ apart (N.point a) (N.point b) → AddTo (reaches_along N.feeder N.link a p ps b) total →
      total < gap → TooShort F of a b gap total (p ∷ ps)
  between_standing a b p ps gap total here there e f lower inside apart_each gap_is adds short = record {
    lower_first = lower;
    here = here;
    there = there;
    from_stands = e;
    to_stands = f;
    some_pillar = omega arith;
    in_plan = inside;
    different = apart_each;
    gap_is = gap_is ∙ larger_gap here.hx here.hy there.hx there.hy (N.point a) (N.point b) (M.point a here e) (M.point b there f);
    total_is = subst (λ (l : List Steps). AddTo l total) (along F of N M a b here there e f p ps inside) adds;
    short = short;
  }

  pub told_from : (a b : ℕ) (pillars : List ℕ) (gap total : ℕ) → Short N a b pillars gap total → a < b → TooShort F of a b gap total pillars
  told_from a b pillars gap total S lower =
      let C = S.chain in
      let inside : AllByRecursion (λ q. q < F.count) (C.start ∷ C.rest) = subst (λ (n : ℕ). AllByRecursion (λ q. q < n) (C.start ∷ C.rest)) M.pillars C.within in
      let first = add_first _ (reaches_onward N.feeder N.link C.start C.rest b) total C.adds in
      let last = last_limited N.feeder N.link F.count b C.start C.rest first.1 inside first.3 in
      let x = stands_there a C.start first.0 C.from inside.0 first.2 in
      let y = stands_there b last.0 last.1 C.to last.2 last.3 in
      subst (TooShort F of a b gap total) (sym C.listed)
      (between_standing a b C.start C.rest gap total x.0 y.0 x.1 y.1 lower inside C.different S.gap_is C.adds S.short)
