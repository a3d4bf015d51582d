-- The tables of a plan at a level make a network that stands for it.
use Rattle.std.proofs.Common.{◌≡◌, ℕ, ◌<◌, ◌≤◌, true, not, List, length, ℤ, ◌+ℤ◌, ◌-ℤ◌, nat_abs, ◌≤ℤ◌, Some, None, Ok, Err, Option, sym, refl, ap, ◌∙◌, subst, arith}
use Rattle.std.specs.List.{AllByRecursion}
use Rattle.std.proofs.lemmas.Int.{ints}
use Rattle.std.proofs.lemmas.Bool.{and_parts, not-true, ltb-false, false≢true}
use Rattle.std.proofs.lemmas.Bool.Decides.{Decides-int_eq}
use Rattle.std.proofs.lemmas.List.{get_or_default}
use Rattle.std.proofs.lemmas.List.Folds.{Any-from_list_any}
use Rattle.std.specs.Ordering.{int_eq}
use Rattle.chains.specs.Measures.{Steps}
use Rattle.chains.specs.Pillars.{listed}
use Rattle.network.specs.declared.answer.Positions.{Positions}
use Rattle.network.specs.declared.answer.ShortChain.{ShortChain}
use Rattle.network.specs.Layout.{Between}
use Rattle.network.specs.Networks.{position_in, Placed, ShortTold}
use Rattle.network.specs.Tables.{Near, point_in, reach_in, layout_of, Sound}
use Rattle.yard.specs.Grid.{IsReading}
use Rattle.yard.specs.Force.{mast_at}
use Rattle.yard.specs.Sound.{foot_on_grid, on_grid}
use Rattle.yard.specs.Edits.{off_grid}
use Rattle.yard.specs.declared.force.InForce.{InForce}
use Rattle.yard.specs.declared.force.Mast.{Mast}
use Rattle.yard.specs.declared.force.Point.{Point}
use Rattle.yard.specs.declared.force.Run.TheVariants.{Feeder, Link}
use Rattle.runs.specs.Spots.{Spot, StandsAt, SomeMast, spot_of, foot_spot, foot_or, point_reading}
use Rattle.runs.specs.Order.{runs_of, run_terms}
use Rattle.runs.specs.Shortness.{reach_of}
use Rattle.runs.proofs.Modelled.{Models, Footed}
use Rattle.runs.proofs.Bridging.{told_from}
use Rattle.runs.proofs.Listed.{mast_there}
use Rattle.runs.proofs.Ruling.{foot_read, standing_reach, absent_reach, reach_even, found_from}
use Rattle.placing.specs.Feet.{reads, some_reads}
use Rattle.placing.specs.Networked.{mast_reach, FitsAt}

-- a point on the grid, by either of its coordinates and by its reading
on_axis_lem : (z : ℤ) → not (off_grid z) ≡ true → nat_abs z ≤ 50000
on_axis_lem z e = ltb-false 50000 (nat_abs z) (not-true (off_grid z) e)

sums_near : (x y : ℤ) → nat_abs x ≤ 50000 → nat_abs y ≤ 50000 → (nat_abs (x +ℤ y) ≤ 100000) × (nat_abs (x -ℤ y) ≤ 100000)
sums_near x y h k = (omega (arith, ints), omega (arith, ints))

abbrev OnGrid : Point → Type 0
OnGrid p = (nat_abs p.x ≤ 50000) × (nat_abs p.y ≤ 50000)

pub foot_near : (F : InForce) (m : ℕ) (a : Mast) → on_grid F m ≡ true → mast_at F m ≡ Some a → OnGrid a.at
foot_near F m a e is =
    let both = and_parts (not (off_grid a.at.x)) (not (off_grid a.at.y)) (subst (λ o. foot_on_grid o ≡ true) is e) in
    (on_axis_lem a.at.x both.0, on_axis_lem a.at.y both.1)

between_near : (m : ℕ) (a : ℕ → ℤ) (x : ℤ) → ((i : ℕ) → i < m → nat_abs (a i) ≤ 100000) → Between m a x → nat_abs x ≤ 100000
between_near m a x h b = inside _ _ x b.low.2 b.high.2 (h b.low.0 b.low.1) (h b.high.0 b.high.1)
  where
    inside : (l u z : ℤ) → l ≤ℤ z → z ≤ℤ u → nat_abs l ≤ 100000 → nat_abs u ≤ 100000 → nat_abs z ≤ 100000
    inside l u z p q r s = omega (arith, ints)

-- what has the reading of a mast is the reading of one
pub reads_is : (p : ℤ × ℤ) (o : Option Mast) → reads p o ≡ true → (a : Mast) × (o ≡ Some a) × (p ≡ point_reading a.at)
reads_is p (Some a) e =
    let both = and_parts (int_eq (a.at.x +ℤ a.at.y) p.0) (int_eq (a.at.x -ℤ a.at.y) p.1) e in
    let x = (Decides-int_eq (a.at.x +ℤ a.at.y) p.0).0 both.0 in
    let y = (Decides-int_eq (a.at.x -ℤ a.at.y) p.1).0 both.1 in
    (a, refl, sym (ap (λ (z : ℤ). (z, a.at.x -ℤ a.at.y)) x ∙ ap (λ (z : ℤ). (p.0, z)) y))
reads_is p None e = absurd (false≢true e)

-- the fixed points of a plan: each mast has one by its number, and each is the reading of a mast
pub record Pointed (F : InForce) (points : List (ℤ × ℤ)) : Type 0 where
  pub some : 0 < length points
  pub most : length points ≤ 40
  pub masts : (m : ℕ) (a : Mast) → mast_at F m ≡ Some a → (m < length points) × (point_in points m ≡ point_reading a.at)
  pub feet : (i : ℕ) → i < length points → some_reads F (point_in points i) ≡ true

-- the mast whose reading a point is
pub mast_of : (F : InForce) (p : ℤ × ℤ) → some_reads F p ≡ true → (m : ℕ) × (a : Mast) × (mast_at F m ≡ Some a) × (p ≡ point_reading a.at)
mast_of F p e =
    let x = Any-from_list_any (reads p) F.masts e in
    let r = reads_is p (mast_at F x.0) (rw (get_or_default F.masts x.0 None x.1 x.2) (rw x.3 x.4)) in
    (x.0, r.0, r.1, r.2)

pub some_mast : (F : InForce) (points : List (ℤ × ℤ)) → 0 < length points → ((i : ℕ) → i < length points → some_reads F (point_in points i) ≡ true) → SomeMast F
some_mast F points some feet = let (m, a, e, is) = mast_of F (point_in points 0) (feet 0 some) in (m, spot_of a.at, ap foot_spot e)

module _ (F : InForce) (grid : (m : ℕ) → on_grid F m ≡ true) where
  module _ (L : ℕ) (points : List (ℤ × ℤ)) (feeders links : List (List Steps)) (P : Pointed F points) (counted : (0 < F.count) × (F.count ≤ 12))
      (rows : length feeders ≡ length points) (row_a_pillar : length links ≡ F.count)
      (feeder_is : (m p : ℕ) → m < length feeders → p < F.count → reach_in feeders m p ≡ mast_reach (mast_at F m) L p)
      (link_is : (p q : ℕ) → p < F.count → q < F.count → reach_in links p q ≡ reach_of F L (Link p q)) where
    near : (i : ℕ) → i < length points → Near (point_in points i)
    near i h =
        let (m, a, e, is) = mast_of F (point_in points i) (P.feet i h) in
        let on = foot_near F m a (grid m) e in
        subst Near (sym is) (sums_near a.at.x a.at.y on.0 on.1)

    pub sound : Sound points feeders links
    sound = record {
      some = P.some;
      most = omega (arith, P.most);
      rows = rows;
      pillars = omega (arith, row_a_pillar, counted.0);
      few = omega (arith, row_a_pillar, counted.1);
      near = near;
      even = λ j k u v. link_is j k (omega (arith, row_a_pillar)) (omega (arith, row_a_pillar)) ∙ reach_even F L j k ∙ sym (link_is k j (omega (arith, row_a_pillar)) (omega (arith, row_a_pillar)));
    }

    stands_at : (m : ℕ) (s : Spot) → StandsAt F m s → (m < length points) × IsReading s.hx s.hy (point_in points m)
    stands_at m s e =
        let (a, is) = mast_there (mast_at F m) s e in
        let at = P.masts m a is in
        (at.0, rw (at.1 ∙ sym (ap (λ o. point_reading (foot_or o a.at)) is)) (foot_read (mast_at F m) a.at s e))

    models : Models F (reach_of F L) (layout_of points feeders links)
    models = record {
      pillars = row_a_pillar;
      covers = λ m s e. (stands_at m s e).0;
      point = λ m s e. (stands_at m s e).1;
      feeder = λ m p s e u. feeder_is m p (omega (arith, rows, (stands_at m s e).0)) u ∙ standing_reach (mast_at F m) s (reach_of F L (Feeder m p)) e;
      absent = λ i p u e v. feeder_is i p (omega (arith, rows)) v ∙ absent_reach (mast_at F i) (reach_of F L (Feeder i p)) e;
      link = link_is;
    }

    footed : Footed F (layout_of points feeders links)
    footed i h = let (m, a, e, is) = mast_of F (point_in points i) (P.feet i h) in (m, spot_of a.at, ap foot_spot e, is ∙ sym (P.masts m a e).1)

    pub fits_ok : AllByRecursion (λ r. (run_terms F r).fixed ≤ L) (runs_of F) → (at : Positions) → Placed (layout_of points feeders links) at → FitsAt F L (Ok at)
    fits_ok paid at G = (
      λ j u.
          let v : j < length links = omega (arith, row_a_pillar) in (
            between_near (length points) (λ i. (point_in points i).0) _ (λ i h. (near i h).0) (G.greatest.field.s j v),
            between_near (length points) (λ i. (point_in points i).1) _ (λ i h. (near i h).1) (G.greatest.field.t j v),
          ),
      λ Q long read. found_from F L (layout_of points feeders links) models footed paid (position_in at) Q long read G.greatest,
    )

    pub fits_short : (c : ShortChain) → ShortTold (layout_of points feeders links) c → FitsAt F L (Err c)
    fits_short c S =
        told_from F (reach_of F L) (layout_of points feeders links) models c.chain.from c.chain.to (listed c.chain.pillars) c.gap c.chain.total S.chain S.order
