-- How large a pillar's sum or difference can be at a level: up to the field's edge, or as far as a chain from a mast leads.
use Rattle.std.specs.Prelude.{Some}
use Rattle.std.proofs.Common.{◌≡◌, ℕ, ◌+◌, ◌<◌, ◌≤◌, List, [], ◌∷◌, ℤ, pos, ◌+ℤ◌, ◌-ℤ◌, nat_abs, ◌≤ℤ◌, Some, None, Option, ◌∙◌, arith}
use Rattle.std.specs.List.{AllByRecursion}
use Rattle.std.proofs.lemmas.List.Elements.{All-from_recursion}
use Rattle.std.proofs.lemmas.Int.{ints}
use Rattle.network.specs.Layout.{apart, Meets}
use Rattle.network.proofs.Sums.{within_limited}
use Rattle.network.proofs.Triangle.{apart_turned}
use Rattle.yard.specs.Grid.{IsReading}
use Rattle.yard.specs.declared.force.InForce.{InForce}
use Rattle.yard.specs.declared.force.Mast.{Mast}
use Rattle.yard.specs.declared.force.Run.TheVariants.{Feeder, Link}
use Rattle.runs.specs.Spots.{Spot, StandsAt, foot_spot, spot_of, twice_sum, twice_difference, origin}
use Rattle.runs.specs.Levels.{Placing, site_at, Rival, BetweenMasts, InTheField, KeepsLimits, level_of}
use Rattle.runs.specs.Shortness.{reach_of}
use Rattle.runs.proofs.Listed.{none_some}
use Rattle.runs.proofs.Bridging.{readings, readings_read, meets_from}
use Rattle.runs.proofs.Ruling.{network_of, network_models, within_reach, reach_even}
use Rattle.yards.proofs.Finding.{◌then◌, less, no_higher, each, standing, limited_to}

-- A way from a pillar: the pillars after it, and the mast at the end.
pub record Way : Type 0 where
  pub onward : List ℕ
  pub mast : ℕ

-- sum or difference: of a spot, doubled, and of a reading
pub record Axis : Type 0 where
  pub twice : Spot → ℤ
  pub once : ℤ × ℤ → ℤ
  pub double : (s : Spot) (r : ℤ × ℤ) → IsReading s.hx s.hy r → once r +ℤ once r ≡ twice s
  pub near : (p q : ℤ × ℤ) → nat_abs (once p -ℤ once q) ≤ apart p q
  pub field : (F : InForce) (s : Spot) → BetweenMasts F twice_sum s × BetweenMasts F twice_difference s → BetweenMasts F twice s

abbrev pub sums : Axis
sums = record { twice = twice_sum; once = λ r. r.0; double = λ s r e. e.0; near = λ p q. omega arith; field = λ F s b. b.0 }

abbrev pub differences : Axis
differences = record { twice = twice_difference; once = λ r. r.1; double = λ s r e. e.1; near = λ p q. omega arith; field = λ F s b. b.1 }

-- a step of r moves a doubled number by at most twice r
step_up : (x y X Y z : ℤ) (r : ℕ) → x +ℤ x ≡ X → y +ℤ y ≡ Y → nat_abs (x -ℤ y) ≤ r → X ≤ℤ (z -ℤ pos (r + r)) → Y ≤ℤ z
step_up x y X Y z r e f h k = omega (arith, ints)

-- a rival in the field with each run within its reach at the level
pub record Eligible (F : InForce) (L : ℕ) (R : Placing) : Type 0 where
  pub sites : Rival F R
  pub in_field : InTheField F R
  pub meets : Meets (network_of F (reach_of F L)) (readings R)

pub eligible : (F : InForce) (L : ℕ) (R : Placing) → Rival F R → InTheField F R → KeepsLimits F R → level_of F R ≡ L → Eligible F L R
eligible F L R sites field keeps e = record {
  sites = sites;
  in_field = field;
  meets = meets_from F (reach_of F L) _ (network_models F (reach_of F L)) (reach_even F L) R sites (within_reach F R L keeps (omega arith));
}

-- at the pillar p no eligible rival is larger than z
abbrev pub Capped : InForce → ℕ → Axis → ℕ → ℤ → Type 0
Capped F L a p z = (R : Placing) → Eligible F L R → a.twice (site_at R p) ≤ℤ z

-- no mast is larger than z
abbrev Under : Axis → ℤ → Option Mast → Type 0
Under a z o = (s : Spot) → foot_spot o ≡ Some s → a.twice s ≤ℤ z

pub foot_under : (a : Axis) (z : ℤ) (b : Mast) → a.twice (spot_of b.at) ≤ℤ z → Under a z (Some b)
foot_under a z b h s e = let same : spot_of b.at ≡ s = cc in rw (← same) h

pub none_under : (a : Axis) (z : ℤ) → Under a z None
none_under a z s e = absurd (none_some e)

abbrev under : (a : Axis) (z : ℤ) (o : Option Mast) → Option (Under a z o)
under a z (Some b) = no_higher (a.twice (spot_of b.at)) z then λ h. Some (foot_under a z b h)
under a z None = Some (none_under a z)

module _ (F : InForce) (L : ℕ) (a : Axis) (p : ℕ) (z : ℤ) (in_p : p < F.count) where
  reading : (R : Placing) → Eligible F L R → (q : ℕ) → q < F.count → a.once (readings R q) +ℤ a.once (readings R q) ≡ a.twice (site_at R q)
  reading R E q u = a.double (site_at R q) (readings R q) (readings_read F R E.sites q u)

  pub at_edge : AllByRecursion (Under a z) F.masts → Capped F L a p z
  at_edge h R E =
      let b = (a.field F (site_at R p) (All-from_recursion _ R E.in_field p origin (omega (arith, E.sites.0)))).1 in
      let u : a.twice b.1 ≤ℤ z = All-from_recursion (Under a z) F.masts h b.0 None ((network_models F (reach_of F L)).covers b.0 b.1 b.2) b.1 b.2 in
      omega (arith, ints, b.3, u)

  pub at_mast : (m : ℕ) (s : Spot) (r : ℕ) → StandsAt F m s → reach_of F L (Feeder m p) ≡ Some r → a.twice s ≤ℤ (z -ℤ pos (r + r)) → Capped F L a p z
  at_mast m s r e f h R E =
      let N = network_of F (reach_of F L) in
      let M = network_models F (reach_of F L) in
      let w = within_limited _ r _ (M.feeder m p s e in_p ∙ f) (E.meets.feeders m p (M.covers m s e) in_p) in
      step_up (a.once (N.point m)) (a.once (readings R p)) _ _ z r (a.double s (N.point m) (M.point m s e)) (reading R E p in_p)
      (omega (arith, a.near (N.point m) (readings R p))) h

  pub at_pillar : (q r : ℕ) → q < F.count → reach_of F L (Link p q) ≡ Some r → Capped F L a q (z -ℤ pos (r + r)) → Capped F L a p z
  at_pillar q r in_q f h R E =
      let w = within_limited _ r _ f (E.meets.links p q in_p in_q) in
      step_up (a.once (readings R q)) (a.once (readings R p)) _ _ z r (reading R E q in_q) (reading R E p in_p)
      (omega (arith, a.near (readings R q) (readings R p), apart_turned (readings R p) (readings R q))) (h R E)

-- the test of a cap: by a way to a mast, or at the field's edge
module _ (F : InForce) (L : ℕ) (a : Axis) where
  abbrev by_way : (p : ℕ) (z : ℤ) (ps : List ℕ) (m : ℕ) → Option (Capped F L a p z)
  by_way p z [] m =
      less p F.count then λ u. standing F m then λ s. limited_to (reach_of F L (Feeder m p)) then λ r.
      no_higher (a.twice s.0) (z -ℤ pos (r.0 + r.0)) then λ h. Some (at_mast F L a p z u m s.0 r.0 s.1 r.1 h)
  by_way p z (q ∷ ps) m =
      less p F.count then λ u. less q F.count then λ v. limited_to (reach_of F L (Link p q)) then λ r.
      by_way q (z -ℤ pos (r.0 + r.0)) ps m then λ h. Some (at_pillar F L a p z u q r.0 v r.1 h)

  abbrev pub capped : (p : ℕ) (z : ℤ) → Option Way → Option (Capped F L a p z)
  capped p z (Some w) = by_way p z w.onward w.mast
  capped p z None = less p F.count then λ u. each (Under a z) (under a z) F.masts then λ h. Some (at_edge F L a p z u h)
