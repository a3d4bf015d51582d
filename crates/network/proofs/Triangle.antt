-- A short chain rules out every positions. Assumes nothing.
use Rattle.std.proofs.Common.{◌≡◌, ℕ, ◌+◌, ◌<◌, ◌≤◌, List, [], ◌∷◌, ℤ, ◌-ℤ◌, nat_abs, arith}
use Rattle.std.specs.List.{AllByRecursion}
use Rattle.std.proofs.lemmas.Int.{ints}
use Rattle.network.specs.Layout.{Layout, apart, Meets}
use Rattle.network.specs.Chain.{reaches_onward, reaches_along, AddTo, ShortRulesOut}
use Rattle.network.proofs.Sums.{within_limited, add_first}

gap_triangle : (x y z : ℤ) → nat_abs (x -ℤ z) ≤ nat_abs (x -ℤ y) + nat_abs (y -ℤ z)
gap_triangle x y z = omega (arith, ints)

gap_turned : (x y : ℤ) → nat_abs (x -ℤ y) ≡ nat_abs (y -ℤ x)
gap_turned x y = omega (arith, ints)

apart_triangle : (p q r : ℤ × ℤ) → apart p r ≤ apart p q + apart q r
apart_triangle p q r = omega (arith, gap_triangle p.0 q.0 r.0, gap_triangle p.1 q.1 r.1)

pub apart_turned : (p q : ℤ × ℤ) → apart p q ≡ apart q p
apart_turned p q = omega (arith, gap_turned p.0 q.0, gap_turned p.1 q.1)

module _ (L : Layout) (position : ℕ → ℤ × ℤ) (M : Meets L position) (b : ℕ) (in_b : b < L.points) where
  -- from a pillar on, the chain is at least as long as the way to its last point
  stretched : (p : ℕ) (ps : List ℕ) (t : ℕ) → AllByRecursion (λ q. q < L.pillars) (p ∷ ps) → AddTo (reaches_onward L.feeder L.link p ps b) t → apart (position p) (L.point b) ≤ t
  stretched p [] t h sum =
      let f = add_first _ [] t sum in
      omega (arith, within_limited _ _ _ f.2 (M.feeders b p in_b h.0), apart_turned (position p) (L.point b))
  stretched p (q ∷ ps) t h sum =
      let f = add_first _ (reaches_onward L.feeder L.link q ps b) t sum in
      omega (arith, within_limited _ _ _ f.2 (M.links p q h.0 h.1.0), apart_triangle (position p) (position q) (L.point b), stretched q ps f.1 h.1 f.3)

  pub whole_chain : (a p : ℕ) (ps : List ℕ) (t : ℕ) → a < L.points → AllByRecursion (λ q. q < L.pillars) (p ∷ ps) → AddTo (reaches_along L.feeder L.link a p ps b) t → apart (L.point a) (L.point b) ≤ t
  whole_chain a p ps t in_a h sum =
      let f = add_first _ (reaches_onward L.feeder L.link p ps b) t sum in
      omega (arith, within_limited _ _ _ f.2 (M.feeders a p in_a h.0), apart_triangle (L.point a) (position p) (L.point b), stretched p ps f.1 h f.3)

pub short_rules_out_lem : ShortRulesOut
short_rules_out_lem L a b pillars gap total S position M =
    let C = S.chain in
    omega (arith, whole_chain L position M b C.to a C.start C.rest total C.from C.within C.adds, S.gap_is, S.short)
