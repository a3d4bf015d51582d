-- What a chain that is too short rules out, and what the greatest positions of a plan's network are.
use Rattle.std.specs.Prelude.{None}
use Rattle.std.proofs.Common.{◌≡◌, ℕ, ◌+◌, ◌-◌, ◌%◌, ◌<◌, ◌≤◌, min, max, List, [], ◌∷◌, map, length, ℤ, pos, ◌+ℤ◌, ◌-ℤ◌, nat_abs, Some, None, Option, sym, refl, ap, ◌∙◌, subst, ⊎_elim, arith}
use Rattle.std.specs.List.{AllByRecursion}
use Rattle.std.proofs.ByRecursion.{All-weaker, All-from_get_or}
use Rattle.std.proofs.lemmas.List.{get_or_past}
use Rattle.std.proofs.lemmas.Int.{ints}
use Rattle.std.proofs.lemmas.Bool.{cases_lt}
use Rattle.chains.specs.Measures.{Steps}
use Rattle.network.specs.Layout.{Layout, Within, Greatest}
use Rattle.network.specs.Chain.{AddTo, Short}
use Rattle.network.proofs.Triangle.{short_rules_out_lem}
use Rattle.yard.specs.Grid.{IsReading}
use Rattle.yard.proofs.Readings.{larger_gap}
use Rattle.yard.specs.declared.force.InForce.{InForce}
use Rattle.yard.specs.declared.force.Mast.{Mast}
use Rattle.yard.specs.declared.force.Point.{Point}
use Rattle.yard.specs.declared.force.Terms.{Terms}
use Rattle.yard.specs.declared.force.Run.{Run}
use Rattle.yard.specs.declared.force.Run.TheVariants.{Feeder, Link}
use Rattle.yard.specs.Force.{mast_at}
use Rattle.runs.specs.Spots.{Spot, foot_spot, origin, foot_or, point_reading}
use Rattle.runs.specs.Order.{runs_of, run_terms, FirstWith}
use Rattle.runs.specs.Pricing.{reach_at}
use Rattle.runs.specs.Levels.{Placing, site_at, length_of, price_of, greatest, level_of, KeepsLimits, Rival, NoneKeeps, NoneLower, Found, ReadAs}
use Rattle.runs.specs.Shortness.{run_limit, reach_of, if_stands, TooShort}
use Rattle.runs.proofs.Modelled.{Models, Footed, Even}
use Rattle.runs.proofs.Reaching.{within_limit, reach_exact}
use Rattle.runs.proofs.Listed.{none_some, last_part}
use Rattle.runs.proofs.Bridging.{readings, readings_read, meets_from, meets_all, doubles_order, field_from, field_all, along}

-- A network that stands for a plan: a point for each number a mast may have.
abbrev nowhere : Point
nowhere = record { x = pos 0; y = pos 0 }

abbrev pub network_of : InForce → (Run → Steps) → Layout
network_of F of = record {
  points = length F.masts;
  pillars = F.count;
  point = λ m. point_reading (foot_or (mast_at F m) nowhere);
  feeder = λ m p. if_stands (mast_at F m) (of (Feeder m p));
  link = λ p q. of (Link p q);
}

sum_read : (x y : ℤ) → (x +ℤ y) +ℤ (x +ℤ y) ≡ (x +ℤ x) +ℤ (y +ℤ y)
sum_read x y = omega (arith, ints)

gap_read : (x y : ℤ) → (x -ℤ y) +ℤ (x -ℤ y) ≡ (x +ℤ x) -ℤ (y +ℤ y)
gap_read x y = omega (arith, ints)

pub foot_read : (o : Option Mast) (other : Point) (s : Spot) → foot_spot o ≡ Some s → IsReading s.hx s.hy (point_reading (foot_or o other))
foot_read (Some a) other s e =
    let x : a.at.x +ℤ a.at.x ≡ s.hx = cc in
    let y : a.at.y +ℤ a.at.y ≡ s.hy = cc in
    rw (← x, ← y) (sum_read a.at.x a.at.y, gap_read a.at.x a.at.y)
foot_read None other s e = absurd (none_some e)

pub standing_reach : (o : Option Mast) (s : Spot) (r : Steps) → foot_spot o ≡ Some s → if_stands o r ≡ r
standing_reach (Some a) s r e = refl
standing_reach None s r e = absurd (none_some e)

pub absent_reach : (o : Option Mast) (r : Steps) → foot_spot o ≡ None → if_stands o r ≡ None
absent_reach (Some a) r e = absurd (none_some (sym e))
absent_reach None r e = refl

pub network_models : (F : InForce) (of : Run → Steps) → Models F of (network_of F of)
network_models F of = record {
  pillars = refl;
  covers = λ m s e. ⊎_elim (λ u. u) (λ u. absurd (none_some (ap foot_spot (sym (get_or_past F.masts m None u)) ∙ e))) (cases_lt m (length F.masts));
  point = λ m s e. foot_read (mast_at F m) nowhere s e;
  feeder = λ m p s e u. standing_reach (mast_at F m) s (of (Feeder m p)) e;
  absent = λ i p u e v. absent_reach (mast_at F i) (of (Feeder i p)) e;
  link = λ p q u v. refl;
}

-- in the plan's network a chain that is too short is short
short_there : (F : InForce) (of : Run → Steps) (from to gap total : ℕ) (pillars : List ℕ) → TooShort F of from to gap total pillars →
    Short (network_of F of) from to pillars gap total
short_there F of from to gap total [] S = absurd (omega (arith, S.some_pillar))
short_there F of from to gap total (p ∷ ps) S =
    let M = network_models F of in
    record {
      chain = record {
        from = M.covers from S.here S.from_stands;
        to = M.covers to S.there S.to_stands;
        start = p;
        rest = ps;
        listed = refl;
        within = S.in_plan;
        different = S.different;
        adds = subst (λ (l : List Steps). AddTo l total) (sym (along F of (network_of F of) M from to S.here S.there S.from_stands S.to_stands p ps S.in_plan)) S.total_is;
      };
      different_points = λ e. omega (arith, S.lower_first);
      gap_is = S.gap_is ∙ sym (larger_gap S.here.hx S.here.hy S.there.hx S.there.hy ((network_of F of).point from) ((network_of F of).point to)
          (M.point from S.here S.from_stands) (M.point to S.there S.to_stands));
      short = S.short;
    }

pub never_short : (F : InForce) (of : Run → Steps) → Even of → (R : Placing) → Rival F R → AllByRecursion (λ r. Within (length_of F R r) (of r)) (runs_of F) →
    (from to gap total : ℕ) (pillars : List ℕ) → TooShort F of from to gap total pillars → ⊥
never_short F of even R sites h from to gap total pillars S =
    short_rules_out_lem (network_of F of) from to pillars gap total (short_there F of from to gap total pillars S) (readings R)
    (meets_from F of (network_of F of) (network_models F of) even R sites h)

-- a link is one run from either end
terms_even : (F : InForce) (p q : ℕ) → run_terms F (Link p q) ≡ run_terms F (Link q p)
terms_even F p q = let x : min p q ≡ min q p = omega arith in let y : max p q ≡ max q p = omega arith in cc

pub limit_even : (F : InForce) → Even (run_limit F)
limit_even F p q = ap (λ (t : Terms). t.limit) (terms_even F p q)

pub reach_even : (F : InForce) (L : ℕ) → Even (reach_of F L)
reach_even F L p q = ap (λ (t : Terms). reach_at t L) (terms_even F p q)

pub clash_none : (F : InForce) (from to gap total : ℕ) (pillars : List ℕ) → TooShort F (run_limit F) from to gap total pillars → NoneKeeps F
clash_none F from to gap total pillars S R sites keeps =
    never_short F (run_limit F) (limit_even F) R sites (All-weaker _ _ (λ r. within_limit (run_terms F r).limit (length_of F R r)) (runs_of F) keeps) from to gap total pillars S

-- the greatest of some numbers is at most L if and only if each of them is
bounded : (f : Run → ℕ) (L : ℕ) (rs : List Run) → greatest (map f rs) ≤ L → AllByRecursion (λ r. f r ≤ L) rs
bounded f L [] h = tt
bounded f L (r ∷ rs) h = (omega arith, bounded f L rs (omega arith))

bounds : (f : Run → ℕ) (L : ℕ) (rs : List Run) → AllByRecursion (λ r. f r ≤ L) rs → greatest (map f rs) ≤ L
bounds f L [] h = omega arith
bounds f L (r ∷ rs) h = omega (arith, h.0, bounds f L rs h.1)

all_both : (P Q S : Run → Type 0) → ((r : Run) → P r → Q r → S r) → (rs : List Run) → AllByRecursion P rs → AllByRecursion Q rs → AllByRecursion S rs
all_both P Q S f [] h k = tt
all_both P Q S f (r ∷ rs) h k = (f r h.0 k.0, all_both P Q S f rs h.1 k.1)

pub within_reach : (F : InForce) (R : Placing) (L : ℕ) → KeepsLimits F R → level_of F R ≤ L → AllByRecursion (λ r. Within (length_of F R r) (reach_of F L r)) (runs_of F)
within_reach F R L keeps low =
    all_both _ _ _ (λ r k c. (reach_exact (run_terms F r) L).enough (omega arith) (length_of F R r) c k) (runs_of F) keeps (bounded (price_of F R) L (runs_of F) low)

pub keeps_within : (F : InForce) (P : Placing) (L : ℕ) → AllByRecursion (λ r. (run_terms F r).fixed ≤ L) (runs_of F) →
    AllByRecursion (λ r. Within (length_of F P r) (reach_of F L r)) (runs_of F) → KeepsLimits F P × (level_of F P ≤ L)
keeps_within F P L fixed h = (
  All-weaker _ _ (λ r w. (reach_exact (run_terms F r) L).kept (length_of F P r) w) (runs_of F) h,
  bounds (price_of F P) L (runs_of F) (all_both _ _ _ (λ r f w. (reach_exact (run_terms F r) L).cheap f (length_of F P r) w) (runs_of F) fixed h),
)

pub chain_floor : (F : InForce) (L from to gap total : ℕ) (pillars : List ℕ) → 0 < L → TooShort F (reach_of F (L - 1)) from to gap total pillars → NoneLower F L
chain_floor F L from to gap total pillars some S R sites keeps =
    ⊎_elim
    (λ u. absurd (never_short F (reach_of F (L - 1)) (reach_even F (L - 1)) R sites (within_reach F R (L - 1) keeps (omega arith)) from to gap total pillars S))
    (λ u. u)
    (cases_lt (level_of F R) L)

pub fixed_floor : (F : InForce) (L : ℕ) (r : Run) → FirstWith (λ s. (run_terms F s).fixed ≡ L) (runs_of F) r → NoneLower F L
fixed_floor F L r W R sites keeps =
    let P : Run → Type 0 = λ s. price_of F R s ≤ level_of F R in
    let prices : AllByRecursion P (runs_of F) = bounded (price_of F R) (level_of F R) (runs_of F) (omega arith) in
    let price : P r = (last_part P W.before (r ∷ W.after) (subst (AllByRecursion P) W.split prices)).0 in
    omega (arith, W.holds)

-- two halves whose sum is even are of one parity
double_size : (s : ℤ) → nat_abs (s +ℤ s) ≡ nat_abs s + nat_abs s
double_size s = omega (arith, ints)

sum_parity : (a b : ℤ) → nat_abs (a +ℤ b) % 2 ≡ (nat_abs a + nat_abs b) % 2
sum_parity a b = omega (arith, ints)

one_parity : (a b s : ℤ) → s +ℤ s ≡ a +ℤ b → nat_abs a % 2 ≡ nat_abs b % 2
one_parity a b s e = parts _ _ _ _ (ap nat_abs (sym e) ∙ double_size s) (sum_parity a b)
  where
    parts : (m n k l : ℕ) → m ≡ k + k → m % 2 ≡ (n + l) % 2 → n % 2 ≡ l % 2
    parts m n k l e f = omega arith

pub found_from : (F : InForce) (L : ℕ) (N : Layout) → Models F (reach_of F L) N → Footed F N → AllByRecursion (λ r. (run_terms F r).fixed ≤ L) (runs_of F) →
    (at : ℕ → ℤ × ℤ) (P : Placing) → length P ≡ F.count → ReadAs F P at → Greatest N at → Found F L P
found_from F L N M foot fixed at P long read G =
    let kept : KeepsLimits F P × (level_of F P ≤ L) = keeps_within F P L fixed (meets_all F (reach_of F L) N M P at read G.meets) in
    record {
      sites = (long, All-from_get_or _ P origin (λ j u. one_parity (site_at P j).hx (site_at P j).hy (at j).0 (read j (omega arith)).0));
      in_field = field_all F (reach_of F L) N M foot at P long read G.field;
      keeps = kept.0;
      no_more = kept.1;
      largest = λ R sites field keeps low j u.
          let more = G.greatest (readings R) (field_from F (reach_of F L) N M R sites field)
          (meets_from F (reach_of F L) N M (reach_even F L) R sites (within_reach F R L keeps low)) j (omega (arith, M.pillars)) in
          let r = readings_read F R sites j u in
          let s = read j u in
          (doubles_order _ _ _ _ r.0 s.0 more.0, doubles_order _ _ _ _ r.1 s.1 more.1);
    }
