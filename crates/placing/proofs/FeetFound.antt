-- The feet of the masts, found mast by mast.
use Rattle.std.proofs.Common.{◌≡◌, ℕ, ◌+◌, ◌<◌, ◌≤◌, true, List, length, ℤ, ◌+ℤ◌, ◌-ℤ◌, Some, None, Option, sym, refl, ap, ◌∙◌, subst, ⊎_elim, arith, MatchOption}
use Rattle.std.proofs.lemmas.List.{get_or_past}
use Rattle.std.proofs.lemmas.Bool.{cases_lt, cases_eq, and_from}
use Rattle.std.proofs.lemmas.Bool.Decides.{Decides-int_eq}
use Rattle.std.proofs.lemmas.List.Folds.{list_any_at}
use Rattle.std.specs.Ordering.{int_eq}
use Rattle.network.specs.Tables.{point_in}
use Rattle.yard.specs.declared.force.InForce.{InForce}
use Rattle.yard.specs.declared.force.Mast.{Mast}
use Rattle.yard.specs.Force.{mast_at}
use Rattle.runs.specs.Spots.{Spot, StandsAt, SomeMast, foot_spot, foot_or, point_reading}
use Rattle.runs.proofs.Listed.{none_some, mast_listed}
use Rattle.placing.specs.declared.ground.Feet.{Feet}
use Rattle.placing.specs.Feet.{FeetOf, feet_with, point_for, reads, some_reads}

-- what the masts below m tell
abbrev pub Seen : InForce → ℕ → Option Feet → Type 0
Seen F m None = (k : ℕ) (s : Spot) → k < m → StandsAt F k s → ⊥
Seen F m (Some f) = (f.span ≤ m) × ((k : ℕ) × (a : Mast) × (k < f.span) × (mast_at F k ≡ Some a) × (f.first ≡ a.at)) × ((k : ℕ) (s : Spot) → k < m → StandsAt F k s → k < f.span)

module _ (F : InForce) (m : ℕ) where
  pub seen_more : (found : Option Feet) (a : Mast) → mast_at F m ≡ Some a → Seen F m found → Seen F (m + 1) (Some (feet_with found m a.at))
  seen_more None a e seen = (omega arith, (m, a, omega arith, e, refl), λ k s h stands. h)
  seen_more (Some f) a e (l, (k, b, below, is, at), covers) = (omega arith, (k, b, omega arith, is, at), λ k s h stands. h)

  absent : (k : ℕ) (s : Spot) → mast_at F m ≡ None → k < m + 1 → StandsAt F k s → k < m
  absent k s e h stands =
      ⊎_elim (λ same. absurd (none_some (sym (ap foot_spot e) ∙ subst (λ n. StandsAt F n s) same stands))) (λ other. omega arith) (cases_eq k m)

  pub seen_past : (found : Option Feet) → mast_at F m ≡ None → Seen F m found → Seen F (m + 1) found
  seen_past None e seen = λ k s h stands. seen k s (absent k s e h stands) stands
  seen_past (Some f) e (l, foot, covers) = (omega arith, foot, λ k s h stands. covers k s (absent k s e h stands) stands)

  -- beyond the list no mast stands
  within : (k : ℕ) (s : Spot) → length F.masts ≤ m → StandsAt F k s → k < m
  within k s h stands =
      ⊎_elim (λ below. below) (λ past. absurd (none_some (sym (ap foot_spot (get_or_past F.masts k None (omega arith))) ∙ stands))) (cases_lt k m)

  pub seen_all : (found : Option Feet) → length F.masts ≤ m → m ≤ 40 → Seen F m found → MatchOption found (SomeMast F → ⊥) (FeetOf F)
  seen_all None h few seen = λ t. seen t.0 t.1 (within t.0 t.1 h t.2) t.2
  seen_all (Some f) h few (l, foot, covers) = record { few = omega arith; mast = foot; covers = λ k s stands. covers k s (within k s h stands) stands }

-- a mast of the plan has a reading
reads_from : (p : ℤ × ℤ) (a : Mast) → p ≡ point_reading a.at → reads p (Some a) ≡ true
reads_from p a e =
    and_from (int_eq (a.at.x +ℤ a.at.y) p.0) (int_eq (a.at.x -ℤ a.at.y) p.1)
    ((Decides-int_eq (a.at.x +ℤ a.at.y) p.0).1 (sym (ap (λ r. r.0) e))) ((Decides-int_eq (a.at.x -ℤ a.at.y) p.1).1 (sym (ap (λ r. r.1) e)))

some_reads_at : (F : InForce) (p : ℤ × ℤ) (m : ℕ) (a : Mast) → mast_at F m ≡ Some a → p ≡ point_reading a.at → some_reads F p ≡ true
some_reads_at F p m a e is = list_any_at (reads p) F.masts m None (mast_listed F m a e) (rw e (reads_from p a is))

-- the points that are made where the feet are found
module _ (F : InForce) (f : Feet) (of : FeetOf F f) (points : List (ℤ × ℤ)) (long : length points ≡ f.span)
    (spots : (i : ℕ) → i < length points → point_in points i ≡ point_for F f.first i) where
  pub some_point : 0 < length points
  some_point = omega (arith, of.mast.2)

  pub each_mast : (m : ℕ) (a : Mast) → mast_at F m ≡ Some a → (m < length points) × (point_in points m ≡ point_reading a.at)
  each_mast m a e =
      let h : m < length points = omega (arith, of.covers m _ (ap foot_spot e)) in
      (h, spots m h ∙ ap (λ o. point_reading (foot_or o f.first)) e)

  pub each_point : (i : ℕ) → i < length points → some_reads F (point_in points i) ≡ true
  each_point i h = go (mast_at F i) refl
    where
      go : (o : Option Mast) → mast_at F i ≡ o → some_reads F (point_in points i) ≡ true
      go (Some a) e = some_reads_at F (point_in points i) i a e (each_mast i a e).1
      go None e =
          let there = of.mast in
          some_reads_at F (point_in points i) there.0 there.1 there.3 (spots i h ∙ ap (λ o. point_reading (foot_or o f.first)) e ∙ ap point_reading there.4)

pub some_stands : (F : InForce) (f : Feet) → FeetOf F f → SomeMast F
some_stands F f h = (h.mast.0, _, ap foot_spot h.mast.3)
