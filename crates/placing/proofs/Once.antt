-- The rules of Place and Why determine the answers; only which chain Why tells is free.
use Rattle.std.proofs.Common.{◌≡◌, ℕ, ◌-◌, ◌*◌, ◌≤◌, max, ◌⊎◌, List, [], ◌∷◌, ◌++◌, length, drop, ℤ, ◌+ℤ◌, ◌-ℤ◌, ◌≤ℤ◌, Ok, Err, Result, sym, refl, ap, ◌∙◌, subst, inl, inr, ⊎_elim, arith}
use Rattle.std.specs.List.{AllByRecursion}
use Rattle.std.proofs.lemmas.List.{drop_at, drop-drop, ext_get_or}
use Rattle.std.proofs.lemmas.Int.{ints}
use Rattle.std.proofs.lemmas.Bool.{cases_order}
use Rattle.yard.specs.declared.force.InForce.{InForce}
use Rattle.yard.specs.declared.force.Run.{Run}
use Rattle.yard.specs.declared.fault.Refusal.{Refusal}
use Rattle.yard.specs.declared.fault.Rule.TheVariants as rule
use Rattle.yard.specs.Rows.{refusal_of}
use Rattle.runs.specs.Spots.{Spot, twice_sum, twice_difference, origin}
use Rattle.runs.specs.Order.{runs_of, run_terms, FirstWith}
use Rattle.runs.specs.Levels.{Placing, site_at, NoneKeeps, LeastLevel, NoLarger}
use Rattle.runs.specs.Tying.{LowestLoose, Ready}
use Rattle.runs.specs.Shortness.{run_limit}
use Rattle.runs.proofs.Listed.{last_part}
use Rattle.runs.proofs.Ruling.{clash_none}
use Rattle.placing.specs.declared.answer.ChainTold.{ChainTold}
use Rattle.placing.specs.declared.answer.Reason.{Reason}
use Rattle.placing.specs.declared.answer.Reason.TheVariants.{Floor, Fixed, Chain, Clash}
use Rattle.placing.specs.Determined.{SameReason, SameWhy}
use Rattle.placing.specs.Steps.{Bars, Placed, halves_of, PlaceStep, ToldShort, Reasoned, count_told, WhyStep}

-- two least levels are one, and a least level is reached
least_once : (F : InForce) (L M : ℕ) → LeastLevel F L → LeastLevel F M → L ≡ M
least_once F L M d e =
    let x = d.reached in
    let y = e.reached in
    omega (arith, d.none_lower y.0 y.1 y.2, e.none_lower x.0 x.1 x.2, x.3, y.3)

never_none : (F : InForce) (L : ℕ) → LeastLevel F L → NoneKeeps F → ⊥
never_none F L d n = let x = d.reached in n x.0 x.1 x.2

placed_least : (F : InForce) (L : ℕ) (P : Placing) → Placed F L P → LeastLevel F L
placed_least F L P d = record { reached = (P, d.sites, d.keeps, d.level_is); none_lower = d.least }

-- two spots with the same sum and the same difference
same_first : (a b c d : ℤ) → (a +ℤ b) ≤ℤ (c +ℤ d) → (c +ℤ d) ≤ℤ (a +ℤ b) → (a -ℤ b) ≤ℤ (c -ℤ d) → (c -ℤ d) ≤ℤ (a -ℤ b) → a ≡ c
same_first a b c d h i j k = omega (arith, ints)

same_second : (a b c d : ℤ) → (a +ℤ b) ≤ℤ (c +ℤ d) → (c +ℤ d) ≤ℤ (a +ℤ b) → (a -ℤ b) ≤ℤ (c -ℤ d) → (c -ℤ d) ≤ℤ (a -ℤ b) → b ≡ d
same_second a b c d h i j k = omega (arith, ints)

same_spot : (s t : Spot) → twice_sum s ≤ℤ twice_sum t → twice_sum t ≤ℤ twice_sum s →
    twice_difference s ≤ℤ twice_difference t → twice_difference t ≤ℤ twice_difference s → s ≡ t
same_spot s t h i j k =
    ap {B = Spot} (λ (z : ℤ). record { hx = z; hy = s.hy }) (same_first s.hx s.hy t.hx t.hy h i j k)
    ∙ ap {B = Spot} (λ (z : ℤ). record { hx = t.hx; hy = z }) (same_second s.hx s.hy t.hx t.hy h i j k)

same_placing : (F : InForce) (P Q : Placing) → length P ≡ F.count → length Q ≡ F.count → NoLarger F P Q → NoLarger F Q P → P ≡ Q
same_placing F P Q l m h k =
    ext_get_or origin P Q (l ∙ sym m) (λ i u. let x = h i (omega arith) in let y = k i (omega arith) in
    same_spot (site_at P i) (site_at Q i) x.0 y.0 x.1 y.1)

placed_once : (F : InForce) (L M : ℕ) (P Q : Placing) → Placed F L P → Placed F M Q → (L ≡ M) × (P ≡ Q)
placed_once F L M P Q d e =
    let same = least_once F L M (placed_least F L P d) (placed_least F M Q e) in (
      same,
      same_placing F P Q d.sites.0 e.sites.0
          (e.largest P d.sites d.in_field d.keeps (d.level_is ∙ same)) (d.largest Q e.sites e.in_field e.keeps (e.level_is ∙ sym same)),
    )

-- the rows that bar Place and Why exclude each other, and a plan that is ready
lowest_once : (F : InForce) (p q : ℕ) → LowestLoose F p → LowestLoose F q → p ≡ q
lowest_once F p q h k =
    ⊎_elim (λ e. e) (⊎_elim (λ l. absurd (h.1 (k.2 p l))) (λ l. absurd (k.1 (h.2 q l)))) (cases_order p q)

bars_once : (F : InForce) (need room : ℕ) (r s : Refusal) → Bars F need room r → Bars F need room s → r ≡ s
bars_once F need room r s (inl h) (inl k) = h.1 ∙ sym k.1
bars_once F need room r s (inl h) (inr (inl k)) = absurd (omega (arith, h.0, k.0))
bars_once F need room r s (inl h) (inr (inr k)) = absurd (omega (arith, h.0, k.1))
bars_once F need room r s (inr (inl h)) (inl k) = absurd (omega (arith, h.0, k.0))
bars_once F need room r s (inr (inl h)) (inr (inl k)) = h.2 ∙ sym k.2
bars_once F need room r s (inr (inl h)) (inr (inr k)) = absurd (h.1 k.2)
bars_once F need room r s (inr (inr h)) (inl k) = absurd (omega (arith, h.1, k.0))
bars_once F need room r s (inr (inr h)) (inr (inl k)) = absurd (k.1 h.2)
bars_once F need room r s (inr (inr h)) (inr (inr k)) = h.4 ∙ ap (refusal_of rule.Loose) (lowest_once F h.0 k.0 h.3 k.3) ∙ sym k.4

never_barred : (F : InForce) (need room : ℕ) (r : Refusal) → Bars F need room r → Ready F → need ≤ room → ⊥
never_barred F need room r (inl h) y l = omega (arith, h.0)
never_barred F need room r (inr (inl h)) y l = h.1 y.0
never_barred F need room r (inr (inr h)) y l = h.3.1 (y.1 h.0 h.3.0)

-- why Place is refused
abbrev Refused : InForce → List ℤ → Refusal → Type 0
Refused F before r =
    Bars F (2 * F.count) (length before) r ⊎ (Ready F × (2 * F.count ≤ length before) × NoneKeeps F × (r ≡ refusal_of rule.Unkept 0))

placed_refused : (F : InForce) (L : ℕ) (r : Refusal) (P : Placing) (before : List ℤ) → Placed F L P → Ready F → 2 * F.count ≤ length before → Refused F before r → ⊥
placed_refused F L r P before d y l (inl h) = never_barred F _ _ r h y l
placed_refused F L r P before d y l (inr h) = never_none F L (placed_least F L P d) h.2

refused_once : (F : InForce) (r s : Refusal) (before : List ℤ) → Refused F before r → Refused F before s → r ≡ s
refused_once F r s before (inl h) (inl k) = bars_once F _ _ r s h k
refused_once F r s before (inl h) (inr k) = absurd (never_barred F _ _ r h k.0 k.1)
refused_once F r s before (inr h) (inl k) = absurd (never_barred F _ _ s k h.0 h.1)
refused_once F r s before (inr h) (inr k) = h.3 ∙ sym k.3

pub place_once : (F : InForce) (before : List ℤ) (r r' : Result ℕ Refusal) (after after' : List ℤ) → PlaceStep F before r after → PlaceStep F before r' after' →
    (r ≡ r') × (after ≡ after')
place_once F before (Ok L) (Ok M) after after' (y, l, (P, d, e)) (z, m, (Q, f, g)) =
    let same = placed_once F L M P Q d f in
    (ap Ok same.0, e ∙ ap (λ (R : Placing). halves_of R ++ drop (2 * F.count) before) same.1 ∙ sym g)
place_once F before (Ok L) (Err s) after after' (y, l, (P, d, e)) (f, h) = absurd (placed_refused F L s P before d y l h)
place_once F before (Err r) (Ok M) after after' (e, h) (z, m, (Q, f, g)) = absurd (placed_refused F M r Q before f z m h)
place_once F before (Err r) (Err s) after after' (e, h) (f, k) = (ap Err (refused_once F r s before h k), e ∙ sym f)

-- the first run with a property is one
first_once : (P : Run → Type 0) (all : List Run) (r s : Run) → FirstWith P all r → FirstWith P all s → r ≡ s
first_once P all r s W V = go W.before V.before (sym W.split ∙ V.split) W.none_before V.none_before
  where
    go : (xs ys : List Run) → xs ++ (r ∷ W.after) ≡ ys ++ (s ∷ V.after) → AllByRecursion (λ x. P x → ⊥) xs → AllByRecursion (λ x. P x → ⊥) ys → r ≡ s
    go [] [] e h k = cc
    go [] (y ∷ ys) e h k = let same : r ≡ y = cc in absurd (k.0 (subst P same W.holds))
    go (x ∷ xs) [] e h k = let same : s ≡ x = cc in absurd (h.0 (subst P same V.holds))
    go (x ∷ xs) (y ∷ ys) e h k = let rest : xs ++ (r ∷ W.after) ≡ ys ++ (s ∷ V.after) = cc in go xs ys rest h.1 k.1

-- where there is a first run with a property, not every run is without it
never_first : (P : Run → Type 0) (all : List Run) (r : Run) → FirstWith P all r → AllByRecursion (λ s. P s → ⊥) all → ⊥
never_first P all r W h = (last_part (λ s. P s → ⊥) W.before (r ∷ W.after) (subst (AllByRecursion (λ s. P s → ⊥)) W.split h)).0 W.holds

-- a clash leaves no least level, and a chain excludes a fixed price at the least level
module _ (F : InForce) where
  clashing : (c : ChainTold) (ps : List ℕ) → ToldShort F (run_limit F) c ps → (L : ℕ) → LeastLevel F L → ⊥
  clashing c ps S L d = never_none F L d (clash_none F c.from c.to c.gap c.total ps S)

  first_at : (r : Run) (L M : ℕ) → LeastLevel F L → LeastLevel F M →
      FirstWith (λ s. (run_terms F s).fixed ≡ L) (runs_of F) r → FirstWith (λ s. (run_terms F s).fixed ≡ M) (runs_of F) r
  first_at r L M d e = subst (λ (n : ℕ). FirstWith (λ s. (run_terms F s).fixed ≡ n) (runs_of F) r) (least_once F L M d e)

  priced : (r : Run) (L M : ℕ) → LeastLevel F L → LeastLevel F M → FirstWith (λ s. (run_terms F s).fixed ≡ L) (runs_of F) r →
      AllByRecursion (λ s. (run_terms F s).fixed ≡ M → ⊥) (runs_of F) → ⊥
  priced r L M d e W h = never_first (λ s. (run_terms F s).fixed ≡ M) (runs_of F) r (first_at r L M d e W) h

  reason_once : (a b : Reason) (ps qs : List ℕ) → Reasoned F a ps → Reasoned F b qs → SameReason a b
  reason_once Floor Floor ps qs x y = tt
  reason_once Floor (Fixed s) ps qs (L, d, h) (M, e, k) = omega (arith, least_once F L M d e, h, k.0)
  reason_once Floor (Chain c) ps qs (L, d, h) (M, e, k) = omega (arith, least_once F L M d e, h, k.0)
  reason_once Floor (Clash c) ps qs (L, d, h) y = clashing c qs y L d
  reason_once (Fixed r) Floor ps qs (L, d, h) (M, e, k) = omega (arith, least_once F L M d e, h.0, k)
  reason_once (Fixed r) (Fixed s) ps qs (L, d, h) (M, e, k) =
      first_once (λ t. (run_terms F t).fixed ≡ M) (runs_of F) r s (first_at r L M d e h.1) k.1
  reason_once (Fixed r) (Chain c) ps qs (L, d, h) (M, e, k) = priced r L M d e h.1 k.1
  reason_once (Fixed r) (Clash c) ps qs (L, d, h) y = clashing c qs y L d
  reason_once (Chain c) Floor ps qs (L, d, h) (M, e, k) = omega (arith, least_once F L M d e, h.0, k)
  reason_once (Chain c) (Fixed s) ps qs (L, d, h) (M, e, k) = priced s M L e d k.1 h.1
  reason_once (Chain c) (Chain b) ps qs x y = tt
  reason_once (Chain c) (Clash b) ps qs (L, d, h) y = clashing b qs y L d
  reason_once (Clash c) Floor ps qs x (M, e, k) = clashing c ps x M e
  reason_once (Clash c) (Fixed s) ps qs x (M, e, k) = clashing c ps x M e
  reason_once (Clash c) (Chain b) ps qs x (M, e, k) = clashing c ps x M e
  reason_once (Clash c) (Clash b) ps qs x y = tt

-- behind the pillars told, the list is as it was
behind : (ps before : List ℕ) (n : ℕ) → length ps ≤ n → drop n (ps ++ drop (length ps) before) ≡ drop n before
behind ps before n h =
    let m = n - length ps in
    subst (λ (k : ℕ). drop k (ps ++ drop (length ps) before) ≡ drop k before) (omega arith)
    (sym (drop-drop m (length ps) (ps ++ drop (length ps) before)) ∙ ap (drop m) (drop_at ps (drop (length ps) before) (length ps) refl) ∙ drop-drop m (length ps) before)

pub why_once : (F : InForce) (before : List ℕ) (r r' : Result Reason Refusal) (after after' : List ℕ) → WhyStep F before r after → WhyStep F before r' after' →
    SameWhy r r' after after'
why_once F before (Ok a) (Ok b) after after' (y, l, (ps, d, c, e)) (z, m, (qs, f, k, g)) =
    let n = max (count_told a) (count_told b) in
    (reason_once F a b ps qs d f, ap (drop n) e ∙ behind ps before n (omega arith) ∙ sym (behind qs before n (omega arith)) ∙ sym (ap (drop n) g))
why_once F before (Ok a) (Err s) after after' (y, l, x) (e, h) = never_barred F _ _ s h y l
why_once F before (Err r) (Ok b) after after' (e, h) (z, m, x) = never_barred F _ _ r h z m
why_once F before (Err r) (Err s) after after' (e, h) (f, k) = (bars_once F _ _ r s h k, e ∙ sym f)
