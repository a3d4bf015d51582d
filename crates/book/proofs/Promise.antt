-- Complete pages promise what they should: bookkeeping, and that a clash rules out all placings.
use Rattle.std.proofs.Common.{◌≡◌, ℕ, zero, suc, ◌*◌, ◌≤◌, List, [], ◌∷◌, ◌++◌, length, take, drop, ℤ, Ok, Err, Result, sym, refl, ap, ◌∙◌, inl, inr, arith}
use Rattle.std.proofs.lemmas.List.{take_at}
use Rattle.yard.specs.declared.force.InForce.{InForce}
use Rattle.yard.specs.declared.fault.Refusal.{Refusal}
use Rattle.yard.specs.Force.{opened_at}
use Rattle.runs.specs.Levels.{Placing, NoneKeeps, LeastLevel}
use Rattle.runs.specs.Tying.{Ready}
use Rattle.placing.specs.declared.answer.ChainTold.{ChainTold}
use Rattle.placing.specs.declared.answer.Reason.{Reason}
use Rattle.placing.specs.declared.answer.Reason.TheVariants.{Floor, Fixed, Chain, Clash}
use Rattle.placing.specs.Steps.{Bars, Placed, halves_of, PlaceStep, Reasoned, count_told, WhyStep}
use Rattle.runs.proofs.Ruling.{clash_none}
use Rattle.book.specs.Pages.{SitePage, edited_by, placed_on, asked_on, HonestPage, after_page, in_force_from, HonestFrom}
use Rattle.book.specs.Promise.{sites_in, PlaceHolds, IsClash, FartherThanLimits, WhyHolds, PageHolds, SiteBook}

-- a placing is read back from its halves
pub sites_halves : (P : Placing) (rest : List ℤ) (n : ℕ) → length P ≡ n → sites_in n (halves_of P ++ rest) ≡ P
sites_halves [] rest zero e = refl
sites_halves [] rest (suc n) e = absurd (omega arith)
sites_halves (s ∷ P) rest zero e = absurd (omega arith)
sites_halves (s ∷ P) rest (suc n) e = ap (λ Q. s ∷ Q) (sites_halves P rest n (omega arith))

err_ok : {A B : Type 0} {a : A} {b : B} → ◌≡◌ {A = Result A B} (Err b) (Ok a) → ⊥
err_ok e = cc

-- nothing bars a plan with a mast and no loose pillar, on a list that is long enough
bars_none : (F : InForce) (need room : ℕ) (r : Refusal) → Bars F need room r → Ready F → need ≤ room → ⊥
bars_none F need room r (inl h) y k = omega (arith, h.0)
bars_none F need room r (inr (inl h)) y k = h.1 y.0
bars_none F need room r (inr (inr h)) y k = h.3.1 (y.1 h.0 h.3.0)

place_holds : (F : InForce) (n : ℕ) (before : List ℤ) (a : Result ℕ Refusal) (hs : List ℤ) → length before ≡ n → PlaceStep F before a hs → PlaceHolds F n a hs
place_holds F n before (Ok M) hs e (y, k, (P, d, w)) = record {
  sites = λ L q. let x = got L q in (x.sites, x.in_field, x.keeps, x.level_is);
  rivals = λ L q. (got L q).least;
  largest = λ L q. (got L q).largest;
  refuses = λ r l. inr ((M, refl), λ none. none P d.sites d.keeps);
}
  where
    here : sites_in F.count hs ≡ P
    here = ap (sites_in F.count) w ∙ sites_halves P (drop (2 * F.count) before) F.count d.sites.0

    got : (L : ℕ) → ◌≡◌ {A = Result ℕ Refusal} (Ok M) (Ok L) → Placed F L (sites_in F.count hs)
    got L q = let m : M ≡ L = cc in rw (← m, here) d
place_holds F n before (Err r) hs e (w, h) = record {
  sites = λ L q. absurd (err_ok q);
  rivals = λ L q. absurd (err_ok q);
  largest = λ L q. absurd (err_ok q);
  refuses = λ y k. elim h [ inl b ↦ absurd (bars_none F (2 * F.count) (length before) r b y (omega arith)) | inr c ↦ inl (ap Err c.3, c.2) ];
}

-- a least level is the level of some placing
kept_by : (F : InForce) (L : ℕ) → LeastLevel F L → NoneKeeps F → ⊥
kept_by F L d none = none d.reached.0 d.reached.1 d.reached.2

clash_exact : (F : InForce) (a : Reason) (ps : List ℕ) → Reasoned F a ps → (IsClash a → NoneKeeps F) × (NoneKeeps F → IsClash a)
clash_exact F (Clash c) ps d = (λ _. clash_none F c.from c.to c.gap c.total ps d, λ _. tt)
clash_exact F Floor ps d = (λ x. absurd x, λ none. kept_by F d.0 d.1 none)
clash_exact F (Fixed r) ps d = (λ x. absurd x, λ none. kept_by F d.0 d.1 none)
clash_exact F (Chain c) ps d = (λ x. absurd x, λ none. kept_by F d.0 d.1 none)

farther : (F : InForce) (c : ChainTold) (ps : List ℕ) → Reasoned F (Clash c) ps → FartherThanLimits F c ps
farther F c ps d = record {
  lower_foot = d.here;
  higher_foot = d.there;
  lower_stands = d.from_stands;
  higher_stands = d.to_stands;
  limits_add = d.total_is;
  farther = rw (sym d.gap_is) d.short;
}

why_holds : (F : InForce) (n : ℕ) (before : List ℕ) (a : Result Reason Refusal) (bs : List ℕ) → length before ≡ n → WhyStep F before a bs → WhyHolds F n a bs
why_holds F n before (Ok a) bs e (y, k, (ps, d, l, w)) = record {
  answers = λ _ _. (a, refl, clash_exact F a ps d);
  reasoned = got;
  clashes = λ c q. farther F c (take c.count bs) (got (Clash c) q);
}
  where
    here : take (count_told a) bs ≡ ps
    here = ap (take (count_told a)) w ∙ take_at ps (drop (length ps) before) (count_told a) (sym l)

    got : (b : Reason) → ◌≡◌ {A = Result Reason Refusal} (Ok a) (Ok b) → Reasoned F b (take (count_told b) bs)
    got b q = let m : a ≡ b = cc in rw (← m, here) d
why_holds F n before (Err r) bs e (w, h) = record {
  answers = λ y k. absurd (bars_none F F.count (length before) r h y (omega arith));
  reasoned = λ b q. absurd (err_ok q);
  clashes = λ c q. absurd (err_ok q);
}

page_holds : (F : InForce) (g : SitePage) → HonestPage F g → PageHolds F g
page_holds F (edited_by e a) h = h
page_holds F (placed_on n a hs) h = place_holds F n h.0 a hs h.1 h.2
page_holds F (asked_on n a ps) h = why_holds F n h.0 a ps h.1 h.2

on_page : (F : InForce) (before rest : List SitePage) (g : SitePage) → HonestFrom F (before ++ (g ∷ rest)) → HonestPage (in_force_from F before) g
on_page F [] rest g h = h.0
on_page F (p ∷ ps) rest g h = on_page (after_page F p) ps rest g h.1

pub site_book : SiteBook
site_book written F done before rest g e =
    ∣ page_holds (in_force_from (opened_at 1) before) g (on_page (opened_at 1) before rest g (rw e at done.all_honest)) ∣₁
