-- Tests that give a proof of what they test, or nothing.
use Rattle.std.specs.Prelude.{Some, None}
use Rattle.std.proofs.Common.{◌≡◌, ℕ, zero, suc, ◌<◌, ◌≤◌, Bool, true, false, not, eqb, ltb, leb, List, [], ◌∷◌, ℤ, ◌≤ℤ◌, is_some, Some, None, Option, sym, refl, ⊎_elim, arith}
use lib.Signed.{le_z, le_z_yes}
use Rattle.std.specs.List.{AllByRecursion}
use Rattle.std.specs.Option.{option_and_then, option_or}
use Rattle.chains.specs.Measures.{Steps}
use Rattle.yard.specs.declared.force.InForce.{InForce}
use Rattle.runs.specs.Spots.{Spot, StandsAt, mast_spot}
use Rattle.std.proofs.lemmas.Bool.{true≢false, not-true, ltb-true, leb-true, eqb-true, eqb-false, cases_eq}

pub found : {P : Type 0} (o : Option P) → is_some o ≡ true → P
found (Some p) e = p
found None e = absurd (true≢false (sym e))

-- one test after another
infixr 20 ◌then◌
abbrev pub ◌then◌ : {P Q : Type 0} → Option P → (P → Option Q) → Option Q
o then more = option_and_then more o

abbrev pub when : {P : Type 0} (b : Bool) → (b ≡ true → P) → Option P
when true p = Some (p refl)
when false p = None

abbrev pub same : (m n : ℕ) → Option (m ≡ n)
same m n = when (eqb m n) (eqb-true m n)

abbrev pub other : (m n : ℕ) → Option (m ≡ n → ⊥)
other m n = when (not (eqb m n)) (λ e. eqb-false m n (not-true (eqb m n) e))

abbrev pub less : (m n : ℕ) → Option (m < n)
less m n = when (ltb m n) (ltb-true m n)

abbrev pub no_more : (m n : ℕ) → Option (m ≤ n)
no_more m n = when (leb m n) (leb-true m n)

abbrev pub no_higher : (a b : ℤ) → Option (a ≤ℤ b)
no_higher a b = when (le_z a b) (λ e. le_z_yes (rw e tt))

-- a test of each entry of a list, of each number below n, and of the entries until one passes
abbrev pub each : {X : Type 0} (P : X → Type 0) → ((x : X) → Option (P x)) → (xs : List X) → Option (AllByRecursion P xs)
each P test [] = Some tt
each P test (x ∷ xs) = test x then λ p. each P test xs then λ ps. Some (p, ps)

pub one_more : (P : ℕ → Type 0) (n : ℕ) → ((k : ℕ) → k < n → P k) → P n → (k : ℕ) → k < suc n → P k
one_more P n before here k h = ⊎_elim (λ e. rw e here) (λ d. before k (omega arith)) (cases_eq k n)

pub none_below : (P : ℕ → Type 0) (k : ℕ) → k < 0 → P k
none_below P k h = absurd (omega arith)

abbrev pub each_below : (P : ℕ → Type 0) → ((k : ℕ) → Option (P k)) → (n : ℕ) → Option ((k : ℕ) → k < n → P k)
each_below P test zero = Some (none_below P)
each_below P test (suc n) = each_below P test n then λ before. test n then λ here. Some (one_more P n before here)

abbrev pub first_found : {X P : Type 0} → (X → Option P) → List X → Option P
first_found test [] = None
first_found test (x ∷ xs) = option_or (test x) (first_found test xs)

-- where a mast stands, and how far a run goes
abbrev spot_found : (o : Option Spot) → Option ((s : Spot) × (o ≡ Some s))
spot_found (Some s) = Some (s, refl)
spot_found None = None

abbrev pub standing : (F : InForce) (m : ℕ) → Option ((s : Spot) × StandsAt F m s)
standing F m = spot_found (mast_spot F m)

abbrev pub limited_to : (s : Steps) → Option ((r : ℕ) × (s ≡ Some r))
limited_to (Some r) = Some (r, refl)
limited_to None = None
