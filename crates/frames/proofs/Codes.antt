-- Codes and the kinds that have them.
use Rattle.std.proofs.Common.{◌≡◌, ℕ, ◌<◌, lit<, Bool, true, ◌==◌, List, [], ◌∷◌, Some, None, Option, cond, sym, refl, ap, ◌∙◌, ⊎_elim}
use Rattle.std.specs.List.{find}
use Rattle.std.specs.Option.{ok_or}
use Rattle.std.proofs.lemmas.Bool.{eqb-true, cases_Bool}
use Rattle.frames.specs.declared.kind.CallKind.{CallKind}
use Rattle.frames.specs.declared.kind.CallKind.TheVariants.{Open, Raise, Strike, Feeder, Link, Place, Why, Dearest, Nearest}
use Rattle.frames.specs.declared.kind.TheConstants.CallKind.{ALL}
use Rattle.frames.specs.Kinds.{call_code, CodeRead}

abbrev pub kind_with : ℕ → Option CallKind
kind_with n = find (λ k. call_code k == n) ALL

-- a kind is found by its code, which is a byte
pub kind_back : (k : CallKind) → (kind_with (call_code k) ≡ Some k) × (call_code k < 256)
kind_back Open = (refl, lit< tt)
kind_back Raise = (refl, lit< tt)
kind_back Strike = (refl, lit< tt)
kind_back Feeder = (refl, lit< tt)
kind_back Link = (refl, lit< tt)
kind_back Place = (refl, lit< tt)
kind_back Why = (refl, lit< tt)
kind_back Dearest = (refl, lit< tt)
kind_back Nearest = (refl, lit< tt)

passes : {X : Type 0} (p : X → Bool) (xs : List X) (x : X) → find p xs ≡ Some x → p x ≡ true
passes p [] x e = cc
passes p (y ∷ ys) x e = ⊎_elim first (λ f. passes p ys x (sym (ap (λ b. cond b (Some y) (find p ys)) f) ∙ e)) (cases_Bool (p y))
  where
    first : p y ≡ true → p x ≡ true
    first t = let same : Some y ≡ Some x = sym (ap (λ b. cond b (Some y) (find p ys)) t) ∙ e in cc

pub code_read : (code : ℕ) (o : Option CallKind) → o ≡ kind_with code → CodeRead code (ok_or o (record {}))
code_read code (Some k) e = eqb-true (call_code k) code (passes (λ j. call_code j == code) ALL k (sym e))
code_read code None e = λ k h. let found = (kind_back k).0 in cc
