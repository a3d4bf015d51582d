-- There are no more different pillars on a chain than the plan has.
use Rattle.std.proofs.Common.{◌≡◌, ℕ, zero, suc, ◌<◌, ◌≤◌, ◌≢◌, List, [], ◌∷◌, length, ⊎_elim, arith}
use Rattle.std.specs.List.{AllByRecursion}
use Rattle.std.proofs.lemmas.Bool.{cases_eq}
use Rattle.chains.specs.Chains.{Different}

-- the list without the number n
record Without (n : ℕ) (xs : List ℕ) : Type 0 where
  left : List ℕ
  different : Different left
  below : AllByRecursion (λ p. p < n) left
  long : length xs ≤ suc (length left)
  apart : (q : ℕ) → AllByRecursion (λ p. p ≢ q) xs → AllByRecursion (λ p. p ≢ q) left

lower : (n x : ℕ) (xs : List ℕ) → x ≡ n → AllByRecursion (λ p. p < suc n) xs → AllByRecursion (λ p. p ≢ x) xs → AllByRecursion (λ p. p < n) xs
lower n x [] e h k = tt
lower n x (y ∷ ys) e h k = (other y h.0 k.0, lower n x ys e h.1 k.1)
  where
    other : (z : ℕ) → z < suc n → (z ≡ x → ⊥) → z < n
    other z l ne = ⊎_elim (λ f. absurd (ne (omega arith))) (λ f. omega arith) (cases_eq z n)

without_more : (n x : ℕ) (xs : List ℕ) → AllByRecursion (λ p. p ≢ x) xs → Different xs → x < suc n → AllByRecursion (λ p. p < suc n) xs → Without n xs → Without n (x ∷ xs)
without_more n x xs ne d h hs rest = ⊎_elim here other (cases_eq x n)
  where
    here : x ≡ n → Without n (x ∷ xs)
    here e = record { left = xs; different = d; below = lower n x xs e hs ne; long = omega arith; apart = λ q all. all.1 }

    other : (x ≡ n → ⊥) → Without n (x ∷ xs)
    other nn = record {
      left = x ∷ rest.left;
      different = (rest.apart x ne, rest.different);
      below = (omega (arith, h, nn), rest.below);
      long = omega (arith, rest.long);
      apart = λ q all. (all.0, rest.apart q all.1);
    }

without : (n : ℕ) (xs : List ℕ) → Different xs → AllByRecursion (λ p. p < suc n) xs → Without n xs
without n [] d h = record { left = []; different = tt; below = tt; long = omega arith; apart = λ q all. all }
without n (x ∷ xs) d h = without_more n x xs d.0 d.1 h.0 h.1 (without n xs d.1 h.1)

pub few_different : (n : ℕ) (xs : List ℕ) → Different xs → AllByRecursion (λ p. p < n) xs → length xs ≤ n
few_different zero [] d h = omega arith
few_different zero (x ∷ xs) d h = absurd (omega (arith, h.0))
few_different (suc n) xs d h =
    let w = without n xs d h in
    omega (arith, w.long, few_different n w.left w.different w.below)
