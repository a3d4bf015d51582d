-- Sums of bytes modulo 256.
use Rattle.std.proofs.Common.{◌≡◌, ℕ, ◌+◌, ◌%◌, ◌^◌, ◌<◌, List, [], ◌∷◌, sum, ◌∙◌, arith}
use Rattle.std.specs.List.{fold}
use Rattle.std.proofs.lemmas.List.Sums.{sum_by-cons}

-- a sum that wraps at every byte has wrapped as often as it has to
pub fold_wrap : (a : ℕ) (xs : List ℕ) → a < 256 → fold (λ s x. (s + x) % 2 ^ 8) a xs ≡ (a + sum xs) % 256
fold_wrap a [] h = omega arith
fold_wrap a (x ∷ xs) h = fold_wrap ((a + x) % 2 ^ 8) xs (omega arith) ∙ omega (arith, sum_by-cons (λ y. y) x xs)
