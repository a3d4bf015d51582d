-- Digits and their values.
use Rattle.std.proofs.Common.{◌≡◌, ℕ, zero, suc, ◌+◌, ◌*◌, ◌/◌, ◌%◌, ◌<◌, true, List, [], ◌∷◌, length, get_or, drop, is_some, Some, refl, ap, ◌∙◌, arith}
use Rattle.std.proofs.lemmas.Bool.Decides.{nat_tests}
use Rattle.std.specs.List.{AllByRecursion}
use Rattle.frames.specs.Digits.{digit_of, digit_char, hex}

digit_back : (c d : ℕ) → digit_of c ≡ Some d → (d < 16) × (digit_char d ≡ c)
digit_back c d e = (grind (arith, nat_tests), grind (arith, nat_tests))

char_digit : (n : ℕ) → n < 16 → digit_of (digit_char n) ≡ Some n
char_digit n h = grind (arith, nat_tests)

char_same : (m n : ℕ) → m < 16 → n < 16 → digit_char m ≡ digit_char n → m ≡ n
char_same m n h k e = grind (arith, nat_tests)

pub pair_back : (c c' a b : ℕ) → digit_of c ≡ Some a → digit_of c' ≡ Some b →
    (16 * a + b < 256) × (digit_char ((16 * a + b) / 16) ≡ c) × (digit_char ((16 * a + b) % 16) ≡ c')
pair_back c c' a b e f =
    let h = digit_back c a e in
    let k = digit_back c' b f in
    (omega (arith, h.0, k.0), ap digit_char (omega (arith, k.0)) ∙ h.1, ap digit_char (omega (arith, k.0)) ∙ k.1)

-- the digits of bytes are digits
pub hex_digits : (bs : List ℕ) → AllByRecursion (λ b. b < 256) bs → (j : ℕ) → j < length (hex bs) → is_some (digit_of (get_or (hex bs) j 0)) ≡ true
hex_digits [] h j l = absurd (omega arith)
hex_digits (b ∷ bs) h zero l = ap is_some (char_digit (b / 16) (omega (arith, h.0)))
hex_digits (b ∷ bs) h (suc zero) l = ap is_some (char_digit (b % 16) (omega arith))
hex_digits (b ∷ bs) h (suc (suc j)) l = hex_digits bs h.1 j (omega arith)

-- and of no other bytes
pub hex_same : (xs ys : List ℕ) → AllByRecursion (λ b. b < 256) xs → AllByRecursion (λ b. b < 256) ys → hex xs ≡ hex ys → xs ≡ ys
hex_same [] [] h k e = refl
hex_same [] (y ∷ ys) h k e = cc
hex_same (x ∷ xs) [] h k e = cc
hex_same (x ∷ xs) (y ∷ ys) h k e =
    let high : x / 16 ≡ y / 16 = char_same _ _ (omega (arith, h.0)) (omega (arith, k.0)) (ap (λ l. get_or l 0 0) e) in
    let low : x % 16 ≡ y % 16 = char_same _ _ (omega arith) (omega arith) (ap (λ l. get_or l 1 0) e) in
    let same : x ≡ y = omega arith in
    ap (λ z. z ∷ xs) same ∙ ap (λ l. y ∷ l) (hex_same xs ys h.1 k.1 (ap (drop 2) e))
