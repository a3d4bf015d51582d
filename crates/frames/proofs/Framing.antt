-- Bytes and their digits, and how long frames and their lines are.
use Rattle.std.proofs.Common.{◌≡◌, ℕ, ◌+◌, ◌*◌, ◌/◌, ◌%◌, ◌<◌, List, [], ◌∷◌, ◌++◌, length, get_or, take, None, refl, arith}
use Rattle.std.proofs.lemmas.List.{length-append, append_assoc, take_more, flat_map_more}
use Rattle.frames.specs.Digits.{digit_char, byte_digits, hex}
use Rattle.frames.specs.Frames.{check_byte, framed, line_text}
use Rattle.frames.specs.Writing.{Wrote}

pub length-hex : (bs : List ℕ) → length (hex bs) ≡ 2 * length bs
length-hex [] = refl
length-hex (b ∷ bs) = omega (arith, length-hex bs)

pub length-framed : (bs : List ℕ) → length (framed bs) ≡ length bs + 1
length-framed bs = length-append bs (check_byte bs ∷ [])

-- 32 bytes with a check byte make no line
pub too_long : (bytes was : List ℕ) → 31 < length bytes → Wrote (line_text bytes) was None was
too_long bytes was h = (omega (arith, length-append (hex (framed bytes)) (10 ∷ []), length-hex (framed bytes), length-framed bytes), refl)

-- one byte more
pub two_more : (bs : List ℕ) (i : ℕ) (was one two : List ℕ) (x y : ℕ) → i < length bs → was ≡ hex (take i bs) → one ≡ was ++ (x ∷ []) → two ≡ one ++ (y ∷ []) →
    x ≡ digit_char (get_or bs i 0 / 16) → y ≡ digit_char (get_or bs i 0 % 16) → two ≡ hex (take (i + 1) bs)
two_more bs i was one two x y h e f g ex ey =
    let first = take_more bs i 0 h in
    let added = flat_map_more byte_digits [] (take i bs) (get_or bs i 0) in
    let joined = append_assoc (hex (take i bs)) (x ∷ []) (y ∷ []) in
    cc
