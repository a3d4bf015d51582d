-- Digits: 0 to 9 and A to F, two to a byte.
use Rattle.std.specs.Prelude.{ℕ, ◌+◌, ◌-◌, ◌/◌, ◌%◌, cond, ◌&&◌, List, [], ◌∷◌, Some, None, Option, nat_le, nat_lt}
use Rattle.std.specs.List.{flat_map}

-- the value of a character, if it is a digit
abbrev pub digit_of : ℕ → Option ℕ
digit_of c = cond (nat_le 48 c && nat_le c 57) (Some (c - 48)) (cond (nat_le 65 c && nat_le c 70) (Some (c - 55)) None)

-- the digit of a value below 16
abbrev pub digit_char : ℕ → ℕ
digit_char n = cond (nat_lt n 10) (48 + n) (55 + n)

-- a byte as two digits, the higher one first, and bytes as theirs
abbrev pub byte_digits : ℕ → List ℕ
byte_digits b = digit_char (b / 16) ∷ digit_char (b % 16) ∷ []

abbrev pub hex : List ℕ → List ℕ
hex bytes = flat_map byte_digits bytes
