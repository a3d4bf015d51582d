-- A digit read in a column.
use Rattle.std.specs.Prelude.{◌≡◌, ℕ, Some, None, Ok, Err, Result}
use Rattle.frames.specs.declared.fault.LineFault.{LineFault}
use Rattle.frames.specs.declared.fault.LineFault.TheVariants.{Length, NoDigit}
use Rattle.frames.specs.Digits.{digit_of}

-- the value of a digit, or the column where there is none
abbrev pub DigitRead : ℕ → ℕ → Result ℕ LineFault → Type 0
DigitRead column c (Ok d) = digit_of c ≡ Some d
DigitRead column c (Err (NoDigit k)) = (k ≡ column) × (digit_of c ≡ None)
DigitRead column c (Err (Length n)) = ⊥
