-- What a line is read as: a call, or the first row that refuses it.
use Rattle.std.specs.Prelude.{◌≡◌, ℕ, ◌+◌, ◌%◌, ◌^◌, ◌<◌, min, true, ◌⊎◌, List, ◌∷◌, length, sum, is_some, Some, None, Ok, Err, Option, Result, FitsSigned, ◌≢◌, slice_index}
use Rattle.std.specs.Int.{w32}
use Rattle.std.specs.List.{AllByRecursion}
use Rattle.frames.specs.declared.field.Field.{Field}
use Rattle.frames.specs.declared.field.Field.TheVariants.{Byte, Half, Word, Signed}
use Rattle.frames.specs.declared.call.Call.{Call}
use Rattle.frames.specs.declared.fault.LineFault.{LineFault}
use Rattle.frames.specs.declared.fault.LineFault.TheVariants.{Length, NoDigit}
use Rattle.frames.specs.declared.fault.FrameFault.{FrameFault}
use Rattle.frames.specs.declared.fault.FrameFault.TheVariants.{Line, Sum, Kind}
use Rattle.frames.specs.Kinds.{call_code}
use Rattle.frames.specs.Digits.{digit_of, hex}
use Rattle.frames.specs.Fields.{spelled}
use Rattle.frames.specs.Frames.{kind_of, fields_of, call_bytes, call_frame, call_line}

-- no character, an odd number of them, or over 64
abbrev pub BadLength : List ℕ → Type 0
BadLength line = (length line ≡ 0) ⊎ ((length line % 2 ≡ 1) ⊎ (64 < length line))

abbrev pub LineRefused : List ℕ → LineFault → Type 0
LineRefused line (Length n) = BadLength line × (n ≡ min 64 (length line))
LineRefused line (NoDigit k) = (BadLength line → ⊥) × (k < length line) × (digit_of (slice_index line k) ≡ None) × ((j : ℕ) → j < k → is_some (digit_of (slice_index line j)) ≡ true)

-- a line that the line's rows let pass is the digits of some bytes
pub record Spells (line bytes : List ℕ) : Type 0 where
  pub good_length : BadLength line → ⊥
  pub digits : hex bytes ≡ line
  pub small : AllByRecursion (λ b. b < 256) bytes

-- no call has the frame's kind and its length
abbrev pub Unknown : List ℕ → Type 0
Unknown bytes = (c : Call) → call_code (kind_of c) ≡ slice_index bytes 0 → length (call_frame c) ≢ length bytes

abbrev pub FrameRefused : List ℕ → FrameFault → Type 0
FrameRefused line (Line f) = LineRefused line f
FrameRefused line (Sum n) = (bytes : List ℕ) × Spells line bytes × ((sum bytes % 256 ≡ 0) → ⊥) × (n + 1 ≡ length bytes)
FrameRefused line Kind = (bytes : List ℕ) × Spells line bytes × (sum bytes % 256 ≡ 0) × Unknown bytes

-- the numbers of a call have the width of their fields
abbrev pub FieldFits : Field → Type 0
FieldFits (Byte n) = n < 256
FieldFits (Half n) = n < 2 ^ 16
FieldFits (Word n) = n < 2 ^ 32
FieldFits (Signed z) = FitsSigned w32 z

abbrev pub Fits : Call → Type 0
Fits c = AllByRecursion FieldFits (fields_of c)

-- a line is read as the call whose line it is
abbrev pub Reads : List ℕ → Result Call FrameFault → Type 0
Reads line (Ok c) = (call_line c ≡ line) × Fits c
Reads line (Err f) = FrameRefused line f

-- a call read from the code of its kind and the bytes of its fields
pub record Decoded (code : ℕ) (fields : List ℕ) (c : Call) : Type 0 where
  pub bytes : call_bytes c ≡ code ∷ fields
  pub fits : Fits c

-- or none, where no call has that kind and that many bytes of fields
abbrev pub Decodes : ℕ → List ℕ → Option Call → Type 0
Decodes code fields (Some c) = Decoded code fields c
Decodes code fields None = (c : Call) → call_code (kind_of c) ≡ code → length (spelled (fields_of c)) ≢ length fields

-- a frame's call, or the first of the frame's rows that refuses it
abbrev pub FrameReads : List ℕ → Result Call FrameFault → Type 0
FrameReads bytes (Ok c) = (call_frame c ≡ bytes) × Fits c
FrameReads bytes (Err (Line f)) = ⊥
FrameReads bytes (Err (Sum n)) = (sum bytes % 256 ≢ 0) × (n + 1 ≡ length bytes)
FrameReads bytes (Err Kind) = (sum bytes % 256 ≡ 0) × Unknown bytes

-- a line read: it has no other reading, and every call that there is comes back from its line
pub record LineRead (line : List ℕ) (r : Result Call FrameFault) : Type 0 where
  pub reads : Reads line r
  pub once : (s : Result Call FrameFault) → Reads line s → r ≡ s
  pub rereads : (c : Call) → Fits c → line ≡ call_line c → r ≡ Ok c
