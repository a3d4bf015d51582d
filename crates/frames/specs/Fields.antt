-- The fields of a frame: numbers big-endian, signed ones in two's complement.
use Rattle.std.specs.Prelude.{ℕ, List, [], ◌∷◌}
use Rattle.std.specs.Int.{to_be_bytes, cast_unsigned, w16, w32}
use Rattle.std.specs.List.{flat_map}
use Rattle.frames.specs.declared.field.Field.{Field}
use Rattle.frames.specs.declared.field.Field.TheVariants.{Byte, Half, Word, Signed}

abbrev pub spell_field : Field → List ℕ
spell_field (Byte n) = n ∷ []
spell_field (Half n) = to_be_bytes w16 n
spell_field (Word n) = to_be_bytes w32 n
spell_field (Signed z) = to_be_bytes w32 (cast_unsigned w32 z)

abbrev pub spelled : List Field → List ℕ
spelled fs = flat_map spell_field fs
