use Rattle.std.proofs.Common.{◌≡◌, ◌*◌, length, take}
use Rattle.frames.specs.Digits.{hex}
use Rattle.frames.proofs.write.line_of.Given as goal

abbrev pub invariant-loop-byte : goal.invariant-loop-byte
invariant-loop-byte l = record { digits : l.line.items ≡ hex (take l.byte-index l.frame); long : length l.line.items ≡ 2 * l.byte-index }
