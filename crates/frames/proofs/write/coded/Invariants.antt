use Rattle.std.proofs.Common.{◌≡◌, ◌∷◌, take}
use Rattle.frames.specs.Fields.{spelled}
use Rattle.frames.proofs.write.coded.Given as goal

abbrev pub invariant-loop-field : goal.invariant-loop-field
invariant-loop-field l = l.bytes.items ≡ l.code ∷ spelled (take l.field-index l.fields)
