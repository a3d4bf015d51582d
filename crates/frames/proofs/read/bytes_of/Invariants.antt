use Rattle.frames.proofs.Spelling.{SoFar}
use Rattle.frames.proofs.read.bytes_of.Given as goal

abbrev pub invariant-loop-i : goal.invariant-loop-i
invariant-loop-i l = SoFar l.line l.i l.bytes.items
