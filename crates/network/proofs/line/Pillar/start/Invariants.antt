use Rattle.std.proofs.Common.{length}
use Rattle.network.specs.Line.{Start}
use Rattle.network.specs.Lines.{line_of}
use Rattle.network.proofs.line.Pillar.start.Given as goal

abbrev pub invariant-loop-place : goal.invariant-loop-place
invariant-loop-place l = Start (record (line_of l.self.line.now) { points = length l.yielded }) l.self.number l.best
