use Rattle.std.proofs.Common.{ℕ, ◌<◌, get_or}
use Rattle.chains.specs.Measures.{no_steps}
use Rattle.network.specs.Line.{Upto, steps_of}
use Rattle.network.specs.Lines.{line_of}
use Rattle.network.proofs.line.Problem.too_low.Given as goal

abbrev pub invariant-loop-j : goal.invariant-loop-j
invariant-loop-j l = (i j : ℕ) → i < (line_of l.self).points → j < l.j → Upto ((line_of l.self).feeder i j) ((line_of l.self).at i) (steps_of (get_or l.best j no_steps))
