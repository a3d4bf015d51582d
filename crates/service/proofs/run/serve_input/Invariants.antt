use Rattle.std.proofs.Common.{ℕ, List, ◌++◌, vec_items}
use Rattle.yard.specs.Force.{opened_at}
use Rattle.frames.specs.Lines.{lines_of}
use Rattle.frames.specs.Left.{lines_left}
use Rattle.service.specs.Output.{AllServed}
use Rattle.service.proofs.run.serve_input.Given as goal

-- whatever is served of the rest, the whole is what has been served and that
abbrev pub invariant-loop-line : goal.invariant-loop-line
invariant-loop-line l = (more : List ℕ) → AllServed l.plan.force (lines_left l.line-iterator) more → AllServed (opened_at 1) (lines_of l.input) (vec_items l.output ++ more)
