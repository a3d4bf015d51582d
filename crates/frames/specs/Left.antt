-- The lines that are left of an input.
use Rattle.std.specs.Prelude.{ℕ, List}
use Rattle.frames.specs.declared.lines.Lines.{Lines}
use Rattle.frames.specs.Lines.{lines_of}

abbrev pub lines_left : Lines → List (List ℕ)
lines_left l = lines_of l.rest.now
