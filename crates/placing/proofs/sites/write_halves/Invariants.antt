use Rattle.std.proofs.Common.{◌≡◌, ◌*◌, ◌++◌, take, drop}
use Rattle.runs.specs.Dearest.{spots_of}
use Rattle.placing.specs.Steps.{halves_of}
use Rattle.placing.proofs.sites.write_halves.Given as goal

abbrev pub invariant-loop-p : goal.invariant-loop-p
invariant-loop-p l = l.list ≡ halves_of (spots_of (take l.p l.sites)) ++ drop (2 * l.p) l.initial.list
