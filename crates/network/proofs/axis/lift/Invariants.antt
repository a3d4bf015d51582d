use Rattle.std.proofs.Common.{◌≡◌, ℕ, ◌<◌, get_or, pos, ◌+ℤ◌}
use Rattle.network.specs.Tables.{point_in}
use Rattle.network.specs.Axes.{number_on}
use Rattle.network.proofs.axis.lift.Given as goal

abbrev pub invariant-loop-i : goal.invariant-loop-i
invariant-loop-i l = (i : ℕ) → i < l.i → number_on l.axis (point_in l.points i) ≡ l.low +ℤ pos (get_or l.places i 0)
