use Rattle.std.proofs.Common.{◌-◌, ◌<◌, ◌≤◌}
use Rattle.placing.specs.Jumping.{ShortAt, LongAt}
use Rattle.placing.proofs.chain.paying_level.Given as goal

-- the chain is short at the one level, and not at the other
abbrev pub invariant-loop-short : goal.invariant-loop-short
invariant-loop-short l =
    (l.fn.low.cents ≤ l.short) × (l.short < l.high) × (l.high ≤ 3000000000) × ShortAt l.terms l.gap l.short l.total × LongAt l.terms l.gap l.high

abbrev pub decreases-loop-short : goal.decreases-loop-short
decreases-loop-short l = l.high - l.short
