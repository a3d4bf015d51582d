use Rattle.std.proofs.Common.{ℕ, ◌<◌, MatchOption}
use Rattle.chains.specs.Marked.{Finished, BestUnfinished}
use Rattle.chains.specs.Chains.{value_at}
use Rattle.chains.proofs.marks.Marks.nearest.Given as goal

abbrev pub invariant-loop-p : goal.invariant-loop-p
invariant-loop-p g l = MatchOption l.nearest ((k : ℕ) → k < l.p → Finished l.self.done k) (BestUnfinished g.M.Measure.leq l.self.done l.p (value_at g.M.Measure.empty l.best))
