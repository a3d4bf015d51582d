use Rattle.std.proofs.Common.{◌≡◌, ◌+◌, ◌<◌, ◌++◌, map, length, drop}
use Rattle.runs.specs.Order.{run_terms}
use Rattle.runs.specs.Shortness.{runs_onward, chain_runs}
use Rattle.placing.proofs.chain.chain_terms.Given as goal

-- the terms so far and those of the runs that are left
abbrev pub invariant-loop-next : goal.invariant-loop-next
invariant-loop-next l = record {
  long : length l.terms.items ≡ l.next-index + 1;
  within : l.at < l.plan.force.count;
  so_far : l.terms.items ++ map (run_terms l.plan.force) (runs_onward l.at (drop (l.next-index + 1) l.pillars) l.to)
      ≡ map (run_terms l.plan.force) (chain_runs l.from l.pillars l.to);
}
