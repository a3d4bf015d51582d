use Rattle.std.proofs.Common.{length}
use Rattle.chains.specs.Chains.{StaysBehind}
use Rattle.chains.proofs.Open.{open_in}
use Rattle.chains.proofs.Tables.{Tables}
use Rattle.chains.proofs.search.search.Given as goal

abbrev pub invariant-loop-u : goal.invariant-loop-u
invariant-loop-u g l =
    let m = g.M.Measure in
    record {
      tables : Tables m.empty m.op m.leq l.first l.runs l.best l.before l.marks.done;
      behind : StaysBehind m.empty (length l.first) l.initial.best l.initial.before l.best l.before;
    }

abbrev pub decreases-loop-u : goal.decreases-loop-u
decreases-loop-u g l = open_in l.marks.done
