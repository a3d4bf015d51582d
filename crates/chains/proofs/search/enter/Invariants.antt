use Rattle.std.proofs.Common.{◌≡◌, ℕ, ◌<◌, ◌≤◌, length, get_or}
use Rattle.chains.proofs.search.enter.Given as goal

-- the pillars below v are entered, and the others stand as they were
abbrev pub invariant-loop-v : goal.invariant-loop-v
invariant-loop-v g l =
    let m = g.M.Measure in
    let best = l.initial.best in
    let before = l.initial.before in
    record {
      best_below : (k : ℕ) → k < l.v → get_or l.best k m.empty ≡ get_or l.first k m.empty;
      before_below : (k : ℕ) → k < l.v → get_or l.before k 0 ≡ k;
      best_above : (k : ℕ) → l.v ≤ k → get_or l.best k m.empty ≡ get_or best k m.empty;
      before_above : (k : ℕ) → l.v ≤ k → get_or l.before k 0 ≡ get_or before k 0;
    }
