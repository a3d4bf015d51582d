use Rattle.std.proofs.Common.{◌≡◌, ℕ, ◌<◌, ◌≤◌, cond, length, get_or}
use Rattle.chains.proofs.search.offer.Given as goal

-- the pillars below v have had their offer, and the others stand as they were
abbrev pub invariant-loop-v : goal.invariant-loop-v
invariant-loop-v g l =
    let m = g.M.Measure in
    let best = l.initial.best in
    let before = l.initial.before in
    record {
      long : length l.before ≡ 12;
      best_below : (k : ℕ) → k < l.v → get_or l.best k m.empty ≡ cond (m.leq (get_or best k m.empty) (m.op l.from (get_or l.row k m.empty))) (get_or best k m.empty) (m.op l.from (get_or l.row k m.empty));
      before_below : (k : ℕ) → k < l.v → get_or l.before k 0 ≡ cond (m.leq (get_or best k m.empty) (m.op l.from (get_or l.row k m.empty))) (get_or before k 0) l.u;
      best_above : (k : ℕ) → l.v ≤ k → get_or l.best k m.empty ≡ get_or best k m.empty;
      before_above : (k : ℕ) → l.v ≤ k → get_or l.before k 0 ≡ get_or before k 0;
    }
