-- What the search keeps, said of its tables as lists. Assumes nothing.
use Rattle.std.proofs.Common.{◌≡◌, ℕ, ◌+◌, ◌-◌, ◌<◌, ◌≤◌, Bool, true, false, cond, List, [], ◌++◌, length, length-append, inl, inr, get_or, set, replicate, take, sym, ap, ◌∙◌, arith, length-set}
use lib.ListN.{length-replicate}
use Rattle.std.proofs.lemmas.List.{get_or_read, get_or-set_same, get_or-set_other, get_or-replicate, get_or_append_left, get_or-append_right, get_or-take}
use Rattle.std.proofs.lemmas.Bool.{cases_lt, both_ways}
use Rattle.chains.specs.Laws.{Laws}
use Rattle.std.proofs.ByRecursion.{All-weaker}
use Rattle.chains.specs.Chains.{BestFound, run_at, value_at, pillar_at}
use Rattle.chains.proofs.Open.{open_in, open_start, open_less, open_end}
use Rattle.chains.proofs.State.{State, at_start, at_end, turn, told_kept}

-- the marks at the start: n pillars that are not finished
abbrev pub fresh_marks : ℕ → List Bool
fresh_marks n = replicate n false ++ replicate (12 - n) true

length_fresh : (n : ℕ) → n ≤ 12 → length (fresh_marks n) ≡ 12
length_fresh n few = omega (arith, length-append (replicate n false) (replicate (12 - n) true), length-replicate n false, length-replicate (12 - n) true)

open_fresh : (n v : ℕ) → v < n → get_or (fresh_marks n) v false ≡ false
open_fresh n v h =
    get_or_append_left (replicate n false) (replicate (12 - n) true) false v (omega (arith, length-replicate n false)) ∙ get_or-replicate n v false false h

behind_fresh : (n v : ℕ) → n ≤ v → v < 12 → get_or (fresh_marks n) v false ≡ true
behind_fresh n v low high =
    get_or-append_right (replicate n false) (replicate (12 - n) true) n v false (length-replicate n false) low ∙ get_or-replicate (12 - n) (v - n) true false (omega arith)

pub record Tables {M : Type 0} (empty : M) (op : M → M → M) (leq : M → M → Bool) (first : List M) (runs : List (List M)) (best : List M) (before : List ℕ) (marks : List Bool) : Type 0 where
  pub long : length marks ≡ 12
  pub behind : (v : ℕ) → length first ≤ v → v < 12 → get_or marks v false ≡ true
  pub state : State op leq (λ v. get_or first v empty) (run_at empty runs) (length first) (λ v. get_or best v empty) (λ v. get_or before v 0) (λ v. get_or marks v false) (open_in marks)

module _ {M : Type 0} {empty : M} {op : M → M → M} {leq : M → M → Bool} (laws : Laws empty op leq) {first : List M} {runs : List (List M)} where
  pub tables_start : (best : List M) (before : List ℕ) (marks : List Bool) → length first ≤ 12 → ((v : ℕ) → v < length first → get_or best v empty ≡ get_or first v empty) → ((v : ℕ) → v < length first → get_or before v 0 ≡ v) → marks ≡ fresh_marks (length first) → Tables empty op leq first runs best before marks
  tables_start best before marks few bests befores fresh = record {
    long = ap length fresh ∙ length_fresh (length first) few;
    behind = λ v low high. ap (λ m. get_or m v false) fresh ∙ behind_fresh (length first) v low high;
    state = at_start laws (ap open_in fresh ∙ open_start (length first) (12 - length first)) bests befores (λ v h. ap (λ m. get_or m v false) fresh ∙ open_fresh (length first) v h);
  }

  module _ {best : List M} {before : List ℕ} {marks : List Bool} (T : Tables empty op leq first runs best before marks) where
    pub tables_end : ((k : ℕ) → k < length first → get_or marks k false ≡ true) → BestFound op leq (λ v. get_or first v empty) (run_at empty runs) (length first) (λ v. get_or best v empty) (λ v. get_or before v 0)
    tables_end all =
        at_end laws T.state (open_end marks (λ k h. elim (cases_lt k (length first)) [ inl lt ↦ all k lt | inr ge ↦ T.behind k ge (omega (arith, h, T.long)) ])) all

    -- the pillar u is finished: x is its value, and row its row
    module _ (few : length first ≤ 12) (u : ℕ) (in_table : u < 12) (open_u : get_or marks u false ≡ false) {marks' : List Bool} (marks_is : marks' ≡ set marks u true) where
      in_marks : u < length marks
      in_marks = omega arith

      in_u : u < length first
      in_u = elim (cases_lt u (length first)) [ inl lt ↦ lt | inr ge ↦ absurd (both_ways _ open_u (T.behind u ge in_table)) ]

      pub tables_less : open_in marks' + 1 ≡ open_in marks
      tables_less = ap (λ m. open_in m + 1) marks_is ∙ open_less marks u in_marks open_u

      pub tables_turn : (best_long : length best ≡ 12) (runs_long : length runs ≡ length first) → ((k : ℕ) → k < length first → get_or marks k false ≡ false → leq (get_or best u empty) (get_or best k empty) ≡ true) → (x : M) → x ≡ get_or best u x → (row : List M) → row ≡ get_or runs u row → (best' : List M) (before' : List ℕ) → ((v : ℕ) → v < length first → get_or best' v empty ≡ cond (leq (get_or best v empty) (op x (get_or row v empty))) (get_or best v empty) (op x (get_or row v empty))) → ((v : ℕ) → v < length first → get_or before' v 0 ≡ cond (leq (get_or best v empty) (op x (get_or row v empty))) (get_or before v 0) u) → Tables empty op leq first runs best' before' marks'
      tables_turn best_long runs_long picked x x_is row row_is best' before' best_is before_is =
          let x_at : x ≡ get_or best u empty = get_or_read best u x (omega arith) x_is empty in
          let row_at : row ≡ get_or runs u [] = get_or_read runs u row (omega (arith, in_u)) row_is [] in
          let offer : (v : ℕ) → op x (get_or row v empty) ≡ op (get_or best u empty) (run_at empty runs u v) = λ v. ap (λ y. op y (get_or row v empty)) x_at ∙ ap (λ r. op (get_or best u empty) (get_or r v empty)) row_at in
          record {
            long = ap length marks_is ∙ length-set marks u true ∙ T.long;
            behind = λ v low high. ap (λ m. get_or m v false) marks_is ∙ get_or-set_other marks u v true false (omega (arith, in_u)) ∙ T.behind v low high;
            state = turn laws T.state u _ _ _ _ in_u open_u picked (ap (λ m. get_or m u false) marks_is ∙ get_or-set_same marks u true false in_marks) (λ v ne. ap (λ m. get_or m v false) marks_is ∙ get_or-set_other marks u v true false ne) tables_less (λ v h. best_is v h ∙ ap (λ y. cond (leq (get_or best v empty) y) (get_or best v empty) y) (offer v)) (λ v h. before_is v h ∙ ap (λ y. cond (leq (get_or best v empty) y) (get_or before v 0) u) (offer v));
          }

-- what the search found stands in the fronts of the tables
pub found_in_front : {M : Type 0} (empty : M) (op : M → M → M) (leq : M → M → Bool) (first : ℕ → M) (run : ℕ → ℕ → M) (n k : ℕ) (best : List M) (before : List ℕ) → n ≤ k → BestFound op leq first run n (value_at empty best) (pillar_at before) → BestFound op leq first run n (value_at empty (take k best)) (pillar_at (take k before))
found_in_front empty op leq first run n k best before long F = record {
  some = λ v h.
      let f = F.some v h in
      let t = f.1.traced in
      let befores : (p : ℕ) → p < n → get_or (take k before) p 0 ≡ get_or before p 0 = λ p low. get_or-take k before p 0 (omega arith) in (
        f.0,
        record {
          traced = record { chain = t.chain; short = t.short; told = told_kept (pillar_at before) (pillar_at (take k before)) v f.0 (befores v h) (All-weaker (λ p. p < n) (λ p. get_or (take k before) p 0 ≡ get_or before p 0) befores f.0 t.chain.1) t.told };
          different = f.1.different;
          worth = f.1.worth ∙ sym (get_or-take k best v empty (omega arith));
        },
      );
  least = λ v c h. rw (get_or-take k best v empty (omega (arith, h.0))) (F.least v c h);
}
