-- What the search on a line leaves in its tables. Assumes nothing.
use Rattle.std.proofs.Common.{◌≡◌, ℕ, ◌<◌, List, length, get_or, take, sym, arith}
use Rattle.std.proofs.lemmas.List.{get_or-take}
use Rattle.chains.specs.Measures.{no_steps, add_steps, fewer, Steps}
use Rattle.chains.specs.Chains.{PlanFits, BestFound}
use Rattle.network.specs.declared.line.Problem.{Problem}
use Rattle.network.specs.Line.{Highest, Start, Upto, steps_of}
use Rattle.network.specs.Lines.{line_of, Searched}
use Rattle.network.specs.Tables.{reach_in}
use Rattle.network.proofs.Best.{highest}

-- the search over the starts of the pillars
pub searched : (P : Problem) (starts best : List Steps) (before : List ℕ) → ((j : ℕ) → j < length P.links.now → Start (line_of P) j (get_or starts j no_steps)) → PlanFits (take (length P.links.now) starts) P.links.now → BestFound add_steps fewer (λ v. get_or (take (length P.links.now) starts) v no_steps) (reach_in P.links.now) (length (take (length P.links.now) starts)) (λ v. get_or best v no_steps) (λ v. get_or before v 0) → Searched (line_of P) (take (length P.links.now) starts) best before
searched P starts best before S plan found = record {
  first_long = sym plan.rows;
  starts = λ j h. rw (get_or-take (length P.links.now) starts j no_steps h) (S j h);
  found = rw (sym plan.rows) at found;
}

module _ (P : Problem) (first best : List Steps) (before : List ℕ) (S : Searched (line_of P) first best before) where
  pub solved : ((i j : ℕ) → i < length P.places.now → j < length P.links.now → Upto ((line_of P).feeder i j) ((line_of P).at i) (steps_of (get_or best j no_steps))) → (all : List ℕ) → ((j : ℕ) → j < length P.links.now → get_or all j 0 ≡ steps_of (get_or best j no_steps)) → Highest (line_of P) (λ j. get_or all j 0)
  solved above all is =
      let H = highest (line_of P) (λ v. get_or first v no_steps) (λ v. get_or best v no_steps) (λ v. get_or before v 0) (omega (arith, P.shaped.narrow)) S.starts S.found above in
      record {
        sits = record {
          inside = λ j h. rw (is j h) (H.sits.inside j h);
          under = λ i j hi hj. rw (is j hj) (H.sits.under i j hi hj);
          over = λ i j hi hj. rw (is j hj) (H.sits.over i j hi hj);
          linked = λ j k hj hk. rw (is j hj, is k hk) (H.sits.linked j k hj hk);
        };
        highest = λ y s j h. rw (is j h) (H.highest y s j h);
      }
