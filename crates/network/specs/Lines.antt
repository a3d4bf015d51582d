-- A line as the code holds it, and what is asked and answered about it. Assumes nothing.
use Rattle.std.specs.Prelude.{◌≡◌, ℕ, ◌<◌, List, length, Ok, Err, Result, slice_index, slice_index_or}
use Rattle.chains.specs.Measures.{no_steps, add_steps, fewer, Steps}
use Rattle.chains.specs.Chains.{BestFound}
use Rattle.chains.specs.Pillars.{listed}
use Rattle.network.specs.declared.answer.Chain.{Chain}
use Rattle.network.specs.declared.line.Problem.{Problem}
use Rattle.network.specs.Line.{Line, Highest, Tight, Start, TooLow, steps_of}
use Rattle.network.specs.Tables.{reach_in}

abbrev pub line_of : Problem → Line
line_of P = record {
  points = length P.places.now;
  pillars = length P.links.now;
  width = P.width;
  at = λ i. slice_index P.places.now i;
  feeder = reach_in P.feeders.now;
  link = reach_in P.links.now;
}

-- `first` has what each pillar gets by one feeder, and `best` and `before` what the search for the best chains found
pub record Searched (l : Line) (first best : List Steps) (before : List ℕ) : Type 0 where
  pub first_long : length first ≡ l.pillars
  pub starts : (j : ℕ) → j < l.pillars → Start l j (slice_index_or first j no_steps)
  pub found : BestFound add_steps fewer (λ v. slice_index_or first v no_steps) l.link l.pillars (λ v. slice_index_or best v no_steps) (λ v. slice_index before v)

-- the search is done, and the best chain to the pillar j ends too low for the point i
pub record HeldDown (P : Problem) (first best : List Steps) (before : List ℕ) (i j : ℕ) : Type 0 where
  pub searched : Searched (line_of P) first best before
  pub point : i < length P.places.now
  pub pillar : j < length P.links.now
  pub low : TooLow (reach_in P.feeders.now i j) (slice_index P.places.now i) (steps_of (slice_index_or best j no_steps))

-- what the problem on a line answers
abbrev pub Solved : Line → Result (List ℕ) Chain → Type 0
Solved l (Ok xs) = Highest l (λ j. slice_index xs j)
Solved l (Err e) = Tight l e.from e.to (listed e.pillars) e.total
