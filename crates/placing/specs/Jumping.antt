-- A chain by the terms of its runs: at which levels it is short of a gap.
use Rattle.std.specs.Prelude.{ℕ, ◌-◌, ◌<◌, List, map, Ok, Err, Result}
use Rattle.chains.specs.Measures.{Steps}
use Rattle.network.specs.Chain.{AddTo}
use Rattle.yard.specs.declared.force.Terms.{Terms}
use Rattle.placing.specs.declared.chain.Jump.{Jump}
use Rattle.runs.specs.Pricing.{reach_at}

-- how far each run can go at a level
abbrev pub reaches_at : List Terms → ℕ → List Steps
reaches_at ts level = map (λ t. reach_at t level) ts

-- the chain is short at a level: its runs go `total` steps altogether, which is less than the gap
abbrev pub ShortAt : List Terms → ℕ → ℕ → ℕ → Type 0
ShortAt ts gap level total = AddTo (reaches_at ts level) total × (total < gap)

-- the chain is not short at a level
abbrev pub LongAt : List Terms → ℕ → ℕ → Type 0
LongAt ts gap level = (total : ℕ) → AddTo (reaches_at ts level) total → total < gap → ⊥

-- A level above `low` at which the chain is not short, though one level below it is.
pub record JumpsTo (ts : List Terms) (gap low : ℕ) (j : Jump) : Type 0 where
  pub above : low < j.level.cents
  pub short_below : ShortAt ts gap (j.level.cents - 1) j.total
  pub long : LongAt ts gap j.level.cents

-- such a level; else the chain is short at the highest level
abbrev pub Jumped : List Terms → ℕ → ℕ → Result Jump ℕ → Type 0
Jumped ts gap low (Ok j) = JumpsTo ts gap low j
Jumped ts gap low (Err total) = ShortAt ts gap 3000000000 total
