-- A plan's masts and runs as the network of a level.
use Rattle.std.specs.Prelude.{◌≡◌, ℕ, ◌<◌, length, Ok, Err, Option, Result}
use Rattle.chains.specs.Pillars.{listed}
use Rattle.network.specs.declared.answer.Positions.{Positions}
use Rattle.network.specs.declared.answer.ShortChain.{ShortChain}
use Rattle.network.specs.Networks.{position_in}
use Rattle.network.specs.Tables.{Near}
use Rattle.yard.specs.declared.force.InForce.{InForce}
use Rattle.yard.specs.declared.force.Mast.{Mast}
use Rattle.yard.specs.Force.{mast_terms}
use Rattle.chains.specs.Measures.{Steps}
use Rattle.runs.specs.Order.{terms_or_new}
use Rattle.runs.specs.Pricing.{reach_at}
use Rattle.runs.specs.Levels.{Placing, ReadAs, Found}
use Rattle.runs.specs.Shortness.{reach_of, if_stands, TooShort}

-- how far the run from a mast of this number to a pillar can go at a level; where none stands, any distance
abbrev pub mast_reach : Option Mast → ℕ → ℕ → Steps
mast_reach o L p = if_stands o (reach_at (terms_or_new (mast_terms o p)) L)

-- What a plan's network at a level answers: the readings of the placing with the largest sums and differences that has no run above the level,
-- or a chain that is too short there.
abbrev pub FitsAt : InForce → ℕ → Result Positions ShortChain → Type 0
FitsAt F L (Ok at) =
    ((j : ℕ) → j < F.count → Near (position_in at j))
    × ((P : Placing) → length P ≡ F.count → ReadAs F P (position_in at) → Found F L P)
FitsAt F L (Err c) = TooShort F (reach_of F L) c.chain.from c.chain.to c.gap c.chain.total (listed c.chain.pillars)
