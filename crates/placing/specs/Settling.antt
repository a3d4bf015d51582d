-- How the least level is found: by chains that are too short below it.
use Rattle.std.specs.Prelude.{◌≡◌, ℕ, ◌-◌, ◌<◌, ◌≤◌, length, Some, None, Ok, Err, Option, Result}
use Rattle.std.specs.List.{AllByRecursion}
use Rattle.chains.specs.Measures.{Steps}
use Rattle.chains.specs.Pillars.{listed}
use Rattle.network.specs.declared.answer.ShortChain.{ShortChain}
use Rattle.yard.specs.declared.force.InForce.{InForce}
use Rattle.yard.specs.declared.force.Run.{Run}
use Rattle.runs.specs.Order.{runs_of, run_terms, FirstWith}
use Rattle.runs.specs.Shortness.{run_limit, reach_of, TooShort}
use Rattle.placing.specs.declared.settle.Raised.{Raised}
use Rattle.placing.specs.declared.settle.Settled.{Settled}
use Rattle.placing.specs.declared.answer.ChainTold.{ChainTold}
use Rattle.placing.specs.declared.solve.Solved.{Solved}
use Rattle.placing.specs.Networked.{FitsAt}

-- a chain that is too short
abbrev pub ChainShort : InForce → (Run → Steps) → ShortChain → Type 0
ChainShort F of c = TooShort F of c.chain.from c.chain.to c.gap c.chain.total (listed c.chain.pillars)

-- a higher level, below which the chain is still too short; or the chain is too short by its limits
abbrev pub RaisesTo : InForce → ℕ → Result Raised ShortChain → Type 0
RaisesTo F L (Ok r) = (L < r.level.cents) × ChainShort F (reach_of F (r.level.cents - 1)) r.chain
RaisesTo F L (Err c) = ChainShort F (run_limit F) c

-- the level is the one that was begun with, or a chain is too short one cent below it
abbrev pub Forced : InForce → ℕ → ℕ → Option ShortChain → Type 0
Forced F start L None = L ≡ start
Forced F start L (Some c) = (start < L) × ChainShort F (reach_of F (L - 1)) c

-- the level that is settled, with the positions that fit at it; or a chain that is too short by its limits
abbrev pub SettledFrom : InForce → ℕ → Result Settled ShortChain → Type 0
SettledFrom F start (Ok s) = Forced F start s.level.cents s.below × FitsAt F s.level.cents (Ok s.positions)
SettledFrom F start (Err c) = ChainShort F (run_limit F) c

-- what is found of a plan: the first run with the greatest fixed price, and the level settled from that price on
pub record SolvedAt (F : InForce) (s : Solved) : Type 0 where
  pub start : ℕ
  pub dearest_fixed : FirstWith (λ r. (run_terms F r).fixed ≡ start) (runs_of F) s.fixed
  pub all_paid : AllByRecursion (λ r. (run_terms F r).fixed ≤ start) (runs_of F)
  pub settled_from : SettledFrom F start (Ok s.settled)

-- that, or a chain that is too short by its limits
abbrev pub SolvedBy : InForce → Result Solved ShortChain → Type 0
SolvedBy F (Ok s) = SolvedAt F s
SolvedBy F (Err c) = ChainShort F (run_limit F) c

-- a chain as it is told
abbrev pub told_of : ShortChain → ChainTold
told_of c = record { from = c.chain.from; to = c.chain.to; gap = c.gap; total = c.chain.total; count = length (listed c.chain.pillars) }
