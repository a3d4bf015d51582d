-- What the code's networks and answers stand for. Assumes nothing.
use Rattle.std.specs.Prelude.{◌≡◌, ℕ, ◌<◌, ◌≤◌, reverse, ℤ, pos, Ok, Err, Result, slice_index_or}
use Rattle.chains.specs.Pillars.{listed}
use Rattle.network.specs.declared.shape.Network.{Network}
use Rattle.network.specs.declared.answer.Positions.{Positions}
use Rattle.network.specs.declared.answer.ShortChain.{ShortChain}
use Rattle.network.specs.declared.answer.Unfit.{Unfit}
use Rattle.network.specs.declared.answer.Unfit.TheVariants.{NoNetwork, TooShort}
use Rattle.network.specs.declared.answer.Chain.{Chain}
use Rattle.network.specs.Layout.{Layout, apart, Meets, Greatest}
use Rattle.network.specs.Chain.{Short}
use Rattle.network.specs.Tables.{layout_of, Sound}

abbrev pub network_layout : Network → Layout
network_layout N = layout_of N.points.now N.feeders.now N.links.now

-- the tables make a network
abbrev pub SoundNetwork : Network → Type 0
SoundNetwork N = Sound N.points.now N.feeders.now N.links.now

abbrev pub position_in : Positions → ℕ → ℤ × ℤ
position_in P j = slice_index_or P.readings j (pos 0, pos 0)

-- the greatest positions, and (0, 0) behind the last pillar
pub record Placed (L : Layout) (P : Positions) : Type 0 where
  pub greatest : Greatest L (position_in P)
  pub behind : (j : ℕ) → L.pillars ≤ j → position_in P j ≡ (pos 0, pos 0)

-- A chain that is too short, from the lower point to the higher by number; and no positions whatsoever meet the network.
pub record ShortTold (L : Layout) (e : ShortChain) : Type 0 where
  pub chain : Short L e.chain.from e.chain.to (listed e.chain.pillars) e.gap e.chain.total
  pub order : e.chain.from < e.chain.to
  pub none : (position : ℕ → ℤ × ℤ) → Meets L position → ⊥

-- what both axes answer: the greatest positions, or a chain that is too short
abbrev pub SolvedBoth : Layout → Result Positions Chain → Type 0
SolvedBoth L (Ok P) = Placed L P
SolvedBoth L (Err e) = Short L e.from e.to (listed e.pillars) (apart (L.point e.from) (L.point e.to)) e.total

-- d is the chain e from its other end
pub record Turned (e d : Chain) : Type 0 where
  pub from : d.from ≡ e.to
  pub to : d.to ≡ e.from
  pub total : d.total ≡ e.total
  pub pillars : listed d.pillars ≡ reverse (listed e.pillars)

-- what a fit answers
abbrev pub Fitted : Network → Result Positions Unfit → Type 0
Fitted N (Ok P) = SoundNetwork N × Placed (network_layout N) P
Fitted N (Err NoNetwork) = SoundNetwork N → ⊥
Fitted N (Err (TooShort e)) = SoundNetwork N × ShortTold (network_layout N) e
