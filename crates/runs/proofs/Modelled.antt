-- When a network stands for a plan's masts and runs.
use Rattle.std.specs.Prelude.{None}
use Rattle.std.proofs.Common.{◌≡◌, ℕ, ◌<◌, None}
use Rattle.chains.specs.Measures.{Steps}
use Rattle.network.specs.Layout.{Layout}
use Rattle.yard.specs.Grid.{IsReading}
use Rattle.yard.specs.declared.force.InForce.{InForce}
use Rattle.yard.specs.declared.force.Run.{Run}
use Rattle.yard.specs.declared.force.Run.TheVariants.{Feeder, Link}
use Rattle.runs.specs.Spots.{Spot, StandsAt, mast_spot}

-- A fixed point for each mast that stands, by its number, with its reading and the reaches of its feeders. A number whose mast does not stand may have a
-- point too, from which every reach is unlimited.
pub record Models (F : InForce) (of : Run → Steps) (N : Layout) : Type 0 where
  pub pillars : N.pillars ≡ F.count
  pub covers : (m : ℕ) (s : Spot) → StandsAt F m s → m < N.points
  pub point : (m : ℕ) (s : Spot) → StandsAt F m s → IsReading s.hx s.hy (N.point m)
  pub feeder : (m p : ℕ) (s : Spot) → StandsAt F m s → p < F.count → N.feeder m p ≡ of (Feeder m p)
  pub absent : (i p : ℕ) → i < N.points → mast_spot F i ≡ None → p < F.count → N.feeder i p ≡ None
  pub link : (p q : ℕ) → p < F.count → q < F.count → N.link p q ≡ of (Link p q)

-- every fixed point lies where a mast stands, so that the network has the plan's field
abbrev pub Footed : InForce → Layout → Type 0
Footed F N = (i : ℕ) → i < N.points → (m : ℕ) × (s : Spot) × StandsAt F m s × (N.point i ≡ N.point m)

-- a link goes as far from either end
abbrev pub Even : (Run → Steps) → Type 0
Even of = (p q : ℕ) → of (Link p q) ≡ of (Link q p)
