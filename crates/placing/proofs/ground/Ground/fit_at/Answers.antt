use Rattle.std.proofs.Common.{◌≡◌, ℕ, ◌-◌, ◌<◌, ℤ, List, length, take, ◌∙◌, arith, rules}
use Rattle.chains.specs.Measures.{Steps, no_steps}
use Rattle.network.specs.Tables.{reach_in}
use Rattle.yard.specs.Force.{mast_at}
use Rattle.yard.specs.declared.force.Run.TheVariants.{Link}
use Rattle.runs.specs.Shortness.{reach_of}
use Rattle.runs.proofs.Dearer.{front_row}
use Rattle.placing.specs.Networked.{mast_reach}
use Rattle.placing.proofs.Networking.{Pointed, sound, fits_ok, fits_short}
use Rattle.placing.proofs.ground.Ground.fit_at.Goals as goal
use Rattle.placing.proofs.ground.Ground.fit_at.Goals.{After-fit}

-- the tables as they are handed on, and what their entries are
module _ (c : After-fit) where
  points : List (ℤ × ℤ)
  points = c.as_slice-points.result.now

  feeders : List (List Steps)
  feeders = c.fill_feeders.new.rows

  links : List (List Steps)
  links = take (c.pillars.result - 0) c.link_rows-links.result

  pointed : Pointed c.args.self.now.plan.now.force points
  unfolding points
  pointed = record {
    some = rw c.as_slice-points.ensures.value c.args.self.now.some;
    most = c.as_slice-points.ensures.fits;
    masts = rw c.as_slice-points.ensures.value c.args.self.now.masts;
    feet = rw c.as_slice-points.ensures.value c.args.self.now.feet;
  }

  rows : length feeders ≡ length points
  unfolding feeders points
  rows = search rules

  row_a_pillar : length links ≡ c.args.self.now.plan.now.force.count
  unfolding links
  row_a_pillar = search rules

  feeder_is : (m p : ℕ) → m < length feeders → p < c.args.self.now.plan.now.force.count → reach_in feeders m p ≡ mast_reach (mast_at c.args.self.now.plan.now.force m) c.args.level p
  unfolding feeders points
  feeder_is m p u v = c.fill_feeders.ensures m p u v

  link_is : (p q : ℕ) → p < c.args.self.now.plan.now.force.count → q < c.args.self.now.plan.now.force.count → reach_in links p q ≡ reach_of c.args.self.now.plan.now.force c.args.level (Link p q)
  unfolding links
  link_is p q u v =
      front_row c.link_rows-links.result c.pillars.result p q no_steps (omega (arith, c.pillars.ensures)) (search rules) ∙ c.link_rows-links.ensures p q u v

pub unreachable-requires : goal.unreachable-requires
unfolding links feeders points
unreachable-requires c =
    let d = (goal.at.unreachable-requires c).After-fit in
    (rw c.in-Err-NoNetwork.field-0-is at c.in-Err-NoNetwork.ensures)
    (sound c.args.self.now.plan.now.force c.args.self.now.plan.now.near c.args.level (points d) (feeders d) (links d) (pointed d) c.args.self.now.plan.now.counted (rows d) (row_a_pillar d) (feeder_is d) (link_is d))

pub returns-in-Ok : goal.returns-in-Ok
unfolding links feeders points
returns-in-Ok c =
    let d = (goal.at.returns-in-Ok c).After-fit in
    fits_ok c.args.self.now.plan.now.force c.args.self.now.plan.now.near c.args.level (points d) (feeders d) (links d) (pointed d) c.args.self.now.plan.now.counted (rows d) (row_a_pillar d) (feeder_is d) (link_is d)
    c.requires c.in-Ok.positions c.in-Ok.ensures.1

pub returns-in-Err-TooShort : goal.returns-in-Err-TooShort
unfolding links feeders points
returns-in-Err-TooShort c =
    let d = (goal.at.returns-in-Err-TooShort c).After-fit in
    fits_short c.args.self.now.plan.now.force c.args.self.now.plan.now.near c.args.level (points d) (feeders d) (links d) (pointed d) c.args.self.now.plan.now.counted (rows d) (row_a_pillar d) (feeder_is d) (link_is d)
    c.in-Err-TooShort.chain (rw c.in-Err-TooShort.field-0-is at c.in-Err-TooShort.ensures).1
