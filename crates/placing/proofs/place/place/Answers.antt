use Rattle.std.proofs.Common.{◌≡◌, ℕ, ◌-◌, ◌*◌, ◌<◌, ◌≤◌, ◌++◌, length, take, drop, Ok, Err, refl, ap, ◌∙◌, subst, inr, arith, rules}
use Rattle.yard.specs.declared.plan.Plan.{Plan}
use Rattle.runs.specs.Shortness.{run_limit}
use Rattle.runs.specs.Dearest.{spots_of}
use Rattle.placing.specs.Settling.{ChainShort, SolvedAt}
use Rattle.placing.specs.Steps.{PlaceStep, Placed, halves_of}
use Rattle.placing.proofs.FixedPrices.{some_run}
use Rattle.placing.proofs.Leveled.{clash_refuses, placed_at}
use Rattle.placing.proofs.Once.{place_once}
use Rattle.placing.proofs.place.place.Goals as goal
use Rattle.placing.proofs.place.place.Goals.{After-write_halves}

pub returns-in_default : goal.returns-in_default
returns-in_default c =
    let F = c.args.plan.now.force in
    let before = c.args.list.now in
    let ready = c.in_ok-ground.ensures in
    let room : 2 * F.count ≤ length before = omega (arith, ready.2, c.pillars-count.ensures) in
    let clash = subst (λ (P : Plan). ChainShort P.force (run_limit P.force) c.in_default.field-0) ready.0 c.in_default.ensures in
    let step : PlaceStep F before (Err _) before = (refl, inr (ready.1, room, clash_refuses F c.in_default.field-0 clash, refl)) in
    record { step = step; once = λ other after s. place_once F before (Err _) other before after step s }

pub unreachable-requires : goal.unreachable-requires
unreachable-requires c =
    let F = c.args.plan.now.force in
    some_run F c.in_ok-ground.ensures.1.0 c.args.plan.now.counted.0 c.in_default-dearest.ensures

-- the sites found, placed at the level that their dearest run has
placed : (c : After-write_halves) → (c.in-Some.top.cents ≤ 3000000000) × Placed c.args.plan.now.force c.in-Some.top.cents (spots_of (take (c.pillars-count.result - 0) c.sites_of-sites.result))
placed c =
    let F = c.args.plan.now.force in
    let S = subst (λ (P : Plan). SolvedAt P.force c.in-Ok.solved) c.in_ok-ground.ensures.0 c.in-Ok.ensures in
    let s = c.in-Ok.solved in
    let many : c.pillars-count.result ≤ length c.sites_of-sites.result = search rules in
    let read = λ (j : ℕ) (h : j < c.pillars-count.result). c.sites_of-sites.ensures j h (omega (arith, h, c.pillars-count.ensures, c.args.plan.now.counted.1)) (S.settled_from.1.0 j (omega (arith, h, c.pillars-count.ensures))) in
    let is = placed_at F S.start s.settled.level.cents s.fixed s.settled.below s.settled.positions c.sites_of-sites.result c.pillars-count.result c.in-Some.top.cents
    S.dearest_fixed S.settled_from.0 S.settled_from.1 c.pillars-count.ensures many read c.in-Some.ensures.0 in
    (omega (arith, is.0, s.settled.level.bounded), is.1)

pub overflow_cast-result : goal.overflow_cast-result
overflow_cast-result c =
    let h = (placed (goal.at.overflow_cast-result c).After-write_halves).0 in
    search rules

pub returns : goal.returns
returns c =
    let F = c.args.plan.now.force in
    let before = c.args.list.now in
    let n = c.pillars-count.result in
    let P = spots_of (take (n - 0) c.sites_of-sites.result) in
    let ready = c.in_ok-ground.ensures in
    let room : 2 * F.count ≤ length before = omega (arith, ready.2, c.pillars-count.ensures) in
    let all : length (take (n - 0) c.sites_of-sites.result) ≡ F.count = search rules in
    let step : PlaceStep F before (Ok c.in-Some.top.cents) c.write_halves.new.list = (
      ready.1,
      room,
      (P, (placed (goal.at.returns c).After-write_halves).1, c.write_halves.ensures ∙ ap (λ k. halves_of P ++ drop (2 * k) before) all),
    ) in
    record { step = step; once = λ other after s. place_once F before (Ok c.in-Some.top.cents) other c.write_halves.new.list after step s }
