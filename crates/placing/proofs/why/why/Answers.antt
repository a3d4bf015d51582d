use Rattle.std.proofs.Common.{◌-◌, ◌<◌, Ok, sym, subst, arith, rules}
use Rattle.yard.specs.declared.plan.Plan.{Plan}
use Rattle.runs.specs.Levels.{LeastLevel}
use Rattle.runs.specs.Shortness.{run_limit, reach_of}
use Rattle.placing.specs.declared.answer.Reason.TheVariants.{Floor, Fixed, Chain, Clash}
use Rattle.placing.specs.Settling.{ChainShort, Forced, SolvedAt}
use Rattle.placing.specs.Steps.{WhyStep}
use Rattle.placing.proofs.Leveled.{least_settled}
use Rattle.placing.proofs.Once.{why_once}
use Rattle.placing.proofs.Raising.{gap_far}
use Rattle.placing.proofs.ReasonedOut.{few_pillars, clash_told, floor_told, fixed_told, chain_told}
use Rattle.placing.proofs.why.why.Goals as goal
use Rattle.placing.proofs.why.why.Goals.{In-Err, In-Ok, In-Some}

-- what is found, of the plan itself
clash : (c : In-Err) → ChainShort c.args.plan.now.force (run_limit c.args.plan.now.force) c.in-Err.clash
clash c = subst (λ (P : Plan). ChainShort P.force (run_limit P.force) c.in-Err.clash) c.in_ok-ground.ensures.0 c.in-Err.ensures

solved : (c : In-Ok) → SolvedAt c.args.plan.now.force c.in-Ok.solved
solved c = subst (λ (P : Plan). SolvedAt P.force c.in-Ok.solved) c.in_ok-ground.ensures.0 c.in-Ok.ensures

pub tell-requires : goal.tell-requires
tell-requires c =
    let F = c.args.plan.now.force in
    let W = clash (goal.at.tell-requires c).In-Err in
    let few = few_pillars F (run_limit F) c.in-Err.clash W in
    let room = c.in_ok-ground.ensures.2 in
    record {
      few = omega (arith, few, room, c.pillars.ensures);
      near = (gap_far F c.in-Err.clash (run_limit F) W c.args.plan.now.near c.args.plan.now.feeders c.args.plan.now.links, W.short);
    }

pub returns-in-Err : goal.returns-in-Err
returns-in-Err c =
    let F = c.args.plan.now.force in
    let before = c.args.list.now in
    let ready = c.in_ok-ground.ensures in
    let told = c.tell.result in
    let list = c.tell.new.list in
    let step : WhyStep F before (Ok (Clash told)) list =
    subst (λ t. WhyStep F before (Ok (Clash t)) list) (sym c.tell.ensures.chain)
    (clash_told F before ready.1 (omega (arith, ready.2, c.pillars.ensures)) c.in-Err.clash list (clash (goal.at.returns-in-Err c).In-Err) c.tell.ensures.list) in
    record { step = step; once = λ other after s. why_once F before (Ok (Clash told)) other list after step s }

least : (c : In-Ok) → LeastLevel c.args.plan.now.force c.in-Ok.solved.settled.level.cents
least c =
    let S = solved c in
    least_settled c.args.plan.now.force S.start c.in-Ok.solved.settled.level.cents c.in-Ok.solved.fixed c.in-Ok.solved.settled.below c.in-Ok.solved.settled.positions S.dearest_fixed S.settled_from.0 S.settled_from.1

pub returns-in-Ok : goal.returns-in-Ok
returns-in-Ok c =
    let F = c.args.plan.now.force in
    let before = c.args.list.now in
    let ready = c.in_ok-ground.ensures in
    let d = (goal.at.returns-in-Ok c).In-Ok in
    let S = solved d in
    let step : WhyStep F before (Ok Floor) before =
    floor_told F before ready.1 (omega (arith, ready.2, c.pillars.ensures)) S.start c.in-Ok.solved.settled.level.cents c.in-Ok.solved.fixed (least d) S.dearest_fixed S.all_paid c.if-this-eq0.true in
    record { step = step; once = λ other after s. why_once F before (Ok Floor) other before after step s }

pub returns-in-None : goal.returns-in-None
returns-in-None c =
    let F = c.args.plan.now.force in
    let before = c.args.list.now in
    let ready = c.in_ok-ground.ensures in
    let d = (goal.at.returns-in-None c).In-Ok in
    let S = solved d in
    let forced = subst (Forced F S.start c.in-Ok.solved.settled.level.cents) c.in-None.is S.settled_from.0 in
    let some : 0 < c.in-Ok.solved.settled.level.cents = search rules in
    let step : WhyStep F before (Ok (Fixed c.in-Ok.solved.fixed)) before =
    fixed_told F before ready.1 (omega (arith, ready.2, c.pillars.ensures)) S.start c.in-Ok.solved.settled.level.cents c.in-Ok.solved.fixed (least d) S.dearest_fixed S.all_paid some forced in
    record { step = step; once = λ other after s. why_once F before (Ok (Fixed c.in-Ok.solved.fixed)) other before after step s }

-- the chain that forced the last jump
forcing : (c : In-Some) → ((solved (goal.at.In-Some c).In-Ok).start < c.in-Ok.solved.settled.level.cents)
    × ChainShort c.args.plan.now.force (reach_of c.args.plan.now.force (c.in-Ok.solved.settled.level.cents - 1)) c.in-Some.chain
forcing c = let S = solved (goal.at.In-Some c).In-Ok in subst (Forced c.args.plan.now.force S.start c.in-Ok.solved.settled.level.cents) c.in-Some.is S.settled_from.0

pub tell-requires-in-Some : goal.tell-requires-in-Some
tell-requires-in-Some c =
    let F = c.args.plan.now.force in
    let of = reach_of F (c.in-Ok.solved.settled.level.cents - 1) in
    let W = (forcing (goal.at.tell-requires-in-Some c).In-Some).1 in
    let few = few_pillars F of c.in-Some.chain W in
    let room = c.in_ok-ground.ensures.2 in
    record {
      few = omega (arith, few, room, c.pillars.ensures);
      near = (gap_far F c.in-Some.chain of W c.args.plan.now.near c.args.plan.now.feeders c.args.plan.now.links, W.short);
    }

pub returns-in-Some : goal.returns-in-Some
returns-in-Some c =
    let F = c.args.plan.now.force in
    let before = c.args.list.now in
    let ready = c.in_ok-ground.ensures in
    let d = (goal.at.returns-in-Some c).In-Ok in
    let S = solved d in
    let forced = forcing (goal.at.returns-in-Some c).In-Some in
    let list = c.tell-in-Some.new.list in
    let told = c.tell-in-Some.result in
    let step : WhyStep F before (Ok (Chain told)) list =
    subst (λ t. WhyStep F before (Ok (Chain t)) list) (sym c.tell-in-Some.ensures.chain)
    (chain_told F before ready.1 (omega (arith, ready.2, c.pillars.ensures)) S.start c.in-Ok.solved.settled.level.cents c.in-Ok.solved.fixed (least d) S.dearest_fixed S.all_paid c.in-Some.chain list forced.0 forced.1 c.tell-in-Some.ensures.list) in
    record { step = step; once = λ other after s. why_once F before (Ok (Chain told)) other list after step s }
