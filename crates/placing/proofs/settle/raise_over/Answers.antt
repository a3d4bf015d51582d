use Rattle.std.proofs.Common.{◌≡◌, map}
use Rattle.chains.specs.Pillars.{listed}
use Rattle.runs.specs.Order.{run_terms}
use Rattle.runs.specs.Shortness.{chain_runs, run_limit, reach_of}
use Rattle.placing.proofs.Raising.{by_other, to_runs, from_runs, by_limits}
use Rattle.placing.proofs.settle.raise_over.Goals as goal
use Rattle.placing.proofs.settle.raise_over.Goals.{After-as_slice-2}

terms_are : (c : After-as_slice-2) → c.as_slice-2.result.now
    ≡ map (run_terms c.args.plan.now.force) (chain_runs c.args.short.chain.from (listed c.args.short.chain.pillars) c.args.short.chain.to)
terms_are c = rw (c.as_slice-2.ensures.value, ← c.as_slice.ensures.value) (c.chain_terms-terms.ensures)

pub paying_level-requires : goal.paying_level-requires
paying_level-requires c =
    let F = c.args.plan.now.force in
    let T = c.requires in
    (c.args.short.chain.total, (from_runs F c.args.short (reach_of F c.args.level.cents) T _ (terms_are (goal.at.paying_level-requires c).After-as_slice-2) c.args.level.cents c.args.short.chain.total T.total_is, T.short))

pub returns-in-Ok : goal.returns-in-Ok
returns-in-Ok c =
    let F = c.args.plan.now.force in
    let J = c.in-Ok.ensures in
    let of = reach_of F c.args.level.cents in (
      J.above,
      by_other F c.args.short of c.requires (reach_of F _) c.in-Ok.jump.total
          (to_runs F c.args.short of c.requires _ (terms_are (goal.at.returns-in-Ok c).After-as_slice-2) _ c.in-Ok.jump.total J.short_below.0) J.short_below.1,
    )

pub returns-in-Err : goal.returns-in-Err
returns-in-Err c =
    let F = c.args.plan.now.force in
    let J = c.in-Err.ensures in
    let of = reach_of F c.args.level.cents in
    by_other F c.args.short of c.requires (run_limit F) c.in-Err.total
    (by_limits F c.args.short of c.requires c.args.plan.now.near c.args.plan.now.feeders c.args.plan.now.links c.in-Err.total
    (to_runs F c.args.short of c.requires _ (terms_are (goal.at.returns-in-Err c).After-as_slice-2) 3000000000 c.in-Err.total J.0) J.1) J.1
