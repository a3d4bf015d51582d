use Rattle.placing.proofs.Networking.{some_mast}
use Rattle.placing.proofs.FixedPrices.{some_run, first_fixed, all_paid}
use Rattle.placing.proofs.ground.Ground.find_level.Goals as goal

pub unreachable-requires : goal.unreachable-requires
unreachable-requires c =
    let F = c.args.self.now.plan.now.force in
    some_run F (some_mast F c.args.self.now.points.items c.args.self.now.some c.args.self.now.feet) c.args.self.now.plan.now.counted.0 c.in_default.ensures

pub settle-requires : goal.settle-requires
settle-requires c = all_paid c.args.self.now.plan.now.force c.in-Some.top c.in-Some.ensures

pub returns : goal.returns
returns c =
    let F = c.args.self.now.plan.now.force in
    record {
      start = c.in-Some.top.cents;
      dearest_fixed = first_fixed F c.in-Some.top c.in-Some.ensures;
      all_paid = all_paid F c.in-Some.top c.in-Some.ensures;
      settled_from = c.in_ok-settled.ensures;
    }
