use Rattle.std.proofs.Common.{◌≡◌, ℕ, ◌<◌, length, arith, rules}
use Rattle.placing.proofs.FeetFound.{some_point, each_mast, each_point}
use Rattle.placing.proofs.ground.Ground.of.Goals as goal

pub invariant_of-result : goal.invariant_of-result
invariant_of-result c =
    let F = c.args.plan.now.force in
    let points = c.loop-mast.points.items in
    let long : length points ≡ c.args.feet.span = search rules in
    let spots = λ (i : ℕ) (h : i < length points). c.loop-mast.invariant.1 i (omega (arith, h)) in
    record {
      some = some_point F c.args.feet c.requires points long spots;
      masts = each_mast F c.args.feet c.requires points long spots;
      feet = each_point F c.args.feet c.requires points long spots;
    }
