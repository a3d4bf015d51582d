use Rattle.std.proofs.Common.{◌≡◌, ℕ, ◌<◌, arith, rules}
use Rattle.chains.specs.declared.measure.Tied.{Tied}
use Rattle.chains.specs.Measures.{of_yes, no_tie}
use Rattle.runs.specs.Tying.{is_fed}
use Rattle.network.proofs.FromFn.{from_fn_at}
use Rattle.runs.proofs.loose.entries.Goals as goal

pub returns : goal.returns
returns c p h =
    let F = c.args.plan.now.force in
    from_fn_at (λ (i : ℕ) (y : Tied). i < F.count → y ≡ of_yes (is_fed F i)) (λ i y q k. search rules) c.from_fn.ensures.items p no_tie (omega (arith, h, c.args.plan.now.counted.1)) h
