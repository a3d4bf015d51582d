use Rattle.std.proofs.Common.{rules, arith}
use Rattle.chains.specs.Measures.{no_steps}
use Rattle.network.proofs.Solving.{searched, solved}
use Rattle.network.proofs.line.Problem.highest.Goals as goal

pub holding_chain-requires : goal.holding_chain-requires
holding_chain-requires c =
    let low = c.in-Some.ensures in
    record {
      searched = searched c.args.self.now c.starts-starts.result c.in-Ok.best.values c.in-Ok.best.before c.starts-starts.ensures c.in-Ok.ensures.found.0 c.in-Ok.ensures.found.1;
      point = low.0;
      pillar = low.1;
      low = low.2;
    }

pub returns-in-None : goal.returns-in-None
returns-in-None c = solved c.args.self.now _ c.in-Ok.best.values c.in-Ok.best.before (searched c.args.self.now c.starts-starts.result c.in-Ok.best.values c.in-Ok.best.before c.starts-starts.ensures c.in-Ok.ensures.found.0 c.in-Ok.ensures.found.1) c.in-None.ensures c.map.result (λ j h. let m = c.map.ensures.items.at j no_steps 0 (omega (arith, c.args.self.now.shaped.few)) in search (rules, m))
