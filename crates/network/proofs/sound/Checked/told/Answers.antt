use Rattle.network.specs.Networks.{network_layout}
use Rattle.network.proofs.Turned.{solved_turned}
use Rattle.network.proofs.sound.Checked.told.Goals as goal
use Rattle.network.proofs.sound.Checked.told.Goals.{then-chain, else-chain}

pub returns-clause-chain : goal.returns-clause-chain
returns-clause-chain c =
    let N = c.args.self.now.network in
    rw c.length_between-gap.ensures (elim c.if-chain.branch [
      | then-chain w ↦ rw w.chain-is c.requires
      | else-chain w ↦ rw w.chain-is (solved_turned (network_layout N) c.args.self.now.sound.even c.args.chain w.turned-chain.result w.turned-chain.ensures c.requires)
    ])
