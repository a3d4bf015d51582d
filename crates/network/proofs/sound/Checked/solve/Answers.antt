use Rattle.network.specs.Networks.{network_layout}
use Rattle.network.proofs.BothAxes.{placed_both}
use Rattle.network.proofs.sound.Checked.solve.Goals as goal

pub returns : goal.returns
returns c = placed_both (network_layout c.args.self.now.network) c.in_ok-s.s c.in_ok-t.t _ c.in_ok-s.ensures c.in_ok-t.ensures c.paired.ensures
