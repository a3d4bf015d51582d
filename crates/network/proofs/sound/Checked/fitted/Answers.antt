use Rattle.network.specs.Networks.{network_layout}
use Rattle.network.proofs.Triangle.{short_rules_out_lem}
use Rattle.network.proofs.sound.Checked.fitted.Goals as goal

pub returns-in-Err : goal.returns-in-Err
returns-in-Err c =
    let short = c.told.ensures.chain in
    (c.args.self.now.sound, record { chain = short; order = c.told.ensures.order; none = short_rules_out_lem (network_layout c.args.self.now.network) _ _ _ _ _ short })
