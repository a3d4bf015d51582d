use Rattle.std.specs.Option.{option_copied}
use Rattle.std.proofs.Common.{◌≡◌, ◌-◌}
use Rattle.runs.specs.Order.{numbers_from, feeders_of}
use Rattle.runs.specs.Dearest.{price_by, dearest_from}
use Rattle.runs.proofs.dearest.Laid.dearest_feeder.Given as goal

-- the dearest so far and the feeders that are left
abbrev pub invariant-loop-p : goal.invariant-loop-p
invariant-loop-p l =
    dearest_from (price_by l.self.plan.now.force (option_copied l.self.sites)) l.best (feeders_of l.m (numbers_from l.p (l.count - l.p)))
    ≡ dearest_from (price_by l.self.plan.now.force (option_copied l.self.sites)) l.initial.best (feeders_of l.m (numbers_from 0 l.self.plan.now.force.count))
