use Rattle.std.specs.Option.{option_copied}
use Rattle.std.proofs.Common.{◌≡◌, drop, None}
use Rattle.runs.specs.Order.{numbers_from, standing_from, all_feeders}
use Rattle.runs.specs.Dearest.{price_by, dearest_from}
use Rattle.runs.proofs.dearest.Laid.dearest_of_feeders.Given as goal

-- the dearest so far and the feeders of the masts that are left
abbrev pub invariant-loop-m : goal.invariant-loop-m
invariant-loop-m l =
    dearest_from (price_by l.self.plan.now.force (option_copied l.self.sites)) l.best (all_feeders (standing_from l.m (drop l.m l.mast-items)) (numbers_from 0 l.self.plan.now.force.count))
    ≡ dearest_from (price_by l.self.plan.now.force (option_copied l.self.sites)) None (all_feeders (standing_from 0 l.self.plan.now.force.masts) (numbers_from 0 l.self.plan.now.force.count))
