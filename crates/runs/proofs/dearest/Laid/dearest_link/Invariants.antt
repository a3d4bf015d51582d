use Rattle.std.specs.Option.{option_copied}
use Rattle.std.proofs.Common.{◌≡◌, ◌+◌, ◌-◌, max}
use Rattle.runs.specs.Order.{numbers_from, links_of}
use Rattle.runs.specs.Dearest.{price_by, dearest_from}
use Rattle.runs.proofs.dearest.Laid.dearest_link.Given as goal

-- the dearest so far and the links that are left
abbrev pub invariant-loop-q : goal.invariant-loop-q
invariant-loop-q l =
    dearest_from (price_by l.self.plan.now.force (option_copied l.self.sites)) l.best (links_of l.p (numbers_from (max l.q (l.p + 1)) (l.count - max l.q (l.p + 1))))
    ≡ dearest_from (price_by l.self.plan.now.force (option_copied l.self.sites)) l.initial.best (links_of l.p (numbers_from (l.p + 1) (l.self.plan.now.force.count - (l.p + 1))))
