use Rattle.std.specs.Option.{option_copied}
use Rattle.std.proofs.Common.{◌≡◌, ◌-◌, None}
use Rattle.runs.specs.Order.{numbers_from, all_links, runs_of}
use Rattle.runs.specs.Dearest.{price_by, dearest_from}
use Rattle.runs.proofs.dearest.dearest.Given as goal

-- the dearest so far and the links of the pillars that are left
abbrev pub invariant-loop-p : goal.invariant-loop-p
invariant-loop-p l =
    dearest_from (price_by l.plan.force (option_copied l.sites)) l.best (all_links (numbers_from l.p (l.count - l.p)))
    ≡ dearest_from (price_by l.plan.force (option_copied l.sites)) None (runs_of l.plan.force)
