-- The terms of a link, read out of its table.
use Rattle.std.proofs.Common.{◌≡◌, ℕ, min, max, List, [], get_or}
use Rattle.yard.specs.Force.{new_terms}
use Rattle.yard.specs.declared.force.InForce.{InForce}
use Rattle.yard.specs.declared.force.Terms.{Terms}
use Rattle.yard.specs.declared.force.Run.TheVariants.{Link}
use Rattle.runs.specs.Order.{run_terms}

-- the terms of a link, by the row of its lower pillar
pub link_read : (F : InForce) (rows : List (List Terms)) (p q low high : ℕ) → rows ≡ F.links → low ≡ min p q → high ≡ max p q →
    get_or (get_or rows low []) high new_terms ≡ run_terms F (Link p q)
link_read F rows p q low high e f g = rw (e, f, g)
