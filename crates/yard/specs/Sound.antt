-- The ranges that the entries of a plan keep.
use Rattle.std.specs.Prelude.{ℕ, Bool, true, not, ◌&&◌, Some, None, Option, nat_le}
use Rattle.yard.specs.declared.force.InForce.{InForce}
use Rattle.yard.specs.declared.force.Mast.{Mast}
use Rattle.yard.specs.declared.force.Terms.{Terms}
use Rattle.yard.specs.Force.{mast_at, mast_terms, link_at}
use Rattle.yard.specs.Edits.{off_grid, limit_over}

abbrev pub foot_on_grid : Option Mast → Bool
foot_on_grid (Some a) = not (off_grid a.at.x) && not (off_grid a.at.y)
foot_on_grid None = true

abbrev pub on_grid : InForce → ℕ → Bool
on_grid F m = foot_on_grid (mast_at F m)

-- a rate is at most 10,000, a fixed price at most 1,000,000,000, a limit at most 200,000
abbrev pub fair : Terms → Bool
fair t = nat_le t.rate 10000 && (nat_le t.fixed 1000000000 && not (limit_over t.limit))

abbrev pub fair_if : Option Terms → Bool
fair_if (Some t) = fair t
fair_if None = true

abbrev pub feeder_fair : InForce → ℕ → ℕ → Bool
feeder_fair F m p = fair_if (mast_terms (mast_at F m) p)

abbrev pub link_fair : InForce → ℕ → ℕ → Bool
link_fair F p q = fair (link_at F p q)
