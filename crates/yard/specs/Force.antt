-- What is in force on a plan, and the terms of its runs.
use Rattle.std.specs.Prelude.{ℕ, min, max, Bool, true, false, cond, List, [], replicate, Some, None, Option, nat_le, nat_lt, slice_index_or}
use Rattle.yard.specs.declared.force.InForce.{InForce}
use Rattle.yard.specs.declared.force.Mast.{Mast}
use Rattle.yard.specs.declared.force.Point.{Point}
use Rattle.yard.specs.declared.force.Terms.{Terms}
use Rattle.yard.specs.declared.force.Run.{Run}
use Rattle.yard.specs.declared.force.Run.TheVariants.{Feeder, Link}

-- the terms of a run that nobody has set: nothing a step, nothing at once, no limit
abbrev pub new_terms : Terms
new_terms = record { rate = 0; fixed = 0; limit = None }

abbrev pub new_row : List Terms
new_row = replicate 12 new_terms

-- so many pillars, no mast, new terms everywhere
abbrev pub opened_at : ℕ → InForce
opened_at n = record { count = n; masts = replicate 40 None; links = replicate 12 new_row }

-- the mast of a number, if it stands
abbrev pub mast_at : InForce → ℕ → Option Mast
mast_at F m = slice_index_or F.masts m None

abbrev pub stands : Option Mast → Bool
stands (Some a) = true
stands None = false

-- where a mast stands, if its number is one of 0 to 39 and it stands
abbrev pub foot_of : Option Mast → Option Point
foot_of (Some a) = Some a.at
foot_of None = None

abbrev pub point_of : InForce → ℕ → Option Point
point_of F m = cond (nat_le m 39) (foot_of (mast_at F m)) None

-- the terms from a standing mast to a pillar
abbrev pub mast_terms : Option Mast → ℕ → Option Terms
mast_terms (Some a) p = Some (slice_index_or a.feeders p new_terms)
mast_terms None p = None

-- the terms between two pillars, the lower one first
abbrev pub link_at : InForce → ℕ → ℕ → Terms
link_at F p q = slice_index_or (slice_index_or F.links p []) q new_terms

-- the terms of a run, if the plan has it: its mast is one of 0 to 39 and stands, its pillars are among the plan's, and a link joins two; a link is one run from either end
abbrev pub terms_of : InForce → Run → Option Terms
terms_of F (Feeder m p) = cond (nat_le m 39) (cond (nat_lt p F.count) (mast_terms (mast_at F m) p) None) None
terms_of F (Link p q) = cond (nat_lt (max p q) F.count) (cond (nat_lt (min p q) (max p q)) (Some (link_at F (min p q) (max p q))) None) None
