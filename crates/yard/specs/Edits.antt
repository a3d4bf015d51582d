-- When an edit is refused, and what is in force after it.
use Rattle.std.specs.Prelude.{ℕ, min, max, Bool, false, cond, not, ◌||◌, List, [], ◌∷◌, ℤ, Some, None, Ok, Err, Option, Result, ◌==◌, nat_le, nat_lt, slice_index_or, slice_set, unsigned_abs}
use Rattle.yard.specs.declared.fault.EntryRow.TheVariants.{PillarCount, MastNumber, NotStanding, OffGrid, NoPillar, SelfLink, TermRange}
use Rattle.yard.specs.declared.fault.EntryFault.{EntryFault}
use Rattle.yard.specs.declared.edit.EntryTerms.{EntryTerms}
use Rattle.yard.specs.declared.edit.Edit.{Edit}
use Rattle.yard.specs.declared.edit.Edit.TheVariants.{Open, Raise, Strike, Feeder, Link}
use Rattle.yard.specs.declared.force.InForce.{InForce}
use Rattle.yard.specs.declared.force.Mast.{Mast}
use Rattle.yard.specs.declared.force.Terms.{Terms}
use Rattle.yard.specs.Force.{new_row, opened_at, mast_at, stands}
use Rattle.yard.specs.Rows.{Held, held, first_held}

-- a coordinate goes from −50,000 to 50,000
abbrev pub off_grid : ℤ → Bool
off_grid z = nat_lt 50000 (unsigned_abs z)

-- the code of a limit: 4,294,967,295 says that there is none, any other number is that many steps
abbrev pub limit_read : ℕ → Option ℕ
limit_read n = cond (n == 4294967295) None (Some n)

abbrev pub limit_over : Option ℕ → Bool
limit_over None = false
limit_over (Some n) = nat_lt 200000 n

-- the terms that an edit states
abbrev pub stated : EntryTerms → Terms
stated t = record { rate = t.rate; fixed = t.fixed; limit = limit_read t.limit }

-- a rate is at most 10,000, a fixed price at most 1,000,000,000, a limit at most 200,000
abbrev pub term_rows : EntryTerms → List Held
term_rows t =
    held (nat_lt 10000 t.rate) TermRange 3 ∷ held (nat_lt 1000000000 t.fixed) TermRange 5 ∷
    held (limit_over (limit_read t.limit)) TermRange 9 ∷ []

-- the rows of each edit: its fields in the order of its frame, at one field the lower number first
abbrev pub entry_rows : InForce → Edit → List Held
entry_rows F (Open n) = held (n == 0 || nat_lt 12 n) PillarCount 1 ∷ []
entry_rows F (Raise m x y) = held (nat_lt 39 m) MastNumber 1 ∷ held (off_grid x) OffGrid 2 ∷ held (off_grid y) OffGrid 6 ∷ []
entry_rows F (Strike m) = held (nat_lt 39 m) MastNumber 1 ∷ held (not (stands (mast_at F m))) NotStanding 1 ∷ []
entry_rows F (Feeder m p t) =
    held (nat_lt 39 m) MastNumber 1 ∷ held (not (stands (mast_at F m))) NotStanding 1 ∷
    held (nat_le F.count p) NoPillar 2 ∷ term_rows t
entry_rows F (Link p q t) =
    held (nat_le F.count p) NoPillar 1 ∷ held (nat_le F.count q) NoPillar 2 ∷ held (p == q) SelfLink 2 ∷ term_rows t

-- the fault of an edit, if it is refused
abbrev pub entry_fault : InForce → Edit → Option EntryFault
entry_fault F e = first_held (entry_rows F e)

-- a mast that is moved keeps its terms, a new one has new terms
abbrev pub kept_terms : Option Mast → List Terms
kept_terms (Some a) = a.feeders
kept_terms None = new_row

abbrev pub mast_with : List Terms → ℤ → ℤ → Mast
mast_with ts x y = record { at = record { x = x; y = y }; feeders = ts }

abbrev pub with_feeder : Option Mast → ℕ → Terms → Option Mast
with_feeder (Some a) p t = Some (record { at = a.at; feeders = slice_set a.feeders p t })
with_feeder None p t = None

abbrev pub with_link : List (List Terms) → ℕ → ℕ → Terms → List (List Terms)
with_link rows p q t = slice_set rows p (slice_set (slice_index_or rows p []) q t)

-- what an accepted edit changes; a link stands under its lower pillar
abbrev pub changed : InForce → Edit → InForce
changed F (Open n) = opened_at n
changed F (Raise m x y) = record { count = F.count; masts = slice_set F.masts m (Some (mast_with (kept_terms (mast_at F m)) x y)); links = F.links }
changed F (Strike m) = record { count = F.count; masts = slice_set F.masts m None; links = F.links }
changed F (Feeder m p t) = record { count = F.count; masts = slice_set F.masts m (with_feeder (mast_at F m) p (stated t)); links = F.links }
changed F (Link p q t) = record { count = F.count; masts = F.masts; links = with_link F.links (min p q) (max p q) (stated t) }

-- an edit's answer, and what is in force after it: a refused edit changes nothing
abbrev pub answer_of : Option EntryFault → Result (Unit {0}) EntryFault
answer_of None = Ok tt
answer_of (Some f) = Err f

abbrev pub answered : InForce → Edit → Result (Unit {0}) EntryFault
answered F e = answer_of (entry_fault F e)

abbrev pub unless_refused : Option EntryFault → InForce → InForce → InForce
unless_refused None G F = G
unless_refused (Some f) G F = F

abbrev pub after_edit : InForce → Edit → InForce
after_edit F e = unless_refused (entry_fault F e) (changed F e) F
