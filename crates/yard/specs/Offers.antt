-- What an edit's fields give where they are taken: its terms, its mast, its pillars.
use Rattle.std.specs.Prelude.{◌≡◌, ℕ, ◌<◌, ◌≤◌, true, not, ◌∷◌, [], Some, None, Ok, Err, Option, Result, nat_le, nat_lt}
use Rattle.yard.specs.declared.fault.EntryRow.TheVariants.{MastNumber, NotStanding, NoPillar}
use Rattle.yard.specs.declared.fault.EntryFault.{EntryFault}
use Rattle.yard.specs.declared.edit.EntryTerms.{EntryTerms}
use Rattle.yard.specs.declared.force.InForce.{InForce}
use Rattle.yard.specs.declared.force.Mast.{Mast}
use Rattle.yard.specs.declared.force.Terms.{Terms}
use Rattle.yard.specs.Force.{mast_at, stands}
use Rattle.yard.specs.Rows.{held, first_held}
use Rattle.yard.specs.Edits.{term_rows, stated}
use Rattle.yard.specs.Sound.{fair}

-- the terms that an edit states, taken if they are in range
abbrev pub Offered : EntryTerms → Result Terms EntryFault → Type 0
Offered t (Ok taken) = (first_held (term_rows t) ≡ None) × (taken ≡ stated t) × (fair taken ≡ true)
Offered t (Err f) = first_held (term_rows t) ≡ Some f

-- what stands under a mast's number, which is one of 0 to 39
abbrev pub Slot : InForce → ℕ → Result (Option Mast) EntryFault → Type 0
Slot F m (Ok o) = (m ≤ 39) × (mast_at F m ≡ o)
Slot F m (Err f) = first_held (held (nat_lt 39 m) MastNumber 1 ∷ []) ≡ Some f

-- the mast of a number, if it stands
abbrev pub Standing : InForce → ℕ → Result Mast EntryFault → Type 0
Standing F m (Ok a) = (m ≤ 39) × (mast_at F m ≡ Some a)
Standing F m (Err f) = first_held (held (nat_lt 39 m) MastNumber 1 ∷ held (not (stands (mast_at F m))) NotStanding 1 ∷ []) ≡ Some f

-- a pillar that a field names, if the plan has it
abbrev pub Listed : InForce → ℕ → ℕ → Result (Unit {0}) EntryFault → Type 0
Listed F p field (Ok u) = p < F.count
Listed F p field (Err f) = first_held (held (nat_le F.count p) NoPillar field ∷ []) ≡ Some f
