-- How the refusals of Place and Why are told.
use Rattle.std.specs.Prelude.{ℕ, Ok, Err, Result}
use Rattle.yard.specs.declared.fault.Refusal.{Refusal}
use Rattle.yard.specs.declared.fault.Rule.TheVariants as rule
use Rattle.yard.specs.Rows.{refusal_of}
use Rattle.placing.specs.declared.fault.Barred.{Barred}
use Rattle.placing.specs.declared.fault.Barred.TheVariants.{Room, NoMast, Loose}
use Rattle.placing.specs.declared.fault.PlaceFault.{PlaceFault}
use Rattle.placing.specs.declared.fault.PlaceFault.TheVariants as fault
use Rattle.placing.specs.declared.answer.Reason.{Reason}

abbrev pub barred_refusal : Barred → Refusal
barred_refusal Room = refusal_of rule.Room 0
barred_refusal NoMast = refusal_of rule.NoMast 0
barred_refusal (Loose p) = refusal_of rule.Loose p

abbrev pub place_refusal : PlaceFault → Refusal
place_refusal (fault.Barred f) = barred_refusal f
place_refusal fault.Unkept = refusal_of rule.Unkept 0

-- the answers of Place and Why with their refusals as they are told
abbrev pub place_told : Result ℕ PlaceFault → Result ℕ Refusal
place_told (Ok n) = Ok n
place_told (Err f) = Err (place_refusal f)

abbrev pub why_told : Result Reason Barred → Result Reason Refusal
why_told (Ok a) = Ok a
why_told (Err f) = Err (barred_refusal f)
