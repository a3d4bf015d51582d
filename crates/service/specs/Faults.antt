-- How the faults of a served line are told.
use Rattle.yard.specs.declared.fault.Refusal.{Refusal}
use Rattle.yard.specs.declared.fault.Rule.TheVariants as rule
use Rattle.yard.specs.Rows.{refusal_of, entry_refusal}
use Rattle.frames.specs.Faults.{frame_refusal}
use Rattle.service.specs.declared.fault.ServeFault.{ServeFault}
use Rattle.service.specs.declared.fault.ServeFault.TheVariants.{Memory, Frame, Entry}

abbrev pub serve_refusal : ServeFault → Refusal
serve_refusal Memory = refusal_of rule.Room 0
serve_refusal (Frame f) = frame_refusal f
serve_refusal (Entry f) = entry_refusal f
