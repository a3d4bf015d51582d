-- How the faults of lines and frames are told.
use Rattle.yard.specs.declared.fault.Refusal.{Refusal}
use Rattle.yard.specs.declared.fault.Rule.TheVariants as rule
use Rattle.yard.specs.Rows.{refusal_of}
use Rattle.frames.specs.declared.fault.LineFault.{LineFault}
use Rattle.frames.specs.declared.fault.LineFault.TheVariants.{Length, NoDigit}
use Rattle.frames.specs.declared.fault.FrameFault.{FrameFault}
use Rattle.frames.specs.declared.fault.FrameFault.TheVariants.{Line, Sum, Kind}

abbrev pub line_refusal : LineFault → Refusal
line_refusal (Length n) = refusal_of rule.LineLength n
line_refusal (NoDigit k) = refusal_of rule.NoDigit k

abbrev pub frame_refusal : FrameFault → Refusal
frame_refusal (Line f) = line_refusal f
frame_refusal (Sum n) = refusal_of rule.CheckSum n
frame_refusal Kind = refusal_of rule.Kind 0
