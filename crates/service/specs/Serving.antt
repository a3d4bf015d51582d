-- What a line gets on what is in force, and what is in force after it.
use Rattle.std.specs.Prelude.{◌≡◌, ℕ, ◌<◌, ◌≤◌, List, length, Ok, Err, Result}
use Rattle.yard.specs.declared.fault.Refusal.{Refusal}
use Rattle.yard.specs.declared.fault.EntryFault.{EntryFault}
use Rattle.yard.specs.declared.force.InForce.{InForce}
use Rattle.yard.specs.Rows.{rule_number}
use Rattle.yard.specs.Edits.{answered, after_edit}
use Rattle.frames.specs.declared.call.Call.{Call}
use Rattle.frames.specs.declared.call.Call.TheVariants.{Edit, Place, Why, Dearest, Nearest}
use Rattle.frames.specs.declared.fault.FrameFault.{FrameFault}
use Rattle.frames.specs.declared.fault.FrameFault.TheVariants.{Kind}
use Rattle.frames.specs.declared.answer.Answer.{Answer}
use Rattle.frames.specs.declared.answer.Answer.TheVariants.{Taken, Refused}
use Rattle.frames.specs.Frames.{answer_bytes, line_text}
use Rattle.frames.specs.Reading.{Reads}
use Rattle.frames.specs.Writing.{over_head}
use Rattle.service.specs.declared.fault.ServeFault.{ServeFault}
use Rattle.service.specs.declared.fault.ServeFault.TheVariants.{Memory, Frame, Entry}
use Rattle.service.specs.Faults.{serve_refusal}

abbrev pub edit_outcome : Result (Unit {0}) EntryFault → Result (Unit {0}) ServeFault
edit_outcome (Ok u) = Ok u
edit_outcome (Err f) = Err (Entry f)

-- a call's outcome: an edit's is the plan's; the other calls are not served yet, and are told like an unknown kind
abbrev pub outcome : InForce → Result Call FrameFault → Result (Unit {0}) ServeFault
outcome F (Ok (Edit e)) = edit_outcome (answered F e)
outcome F (Ok Place) = Err (Frame Kind)
outcome F (Ok Why) = Err (Frame Kind)
outcome F (Ok (Dearest k)) = Err (Frame Kind)
outcome F (Ok (Nearest p k)) = Err (Frame Kind)
outcome F (Err f) = Err (Frame f)

-- only an edit changes what is in force
abbrev pub force_after : InForce → Result Call FrameFault → InForce
force_after F (Ok (Edit e)) = after_edit F e
force_after F (Ok Place) = F
force_after F (Ok Why) = F
force_after F (Ok (Dearest k)) = F
force_after F (Ok (Nearest p k)) = F
force_after F (Err f) = F

-- the answer: Taken, or Refused with the refusal's number and place
abbrev pub refused : Refusal → Answer
refused r = Refused (rule_number r.rule) r.place

abbrev pub reply : Result (Unit {0}) ServeFault → Answer
reply (Ok u) = Taken
reply (Err f) = refused (serve_refusal f)

abbrev pub reply_text : Result (Unit {0}) ServeFault → List ℕ
reply_text r = line_text (answer_bytes (reply r))

-- a line served: its reading, its outcome, and what is in force after it
pub record LineServed (F : InForce) (line : List ℕ) (r : Result (Unit {0}) ServeFault) (G : InForce) : Type 0 where
  pub reading : Result Call FrameFault
  pub reads : Reads line reading
  pub outcome_is : r ≡ outcome F reading
  pub after_is : G ≡ force_after F reading

-- serving a line into a buffer: under 512 bytes nothing is done, else the answer's line stands at its head
abbrev pub Served : InForce → List ℕ → List ℕ → Result ℕ ServeFault → List ℕ → InForce → Type 0
Served F line was (Ok n) now G =
    (512 ≤ length was) × (r : Result (Unit {0}) ServeFault) × LineServed F line r G × (n ≡ length (reply_text r)) × (now ≡ over_head (reply_text r) was)
Served F line was (Err Memory) now G = (length was < 512) × (now ≡ was) × (G ≡ F)
Served F line was (Err (Frame f)) now G = ⊥
Served F line was (Err (Entry f)) now G = ⊥
