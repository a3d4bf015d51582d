-- What calls and answers are as frames, and frames as lines.
use Rattle.std.specs.Prelude.{ℕ, ◌-◌, ◌%◌, List, [], ◌∷◌, ◌++◌, length, sum}
use Rattle.yard.specs.declared.edit.EntryTerms.{EntryTerms}
use Rattle.yard.specs.declared.edit.Edit.{Edit}
use Rattle.yard.specs.declared.edit.Edit.TheVariants.{Open, Raise, Strike, Feeder, Link}
use Rattle.yard.specs.declared.force.Run.{Run}
use Rattle.yard.specs.declared.force.Run.TheVariants as run
use Rattle.frames.specs.declared.kind.CallKind.{CallKind}
use Rattle.frames.specs.declared.kind.CallKind.TheVariants as kind
use Rattle.frames.specs.declared.kind.AnswerKind.TheVariants as answer
use Rattle.frames.specs.declared.field.Field.{Field}
use Rattle.frames.specs.declared.field.Field.TheVariants.{Byte, Half, Word, Signed}
use Rattle.frames.specs.declared.call.Call.{Call}
use Rattle.frames.specs.declared.call.Call.TheVariants as call
use Rattle.frames.specs.declared.answer.Told.{Told}
use Rattle.frames.specs.declared.answer.Answer.{Answer}
use Rattle.frames.specs.declared.answer.Answer.TheVariants.{Taken, Refused, Level, Site, Floor, Fixed, Chain, Clash, RunPriced, MastSeen}
use Rattle.frames.specs.Kinds.{call_code, answer_code}
use Rattle.frames.specs.Digits.{hex}
use Rattle.frames.specs.Fields.{spelled}

-- the byte that makes all bytes of a frame add to 0 modulo 256
abbrev pub check_byte : List ℕ → ℕ
check_byte bytes = (256 - sum bytes % 256) % 256

-- a frame: a kind byte, its fields, and the check byte
abbrev pub framed : List ℕ → List ℕ
framed bytes = bytes ++ (check_byte bytes ∷ [])

-- the kind of each call
abbrev pub edit_kind : Edit → CallKind
edit_kind (Open n) = kind.Open
edit_kind (Raise m x y) = kind.Raise
edit_kind (Strike m) = kind.Strike
edit_kind (Feeder m p t) = kind.Feeder
edit_kind (Link p q t) = kind.Link

abbrev pub kind_of : Call → CallKind
kind_of (call.Edit e) = edit_kind e
kind_of call.Place = kind.Place
kind_of call.Why = kind.Why
kind_of (call.Dearest k) = kind.Dearest
kind_of (call.Nearest p k) = kind.Nearest

-- the fields of each call
abbrev pub term_fields : EntryTerms → List Field
term_fields t = Half t.rate ∷ Word t.fixed ∷ Word t.limit ∷ []

abbrev pub edit_fields : Edit → List Field
edit_fields (Open n) = Byte n ∷ []
edit_fields (Raise m x y) = Byte m ∷ Signed x ∷ Signed y ∷ []
edit_fields (Strike m) = Byte m ∷ []
edit_fields (Feeder m p t) = Byte m ∷ Byte p ∷ term_fields t
edit_fields (Link p q t) = Byte p ∷ Byte q ∷ term_fields t

abbrev pub fields_of : Call → List Field
fields_of (call.Edit e) = edit_fields e
fields_of call.Place = []
fields_of call.Why = []
fields_of (call.Dearest k) = Byte k ∷ []
fields_of (call.Nearest p k) = Byte p ∷ Byte k ∷ []

-- a call's bytes before the check byte, its frame, and its line
abbrev pub edit_bytes : Edit → List ℕ
edit_bytes e = call_code (edit_kind e) ∷ spelled (edit_fields e)

abbrev pub call_bytes : Call → List ℕ
call_bytes c = call_code (kind_of c) ∷ spelled (fields_of c)

abbrev pub call_frame : Call → List ℕ
call_frame c = framed (call_bytes c)

abbrev pub call_line : Call → List ℕ
call_line c = hex (call_frame c)

-- a run in an answer: its class, 0 for a feeder and 1 for a link, and its ends
abbrev pub run_fields : Run → List Field
run_fields (run.Feeder m p) = Byte 0 ∷ Byte m ∷ Byte p ∷ []
run_fields (run.Link p q) = Byte 1 ∷ Byte p ∷ Byte q ∷ []

-- a chain in an answer: its masts, gap and total, and how many pillars follow
abbrev pub told_fields : Told → List Field
told_fields t = Byte t.from ∷ Byte t.to ∷ Word t.gap ∷ Word t.total ∷ Byte (length t.pillars.now) ∷ []

-- an answer's bytes before the check byte
abbrev pub answer_bytes : Answer → List ℕ
answer_bytes Taken = answer_code answer.Taken ∷ []
answer_bytes (Refused n p) = answer_code answer.Refused ∷ spelled (Byte n ∷ Byte p ∷ [])
answer_bytes (Level n) = answer_code answer.Level ∷ spelled (Word n ∷ [])
answer_bytes (Site p x y) = answer_code answer.Site ∷ spelled (Byte p ∷ Signed x ∷ Signed y ∷ [])
answer_bytes Floor = answer_code answer.Floor ∷ []
answer_bytes (Fixed r) = answer_code answer.Fixed ∷ spelled (run_fields r)
answer_bytes (Chain t) = answer_code answer.Chain ∷ (spelled (told_fields t) ++ t.pillars.now)
answer_bytes (Clash t) = answer_code answer.Clash ∷ (spelled (told_fields t) ++ t.pillars.now)
answer_bytes (RunPriced r l n) = answer_code answer.RunPriced ∷ spelled (run_fields r ++ (Word l ∷ Word n ∷ []))
answer_bytes (MastSeen m l) = answer_code answer.MastSeen ∷ spelled (Byte m ∷ Word l ∷ [])

-- a line with its line feed
abbrev pub line_text : List ℕ → List ℕ
line_text bytes = hex (framed bytes) ++ (10 ∷ [])
