-- The kinds of calls and answers, each with its code, which is the first byte of its frame.
use Rattle.std.specs.Prelude.{◌≡◌, ◌≢◌, ℕ, Result, MatchResult}
use Rattle.frames.specs.declared.kind.CallKind.{CallKind}
use Rattle.frames.specs.declared.kind.CallKind.TheVariants.{Open, Raise, Strike, Feeder, Link, Place, Why, Dearest, Nearest}
use Rattle.frames.specs.declared.kind.UnknownKind.{UnknownKind}
use Rattle.frames.specs.declared.kind.AnswerKind.{AnswerKind}
use Rattle.frames.specs.declared.kind.AnswerKind.TheVariants as answer

abbrev pub call_code : CallKind → ℕ
call_code Open = 1
call_code Raise = 2
call_code Strike = 3
call_code Feeder = 4
call_code Link = 5
call_code Place = 6
call_code Why = 7
call_code Dearest = 8
call_code Nearest = 9

-- a code read: the kind that has it, or none does
abbrev pub CodeRead : ℕ → Result CallKind UnknownKind → Type 0
CodeRead code r = MatchResult r (λ k. call_code k ≡ code) (λ _. (k : CallKind) → call_code k ≢ code)

abbrev pub answer_code : AnswerKind → ℕ
answer_code answer.Taken = 129
answer_code answer.Refused = 130
answer_code answer.Level = 131
answer_code answer.Site = 132
answer_code answer.Floor = 133
answer_code answer.Fixed = 134
answer_code answer.Chain = 135
answer_code answer.Clash = 136
answer_code answer.RunPriced = 137
answer_code answer.MastSeen = 138
