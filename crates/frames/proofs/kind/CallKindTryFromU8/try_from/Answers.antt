use Rattle.frames.proofs.Codes.{code_read}
use Rattle.frames.proofs.kind.CallKindTryFromU8.try_from.Goals as goal

pub returns : goal.returns
returns c = rw c.ok_or.ensures.value (code_read c.args.code c.with_code.result c.with_code.ensures)
