use Rattle.std.proofs.Common.{◌<◌, length, ap, arith}
use Rattle.frames.specs.Frames.{answer_bytes}
use Rattle.frames.proofs.Framing.{too_long}
use Rattle.frames.proofs.write.write_answer.Goals as goal

pub returns-in_err-told_bytes-in-Chain : goal.returns-in_err-told_bytes-in-Chain
returns-in_err-told_bytes-in-Chain c =
    let over : 31 < length (answer_bytes c.args.answer) = omega (arith, ap (λ a. length (answer_bytes a)) c.in-Chain.is, c.in_err-told_bytes-in-Chain.ensures) in
    rw c.from_residual.ensures (too_long (answer_bytes c.args.answer) c.args.out.now over)

pub returns-in_err-told_bytes-in-Clash : goal.returns-in_err-told_bytes-in-Clash
returns-in_err-told_bytes-in-Clash c =
    let over : 31 < length (answer_bytes c.args.answer) = omega (arith, ap (λ a. length (answer_bytes a)) c.in-Clash.is, c.in_err-told_bytes-in-Clash.ensures) in
    rw c.from_residual-in_err-told_bytes-in-Clash.ensures (too_long (answer_bytes c.args.answer) c.args.out.now over)
