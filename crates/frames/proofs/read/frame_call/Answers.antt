use Rattle.std.proofs.Common.{rules}
use Rattle.frames.proofs.Spelling.{frame_read}
use Rattle.frames.proofs.read.frame_call.Goals as goal

pub returns : goal.returns
returns c =
    rw c.ok_or.ensures.value (frame_read c.args.frame.now c.decode.result (search rules) (λ i. (c.type_inv.frame i).fits) (search rules) c.decode.ensures)
