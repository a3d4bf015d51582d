use Rattle.std.proofs.Common.{◌-◌, length, Err, rules}
use Rattle.std.proofs.lemmas.Result.{err_from_is_err_and}
use Rattle.frames.specs.declared.fault.FrameFault.TheVariants.{Line, Sum}
use Rattle.frames.proofs.Rereading.{line_reads, line_read}
use Rattle.frames.proofs.read.read_call.Goals as goal

pub returns-in_err-bytes : goal.returns-in_err-bytes
returns-in_err-bytes c =
    let p = err_from_is_err_and c.from_residual.result c.from_residual.ensures.1 in
    rw (p.1, p.2) (line_read c.args.line.now (Err (Line c.in_err-bytes.field-0.0)) c.in_err-bytes.ensures)

pub returns-then-byte_sum-ne0 : goal.returns-then-byte_sum-ne0
returns-then-byte_sum-ne0 c =
    line_read c.args.line.now (Err (Sum (length c.as_slice-frame.result.now - 1)))
    (line_reads c.args.line.now c.as_slice-frame.result.now (rw c.as_slice-frame.ensures.value c.in_ok-bytes.ensures) (Err (Sum (length c.as_slice-frame.result.now - 1))) (search rules, search rules))

pub returns : goal.returns
returns c =
    line_read c.args.line.now c.frame_call.result
    (line_reads c.args.line.now c.as_slice-frame.result.now (rw c.as_slice-frame.ensures.value c.in_ok-bytes.ensures) c.frame_call.result c.frame_call.ensures)
