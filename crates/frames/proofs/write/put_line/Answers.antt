use Rattle.std.proofs.Common.{◌<◌, length, arith}
use Rattle.std.proofs.lemmas.Grind.{common_steps}
use Rattle.frames.proofs.Framing.{too_long}
use Rattle.frames.proofs.write.put_line.Goals as goal

pub returns-in_err-ok : goal.returns-in_err-ok
returns-in_err-ok c =
    let full : 31 < length c.args.bytes.items = grind (arith, common_steps) in
    rw c.from_residual.ensures (too_long c.args.bytes.items c.args.out.now full)
