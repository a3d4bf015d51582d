use Rattle.std.proofs.Common.{arith}
use Rattle.frames.proofs.Framing.{two_more}
use Rattle.frames.proofs.write.line_of.Goals as goal

pub loop-byte-preserved : goal.loop-byte-preserved
loop-byte-preserved c = record {
  digits = two_more c.args.frame.now c.loop-byte.byte-index c.loop-byte.line.items _ _ _ _ c.loop-byte-test.true c.loop-byte.invariant.digits c.push.ensures.items c.push-in-loop-byte.ensures.items c.letter.ensures c.letter-in-loop-byte.ensures;
  long = omega (arith, c.push.ensures.len, c.push-in-loop-byte.ensures.len);
}
