use Rattle.std.proofs.Common.{arith, rules}
use Rattle.std.proofs.lemmas.Result.{err_from_is_err_and}
use Rattle.frames.proofs.Spelling.{well_long, high_refused, low_refused, spelled_on, all_spelled}
use Rattle.frames.proofs.read.bytes_of.Goals as goal

pub returns-in_err-high : goal.returns-in_err-high
returns-in_err-high c =
    let p = err_from_is_err_and c.from_residual.result c.from_residual.ensures.1 in
    let good = well_long c.args.line.now (search rules) (search rules) (search rules) in
    rw (p.1, p.2) (high_refused c.args.line.now c.as_chunks.result.0.now c.as_chunks.ensures.front c.as_chunks.ensures.front_len c.loop-i.bytes.items c.loop-i.i c.loop-i.invariant (search rules) good c.in_err-high.field-0.0 c.in_err-high.ensures)

pub returns-in_err-low : goal.returns-in_err-low
returns-in_err-low c =
    let p = err_from_is_err_and c.from_residual-in_err-low.result c.from_residual-in_err-low.ensures.1 in
    let good = well_long c.args.line.now (search rules) (search rules) (search rules) in
    rw (p.1, p.2) (low_refused c.args.line.now c.as_chunks.result.0.now c.as_chunks.ensures.front c.as_chunks.ensures.front_len c.loop-i.bytes.items c.loop-i.i c.loop-i.invariant (search rules) good c.in_ok-high.high c.in_ok-high.ensures c.in_err-low.field-0.0 c.in_err-low.ensures)

pub loop-i-preserved : goal.loop-i-preserved
loop-i-preserved c =
    spelled_on c.args.line.now c.as_chunks.result.0.now c.as_chunks.ensures.front c.as_chunks.ensures.front_len c.loop-i.bytes.items c.loop-i.i c.loop-i.invariant (search rules)
    c.in_ok-high.high c.in_ok-low.low _ c.push.ensures.items c.in_ok-high.ensures c.in_ok-low.ensures

pub returns : goal.returns
returns c =
    let good = well_long c.args.line.now (search rules) (search rules) (search rules) in
    all_spelled c.args.line.now c.loop-i.bytes.items c.loop-i.i c.loop-i.invariant good (omega (arith, c.as_chunks.ensures.front_len))
