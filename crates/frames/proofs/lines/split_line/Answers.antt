use Rattle.std.proofs.Common.{◌<◌, length, sym, rules}
use Rattle.frames.proofs.Splitting.{cut, uncut, first_of_lines}
use Rattle.frames.proofs.lines.split_line.Goals as goal

pub returns-in-Some : goal.returns-in-Some
returns-in-Some c =
    let f = cut c.args.input.now c.in-Some.end (sym c.in-Some.ensures) in
    record { parts = f; lines = first_of_lines _ _ _ f }

pub returns-in-None : goal.returns-in-None
returns-in-None c =
    let some : 0 < length c.args.input.now = search rules in
    let f = uncut c.args.input.now some (sym c.in-None.ensures) in
    record { parts = f; lines = first_of_lines _ _ _ f }
