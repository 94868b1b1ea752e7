use Rattle.std.proofs.Common.{◌-◌, ◌≤◌, length, take, drop, arith}
use Rattle.std.proofs.lemmas.List.{length-take, take_rest}
use Rattle.pig_storage.proofs.FirstLine.{span_is}
use Rattle.pig_storage.proofs.lines.next_line.Goals as goal

pub returns-clause-line : goal.returns-clause-line
returns-clause-line c =
    let bytes = c.args.bytes.now in
    let from = c.args.from in
    let rest = take (length bytes - from) (drop from bytes) in
    let at = c.place_of-end.result in
    let n = c.length_without_cr-length.result in
    let shorter : n ≤ at = omega (arith, c.length_without_cr-length.ensures.within, length-take at rest) in
    span_is bytes from at n c.min.result rest c.min.ensures (take_rest bytes from) (omega arith) c.place_of-end.ensures.is c.place_of-end.ensures.within shorter c.length_without_cr-length.ensures.is
