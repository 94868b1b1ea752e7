use Rattle.std.proofs.Common.{◌<◌, ◌∙◌, ap, drop, arith}
use Rattle.pig_stream.specs.Ranges.{first_byte, lines_coming}
use Rattle.pig_stream.proofs.Ranged.{from_the_byte_before}
use Rattle.pig_stream.proofs.window.Window.of.Goals as goal

pub returns-clause-lines : goal.returns-clause-lines
returns-clause-lines c = λ bytes.
    let from = c.args.from in
    let some : 0 < from = (let h = c.if-from-eq0.false in omega (arith, h)) in
    ap (λ r. lines_coming r (drop (first_byte from) bytes)) c.begun-2.ensures ∙ from_the_byte_before from c.args.to bytes some c.requires
