use Rattle.std.proofs.Common.{arith}
use Rattle.pig_stream.proofs.WordLaws.{one_over}
use Rattle.pig_stream.proofs.buffer.text_row_over.Goals as goal

pub returns : goal.returns
returns c =
    let size = c.len.ensures in
    let one = c.if-len-ne1.false in
    one_over c.args.row.now c.replace-old.new.self c.replace.new.self _ c.in_ok-value.value c.args.text.now (omega (arith, size, one))
    c.replace-old.ensures.list c.replace.ensures.list c.in_ok-value.ensures
