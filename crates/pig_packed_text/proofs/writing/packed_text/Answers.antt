use Rattle.std.proofs.Common.{◌≡◌, ◌<◌, ◌++◌, length, rules}
use Rattle.pig_value.proofs.list_laws.Indexing.{some_at}
use Rattle.pig_value.specs.Texts.{rows_text}
use Rattle.pig_packed_text.specs.SeenTexts.{line_text, placed}
use Rattle.pig_packed_text.proofs.Lines.{one_line}
use Rattle.pig_packed_text.proofs.writing.packed_text.Goals as goal

pub loop-at-preserved : goal.loop-at-preserved
loop-at-preserved c =
    let within : c.loop-at.at < length c.args.rows.now = search rules in
    let found = some_at c.args.rows.now c.loop-at.at within in
    let written : c.write_row.new.out.items ≡ c.loop-at.text.items ++ line_text c.args.delim c.args.places found.0 = search rules in
    one_line c.args.delim c.args.places c.args.rows.now c.loop-at.at found.0 c.loop-at.text.items c.write_row.new.out.items (rows_text c.args.delim (placed c.args.places c.args.rows.now)) found.1
    written c.loop-at.invariant
