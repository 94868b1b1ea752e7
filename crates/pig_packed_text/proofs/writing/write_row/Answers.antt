use Rattle.std.proofs.Common.{◌≡◌, ◌++◌, ℕ, List, ap, map, ◌∙◌, rules}
use Rattle.pig_value.specs.Texts.{text_of}
use Rattle.pig_value.specs.Trees.{Tree}
use Rattle.pig_keycode.specs.Codable.{IsCodeOfRow}
use Rattle.pig_packed_text.specs.SeenTexts.{line_of, seen_text}
use Rattle.pig_packed_text.proofs.Lines.{row_written}
use Rattle.pig_packed_text.proofs.writing.write_row.Goals as goal

pub returns : goal.returns
returns c =
    let texts : List (List ℕ) = map seen_text c.read_fields.new.fields.items in
    let read : (row : List Tree) → IsCodeOfRow c.code.result.now row → texts ≡ map text_of row = c.in_ok-read_fields.ensures in
    let lent : c.as_slice.result.now ≡ c.read_fields.new.fields.items = search rules in
    let told : c.write_line.new.out.items ≡ c.args.out.now.items ++ line_of c.args.delim c.args.places (map seen_text c.as_slice.result.now) = search rules in
    row_written c.args.rows.now c.args.at c.code.result.now c.args.delim c.args.places texts c.args.out.now.items c.write_line.new.out.items c.code.ensures.values c.code.ensures.is read
    (told ∙ ap (λ slice. c.args.out.now.items ++ line_of c.args.delim c.args.places (map seen_text slice)) lent)
