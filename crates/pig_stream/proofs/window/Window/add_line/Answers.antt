use Rattle.std.proofs.Common.{◌≡◌, ◌∙◌, ◌++◌, ◌∷◌, [], ap, sym, subst, take}
use Rattle.std.specs.Str.Lines.{strip_carriage_return}
use Rattle.pig_value.specs.FieldRows.{row_of}
use Rattle.pig_value.specs.Valid.{AreRows}
use Rattle.pig_value.proofs.ValidLaws.{valid_rows-append}
use Rattle.pig_stream.specs.Ranges.{lines_coming, rows_of_lines}
use Rattle.pig_stream.proofs.Handed.{gone_on, line_added}
use Rattle.pig_stream.proofs.window.Window.add_line.Goals as goal

pub returns-clause-rows : goal.returns-clause-rows
returns-clause-rows c = λ later.
    let self = c.args.self.now in
    let f = c.in-Some.found in
    let same = c.in-Some.ensures.same in
    let columns = c.args.columns.now in
    let delim = c.args.delim in
    let new = c.push_line.new.self in
    let line : c.known_bytes-line.result.now ≡ strip_carriage_return (take f.end self.held) =
    c.known_bytes-line.ensures.same ∙ c.without_cr.ensures ∙ ap strip_carriage_return (c.first_bytes.ensures ∙ ap (λ r. take f.end r.held) same) in
    line_added columns delim self f c.args.batch.now new c.known_bytes-line.result.now c.in-Some.ensures.found line c.in_ok-push_line.ensures later
    ∙ ap (λ r. new ++ rows_of_lines columns delim (lines_coming r later)) (sym (c.go_on.ensures ∙ ap (gone_on f.next) same))

pub returns-clause-values : goal.returns-clause-values
returns-clause-values c = λ good.
    let line = c.known_bytes-line.result.now in
    let columns = c.args.columns.now in
    let delim = c.args.delim in
    subst AreRows (sym c.in_ok-push_line.ensures)
    (valid_rows-append c.args.batch.now (row_of columns delim line ∷ []) good (c.rows_are_of_their_kinds.ensures.values columns delim line c.known_bytes-line.ensures.small, tt))
