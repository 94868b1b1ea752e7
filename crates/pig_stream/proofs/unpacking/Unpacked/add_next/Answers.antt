use Rattle.std.proofs.Common.{◌∙◌, ◌++◌, ◌+◌, ◌∷◌, [], ap, sym, subst, drop, append_assoc}
use Rattle.pig_value.specs.Trees.{row_tree}
use Rattle.pig_value.specs.Valid.{AreRows}
use Rattle.pig_value.proofs.ValidLaws.{valid_rows-append}
use Rattle.pig_value.proofs.list_laws.Indexing.{dropped}
use Rattle.pig_stream.proofs.unpacking.Unpacked.add_next.Goals as goal

pub returns-clause-rows : goal.returns-clause-rows
returns-clause-rows c =
    let old = c.args.batch.now in
    let all = c.args.self.now.rows.now in
    let at = c.args.self.now.next in
    let row = row_tree c.in_ok-row_at.field-0 in
    ap (λ l. old ++ l) (dropped all at row c.in_ok-row_at.ensures.is)
    ∙ sym (append_assoc old (row ∷ []) (drop (at + 1) all))
    ∙ ap (λ l. l ++ drop (at + 1) all) (sym c.in_ok-push.ensures)

pub returns-clause-values : goal.returns-clause-values
returns-clause-values c = λ good.
    subst AreRows (sym c.in_ok-push.ensures)
    (valid_rows-append c.args.batch.now (row_tree c.in_ok-row_at.field-0 ∷ []) good (c.in_ok-row_at.ensures.value, tt))
