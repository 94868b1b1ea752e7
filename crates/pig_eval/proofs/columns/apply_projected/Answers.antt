use Rattle.std.proofs.Common.{◌≡◌, ◌∙◌, ap, rules, true, map, [], ◌∷◌}
use Rattle.std.proofs.lemmas.Result.{IfOk-weaker}
use Rattle.pig_value.specs.Functions.{apply_tree, column_tree}
use Rattle.pig_value.specs.Trees.{at, rows_tree, tree}
use Rattle.pig_typed.specs.Operators.{project_tree}
use Rattle.pig_eval.specs.Columned.{ReadsColumn, counts_rows}
use Rattle.pig_eval.proofs.ColumnLaws.{column_is, counted_is}
use Rattle.pig_eval.proofs.columns.apply_projected.Goals as goal

pub returns-then-counts_rows : goal.returns-then-counts_rows
returns-then-counts_rows c =
    let function = c.args.function in
    let counts : counts_rows function ≡ true = search rules in
    IfOk-weaker c.apply_one.result _ (λ w. tree w ≡ apply_tree function (project_tree c.args.fields.now c.args.single (tree c.args.v.now) ∷ []))
    (λ w same. same ∙ counted_is function c.args.fields.now c.args.single (tree c.args.v.now) (rows_tree c.in-Some.rows.now) counts c.in-Some.ensures) c.apply_one.ensures

pub returns-in-Some-column : goal.returns-in-Some-column
returns-in-Some-column c =
    let function = c.args.function in
    let n = c.in-Some-column.n in
    let whole = ap (λ rows. column_tree function (map (at n) (rows_tree rows))) c.as_slice.ensures in
    IfOk-weaker c.apply_column.result _ (λ w. tree w ≡ apply_tree function (project_tree c.args.fields.now c.args.single (tree c.args.v.now) ∷ []))
    (λ w same. same ∙ whole ∙ column_is function c.args.fields.now n c.args.single (tree c.args.v.now) (rows_tree c.in-Some.rows.now) c.in-Some-column.ensures c.in-Some.ensures)
    c.apply_column.ensures
