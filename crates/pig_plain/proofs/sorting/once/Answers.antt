use Rattle.std.proofs.Common.{◌≡◌, ◌∙◌, [], ap, map, subst, sym}
use Rattle.std.specs.Prelude.{IfOk}
use Rattle.pig_value.specs.Orders.{row_cmp}
use Rattle.pig_value.specs.Sorts.{distinct}
use Rattle.pig_value.specs.Trees.{rows_tree}
use Rattle.pig_runs.specs.Entries.{run_of}
use Rattle.pig_operators.specs.Given.{AreKeyedByRow, run_rows}
use Rattle.pig_plain.specs.Coming.{relation_rows}
use Rattle.pig_operators.specs.Keying.{row_entry}
use Rattle.pig_operators.proofs.RowEntries.{run_once, run_under_rows}
use Rattle.pig_plain.proofs.sorting.once.Goals as goal

pub distinct_keys-requires-clause-keys : goal.distinct_keys-requires-clause-keys
distinct_keys-requires-clause-keys c =
    let rows = relation_rows c.args.relation in
    let run_is : c.finish.result ≡ run_of [] (map row_entry rows) = c.finish.ensures ∙ ap (λ b. run_of b.dirs b.entries) c.in_ok-builder.ensures in
    subst (λ r. AreKeyedByRow r.entries) (sym run_is) (run_under_rows rows)

pub returns : goal.returns
returns c =
    let rows = relation_rows c.args.relation in
    let run_is : c.finish.result ≡ run_of [] (map row_entry rows) = c.finish.ensures ∙ ap (λ b. run_of b.dirs b.entries) c.in_ok-builder.ensures in
    subst (λ t. IfOk c.distinct_keys.result (λ made. rows_tree made ≡ t)) (ap (λ r. distinct row_cmp (run_rows r)) run_is ∙ run_once rows) c.distinct_keys.ensures
