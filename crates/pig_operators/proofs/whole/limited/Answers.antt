use Rattle.std.proofs.Common.{◌≡◌, ◌∙◌, ap, subst, take}
use Rattle.std.specs.Prelude.{IfOk}
use Rattle.pig_value.specs.Trees.{rows_tree}
use Rattle.pig_operators.proofs.SortEntries.{ordered_is}
use Rattle.pig_operators.proofs.Stretches.{first_rows, sorted_out}
use Rattle.pig_operators.proofs.whole.limited.Goals as goal

pub returns-clause-rows : goal.returns-clause-rows
returns-clause-rows c =
    subst (λ t. IfOk c.rows_of.result (λ rows. rows_tree rows ≡ t)) (first_rows c.args.run c.args.count c.len.result c.min-end.result c.len.ensures.count c.min-end.ensures) c.rows_of.ensures

pub returns-clause-order : goal.returns-clause-order
returns-clause-order c keys is =
    subst (λ t. IfOk c.rows_of.result (λ rows. rows_tree rows ≡ t))
    (first_rows c.args.run c.args.count c.len.result c.min-end.result c.len.ensures.count c.min-end.ensures
    ∙ ap (take c.args.count) (ordered_is keys c.args.run is (sorted_out c.args.run.dirs c.args.run.entries c.len.ensures.sorted))) c.rows_of.ensures
