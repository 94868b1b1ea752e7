use Rattle.std.proofs.Common.{◌∙◌, ap, sym, List}
use Rattle.pig_value.specs.Orders.{row_cmp}
use Rattle.pig_value.specs.Sorts.{distinct}
use Rattle.pig_value.specs.Trees.{rows_tree, Tree, tree, tuples_of, v_bag}
use Rattle.pig_value.proofs.TreeLaws.{tree-Bag}
use Rattle.pig_nested.proofs.Forms.{from_found}
use Rattle.pig_nested.proofs.steps.reduced_made.Goals as goal

pub returns-in-Ok : goal.returns-in-Ok
returns-in-Ok c =
    let make : List (List Tree) → Tree = λ rows. v_bag (tuples_of (distinct row_cmp rows)) in
    tree-Bag c.distinct_rows.result ∙ ap (λ rs. v_bag (tuples_of rs)) c.distinct_rows.ensures
    ∙ sym (from_found make (tree c.args.from) (rows_tree c.in-Ok.rows) c.in-Ok.ensures.rows)
