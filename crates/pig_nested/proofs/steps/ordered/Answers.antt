use Rattle.std.proofs.Common.{◌∙◌, sym, List}
use Rattle.pig_value.specs.Sorts.{sort}
use Rattle.pig_value.specs.Trees.{rows_tree, Tree, tree, tuples_of, v_listed}
use Rattle.pig_typed.specs.Blocks.{keys_cmp}
use Rattle.pig_nested.proofs.Forms.{from_found}
use Rattle.pig_nested.proofs.steps.ordered.Goals as goal

pub returns-in-Ok : goal.returns-in-Ok
returns-in-Ok c =
    let make : List (List Tree) → Tree = λ rows. v_listed (tuples_of (sort (keys_cmp c.args.keys.now) rows)) in
    c.ordered_rows.ensures ∙ sym (from_found make (tree c.args.from) (rows_tree c.in-Ok.rows) c.in-Ok.ensures.rows)
