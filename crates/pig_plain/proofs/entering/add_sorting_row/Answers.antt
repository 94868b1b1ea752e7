use Rattle.std.proofs.Common.{◌≡◌, ◌∙◌, ap, subst, sym}
use Rattle.pig_value.specs.declared.values.Value.TheVariants as value
use Rattle.pig_value.specs.TreeViews.{tree-Tuple}
use Rattle.pig_value.specs.Trees.{fields_of, row_tree, tree, v_tuple}
use Rattle.pig_keycode.specs.Keys.{IsKey}
use Rattle.pig_plan.specs.Entries.{dirs_of, sort_entry}
use Rattle.pig_operators.proofs.SortEntries.{is_key}
use Rattle.pig_plain.proofs.entering.add_sorting_row.Goals as goal

pub add-requires-clause-key : goal.add-requires-clause-key
add-requires-clause-key c =
    let keys = c.args.keys.now in
    let row = row_tree c.args.row.now in
    let made = c.in_ok-key_values.field-0 in
    let key_is : tree (value.Tuple made) ≡ (sort_entry keys row).key = tree-Tuple made ∙ ap (λ r. v_tuple (fields_of r)) c.in_ok-key_values.ensures in
    subst (λ ds. IsKey ds (tree (value.Tuple made))) (sym c.requires.dirs) (subst (IsKey (dirs_of keys)) (sym key_is) (is_key keys row c.requires.row))
