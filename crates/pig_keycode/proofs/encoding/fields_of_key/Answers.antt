use Rattle.std.proofs.Common.{◌∙◌, sym, ap}
use Rattle.pig_value.specs.Trees.{tree, row_tree}
use Rattle.pig_value.proofs.TreeLaws.{tree-Tuple, fields_back}
use Rattle.pig_keycode.specs.Keys.{fields_of_key}
use Rattle.pig_keycode.proofs.encoding.fields_of_key.Goals as goal

pub returns-in-Tuple : goal.returns-in-Tuple
returns-in-Tuple c =
    ap row_tree c.as_slice.ensures ∙ sym (ap (λ v. fields_of_key (tree v)) c.in-Tuple.is ∙ (ap fields_of_key (tree-Tuple c.in-Tuple.fields) ∙ fields_back (row_tree c.in-Tuple.fields)))
