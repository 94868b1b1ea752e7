use Rattle.std.proofs.Common.{map, subst, sym}
use Rattle.pig_value.specs.TreeViews.{tree-Tuple}
use Rattle.pig_value.specs.Trees.{row_tree}
use Rattle.pig_value.specs.Valid.{IsRow, IsValue}
use Rattle.pig_typed.specs.Typed.{typed}
use Rattle.pig_operators.proofs.Keying.{keys_valid}
use Rattle.pig_operators.proofs.keyed.tuple_of.Goals as goal

pub returns-clause-valid : goal.returns-clause-valid
returns-clause-valid c =
    subst IsValue (sym (tree-Tuple c.in_ok-values.field-0)) (subst IsRow (sym c.in_ok-values.ensures) (keys_valid (map typed c.args.keys.now) (row_tree c.args.row.now) c.requires.literals c.requires.row))
