use Rattle.std.proofs.Common.{◌∙◌, subst, sym}
use Rattle.pig_eval.proofs.Evaluated.{a_value}
use Rattle.pig_typed.specs.Typed.{typed}
use Rattle.pig_value.specs.Trees.{row_tree}
use Rattle.pig_value.specs.Valid.{IsRow, IsValue}
use Rattle.pig_operators.proofs.keyed.add_by_one.Goals as goal

pub add_under-requires-clause-key : goal.add_under-requires-clause-key
add_under-requires-clause-key c =
    subst IsValue (sym (c.value.ensures ∙ c.in_ok-seen.ensures))
    (a_value (typed c.args.key.now) (row_tree c.args.row.now) (row_tree c.new-none.result) c.requires.literals c.requires.row (subst (λ r. IsRow (row_tree r)) (sym c.new-none.ensures) tt))
