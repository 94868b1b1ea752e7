use Rattle.std.proofs.Common.{◌≡◌, ◌++◌, map, drop}
use Rattle.pig_syntax.specs.ExprTrees.{expr_form, expr_forms}
use Rattle.pig_typing.specs.Columns.{place_of}
use Rattle.pig_typing.specs.Conditions.{keys_on}
use Rattle.pig_typing.specs.Results.{checked_map}
use Rattle.pig_typing.specs.Views.{typed_tree}
use Rattle.pig_typing.proofs.conditions.keys_told.Given as goal

abbrev pub invariant-loop-key : goal.invariant-loop-key
invariant-loop-key l =
    checked_map (λ more. map typed_tree l.made ++ more) (keys_on (place_of l.scope) (expr_forms (map expr_form (drop l.key-index l.keys))))
    ≡ keys_on (place_of l.scope) (expr_forms (map expr_form l.fn.keys))
