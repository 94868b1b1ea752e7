use Rattle.std.proofs.Common.{◌≡◌, ◌++◌, map, drop}
use Rattle.pig_schema.specs.FieldTrees.{schema_tree}
use Rattle.pig_typed.specs.Typed.{typed}
use Rattle.pig_typing.specs.Results.{checked_map}
use Rattle.pig_check.specs.Splits.{conditions_of}
use Rattle.pig_check.specs.States.{row_of}
use Rattle.pig_check.proofs.splits.conditions.Given as goal

abbrev pub invariant-loop-branch : goal.invariant-loop-branch
invariant-loop-branch l =
    checked_map (λ more. map typed l.conds ++ more) (conditions_of (row_of (schema_tree l.columns)) (drop l.branch-index l.branches))
    ≡ conditions_of (row_of (schema_tree l.columns)) l.branches
