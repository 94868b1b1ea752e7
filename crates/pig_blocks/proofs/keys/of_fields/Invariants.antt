use Rattle.std.proofs.Common.{◌≡◌, ◌++◌, drop}
use Rattle.pig_schema.specs.FieldTrees.{schema_tree}
use Rattle.pig_typing.specs.Results.{checked_map}
use Rattle.pig_blocks.specs.SortKeys.{keys_of}
use Rattle.pig_blocks.proofs.keys.of_fields.Given as goal

abbrev pub invariant-loop-order : goal.invariant-loop-order
invariant-loop-order l =
    checked_map (λ more. l.made ++ more) (keys_of (schema_tree l.columns) (drop l.order-index l.fields))
    ≡ keys_of (schema_tree l.columns) l.fields
