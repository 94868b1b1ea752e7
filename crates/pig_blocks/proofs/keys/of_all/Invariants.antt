use Rattle.std.proofs.Common.{◌≡◌, ◌++◌, ◌-◌}
use Rattle.pig_schema.specs.FieldTrees.{schema_tree}
use Rattle.pig_typing.specs.Results.{checked_map}
use Rattle.pig_blocks.specs.SortKeys.{fields_in, keys_of}
use Rattle.pig_blocks.proofs.keys.of_all.Given as goal

abbrev pub invariant-loop-place : goal.invariant-loop-place
invariant-loop-place l =
    checked_map (λ more. l.made ++ more) (keys_of (schema_tree l.columns) (fields_in l.dir l.place (l.count - l.place)))
    ≡ keys_of (schema_tree l.columns) (fields_in l.dir 0 l.count)
