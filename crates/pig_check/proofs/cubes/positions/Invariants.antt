use Rattle.std.proofs.Common.{◌≡◌, ◌++◌, drop}
use Rattle.pig_schema.specs.FieldTrees.{schema_tree}
use Rattle.pig_typing.specs.Results.{checked_map}
use Rattle.pig_check.specs.Cubes.{fields_of}
use Rattle.pig_check.proofs.cubes.positions.Given as goal

abbrev pub invariant-loop-field : goal.invariant-loop-field
invariant-loop-field l =
    checked_map (λ more. l.made ++ more) (fields_of (schema_tree l.columns) (drop l.field-index l.dims))
    ≡ fields_of (schema_tree l.columns) l.dims
