use Rattle.std.proofs.Common.{◌≡◌, ◌++◌, drop}
use Rattle.pig_schema.specs.FieldTrees.{schema_tree}
use Rattle.pig_check.specs.Cubes.{columns_at}
use Rattle.pig_check.proofs.cubes.columns_at.Given as goal

abbrev pub invariant-loop-position : goal.invariant-loop-position
invariant-loop-position l =
    schema_tree l.made ++ columns_at (schema_tree l.columns) (drop l.position-index l.positions) ≡ columns_at (schema_tree l.columns) l.positions
