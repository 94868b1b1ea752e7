use Rattle.std.proofs.Common.{◌≡◌, ◌++◌, map, drop}
use Rattle.pig_schema.specs.FieldTrees.{schema_tree}
use Rattle.pig_typing.specs.Parts.{select}
use Rattle.pig_typing.specs.Results.{checked_map}
use Rattle.pig_typing.specs.Views.{pick_tree}
use Rattle.pig_typing.proofs.parts.select.Given as goal

abbrev pub invariant-loop-field : goal.invariant-loop-field
invariant-loop-field l =
    checked_map (λ more. map pick_tree l.picks ++ more) (select (schema_tree l.columns) (drop l.field-index l.fields))
    ≡ select (schema_tree l.columns) l.fields
