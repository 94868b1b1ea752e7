use Rattle.std.proofs.Common.{◌≡◌, map, drop, ◌+◌, ◌*◌}
use Rattle.std.specs.Prelude.{◌++◌}
use Rattle.std.specs.Option.{option_map}
use Rattle.pig_schema.specs.FieldTrees.{schema_tree}
use Rattle.pig_syntax.specs.ExprTrees.{field_form, field_forms}
use Rattle.pig_typing.specs.Written.{written_fields}
use Rattle.pig_typing.proofs.written.+written.Given as goal

abbrev pub decreases-written_type : goal.decreases-written_type
decreases-written_type l = 3 * goal.size-written_type l

abbrev pub decreases-written_field : goal.decreases-written_field
decreases-written_field l = 3 * goal.size-written_field l + 1

abbrev pub decreases-written_schema : goal.decreases-written_schema
decreases-written_schema l = 3 * goal.size-written_schema l + 2

abbrev pub invariant-written_schema-loop-field : goal.invariant-written_schema-loop-field
invariant-written_schema-loop-field l =
    option_map (λ more. schema_tree l.made.items ++ more) (written_fields (field_forms (map field_form (drop l.field-index l.fields))))
    ≡ written_fields (field_forms (map field_form l.fields))
