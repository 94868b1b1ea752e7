-- What the code holds, as the definitions see it.
use Rattle.std.specs.Prelude.{map}
use Rattle.pig_schema.specs.FieldTrees.{schema_tree}
use Rattle.pig_typed.specs.Typed.{item_typed}
use Rattle.pig_items.specs.declared.items.Generated as code
use Rattle.pig_items.specs.Items.{Generated}

abbrev pub generated_tree : code.Generated → Generated
generated_tree g = record { items = map item_typed g.items; columns = schema_tree g.columns }
