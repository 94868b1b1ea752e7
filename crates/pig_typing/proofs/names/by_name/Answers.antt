use Rattle.std.proofs.Common.{subst}
use Rattle.pig_schema.specs.FieldTrees.{schema_tree}
use Rattle.pig_typing.specs.Columns.{column_at, name_place}
use Rattle.pig_typing.specs.Results.{◌>>=◌, Tells}
use Rattle.pig_typing.specs.Latest.{step_tree}
use Rattle.pig_typing.proofs.names.by_name.Goals as goal

pub returns-in-Ok : goal.returns-in-Ok
returns-in-Ok c = subst (λ m. Tells step_tree (name_place m >>= column_at (schema_tree c.args.columns.now)) c.column_at.result) c.in-Ok.ensures c.column_at.ensures
