use Rattle.std.proofs.Common.{map, subst}
use Rattle.pig_schema.specs.FieldTrees.{schema_tree, tree_name}
use Rattle.pig_schema.specs.Names.{meaning}
use Rattle.pig_typing.specs.Columns.{column_at, name_place, refer}
use Rattle.pig_typing.specs.Results.{◌>>=◌, Tells}
use Rattle.pig_typing.specs.Latest.{step_tree}
use Rattle.pig_typing.proofs.names.refer.Goals as goal

pub returns-in-Name : goal.returns-in-Name
unfolding refer
returns-in-Name c =
    let columns = schema_tree c.args.columns.now in
    let found = subst (λ name. Tells step_tree (name_place (meaning (map tree_name columns) name) >>= column_at columns) c.by_name.result) c.as_str.ensures.text c.by_name.ensures in
    rw (c.in-Name.is) found
