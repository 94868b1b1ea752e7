use Rattle.pig_value.specs.Trees.{kind_tree, tree}
use Rattle.pig_cast.proofs.FieldLaw.{one_value}
use Rattle.pig_cast.proofs.fields.read_field_over.Goals as goal

pub returns : goal.returns
returns c = (one_value (kind_tree c.args.k.now) c.args.bytes.now (tree c.in_ok-value.value)).1 c.in_ok-value.ensures
