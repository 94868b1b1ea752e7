use Rattle.std.proofs.Common.{length}
use Rattle.std.proofs.lemmas.Bool.Decides.{Decides-eqb}
use Rattle.pig_schema.specs.FieldTrees.{named_tree}
use Rattle.pig_syntax.specs.ExprTrees.{field_form}
use Rattle.pig_items.proofs.CodeLaws.{many_is}
use Rattle.pig_items.proofs.items.as_many.Goals as goal

pub returns : goal.returns
returns c =
    many_is named_tree field_form c.args.columns.now c.args.fields.now _ (Decides-eqb (length c.args.columns.now) (length c.args.fields.now))
