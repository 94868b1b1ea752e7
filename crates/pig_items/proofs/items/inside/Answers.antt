use Rattle.std.proofs.Common.{◌∙◌, ap, sym, map}
use Rattle.pig_schema.specs.FieldTrees.{inner_list, named_tree}
use Rattle.pig_typing.proofs.CodeLaws.{inner_back, inner_is}
use Rattle.pig_items.proofs.items.inside.Goals as goal

pub returns : goal.returns
returns c = ap (map named_tree) c.as_slice.ensures ∙ sym (inner_back _) ∙ ap inner_list (inner_is c.args.column.now)
