use Rattle.std.proofs.Common.{◌∙◌, ap, sym}
use Rattle.pig_schema.specs.FieldTrees.{inner_list}
use Rattle.pig_typing.proofs.CodeLaws.{inner_back, inner_is}
use Rattle.pig_blocks.proofs.bags.inner.Goals as goal

pub returns : goal.returns
returns c = sym (inner_back _) ∙ ap inner_list (inner_is c.args.column.now)
