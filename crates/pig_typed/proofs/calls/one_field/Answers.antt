use Rattle.std.proofs.Common.{map, ◌∙◌}
use Rattle.pig_value.specs.Trees.{kind_tree}
use Rattle.pig_typed.proofs.SignatureLaws.{column_is}
use Rattle.pig_typed.proofs.calls.one_field.Goals as goal

pub returns : goal.returns
returns c = c.one.ensures ∙ column_is (map kind_tree c.args.fields.now)
