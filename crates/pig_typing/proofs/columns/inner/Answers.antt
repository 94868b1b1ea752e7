use Rattle.std.proofs.Common.{◌∙◌, ap, sym}
use Rattle.pig_schema.specs.FieldTrees.{inner_list}
use Rattle.pig_typing.proofs.CodeLaws.{inner_back, inner_is}
use Rattle.pig_typing.proofs.columns.inner.Goals as goal

pub returns : goal.returns
returns c = record {
  forms = inner_is c.field.result.now ∙ c.field.ensures.inner;
  list = sym (inner_back _) ∙ ap inner_list (inner_is c.field.result.now ∙ c.field.ensures.inner);
}
