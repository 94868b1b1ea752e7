use Rattle.std.proofs.Common.{◌≡◌, ◌∙◌, ap}
use Rattle.std.proofs.lemmas.Result.{IfOk-weaker}
use Rattle.pig_schema.specs.FieldTrees.{inner_of, named_tree, schema_tree, tree_inner}
use Rattle.pig_schema.specs.declared.schema.Field.{out-Field}
use Rattle.pig_typing.proofs.CodeLaws.{inner_is}
use Rattle.pig_typing.proofs.columns.copy_inner.Goals as goal

pub returns : goal.returns
returns c =
    let field = c.args.field.now in
    IfOk-weaker c.copy_schema.result (λ s. s ≡ (out-Field field).inner) (λ s. inner_of (schema_tree s) ≡ tree_inner (named_tree field))
    (λ s e. ap (λ x. inner_of (schema_tree x)) e ∙ inner_is field) c.copy_schema.ensures
