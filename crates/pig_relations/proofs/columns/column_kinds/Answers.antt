use Rattle.std.proofs.Common.{◌≡◌, ◌∙◌, ap, map}
use Rattle.std.proofs.lemmas.Result.{IfOk-weaker}
use Rattle.pig_value.specs.Trees.{kind_tree}
use Rattle.pig_schema.specs.FieldTrees.{kind_of, schema_tree, tree_kind}
use Rattle.pig_typing.proofs.CodeLaws.{kinds_are}
use Rattle.pig_relations.proofs.columns.column_kinds.Goals as goal

pub returns : goal.returns
returns c =
    let columns = c.args.columns.now in
    IfOk-weaker c.kinds.result (λ ks. ks ≡ map kind_of columns) (λ ks. map kind_tree ks ≡ map tree_kind (schema_tree columns)) (λ ks e. ap (map kind_tree) e ∙ kinds_are columns) c.kinds.ensures
