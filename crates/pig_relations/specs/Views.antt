-- What the code holds, as the definitions see it.
use Rattle.std.specs.Borrow.{Bor}
use Rattle.std.specs.Prelude.{List, map}
use Rattle.pig_value.specs.Trees.{kind_tree}
use Rattle.pig_schema.specs.FieldTrees.{FieldTree, named_tree}
use Rattle.pig_schema.specs.declared.schema.Field.{Field}
use Rattle.pig_syntax.specs.ExprTrees.{expr_form, expr_forms}
use Rattle.pig_typing.specs.Views.{typed_tree}
use Rattle.pig_relations.specs.Aliases.{RelationTree, relation_tree}
use Rattle.pig_relations.specs.Keyed.{KeyedForm, TypedInput, Keyable}
use Rattle.pig_relations.specs.declared.aliases.Relation.{Relation}
use Rattle.pig_relations.specs.declared.keyed.InputForm.{InputForm}
use Rattle.pig_relations.specs.declared.keyed.TypedInput as code
use Rattle.pig_relations.specs.declared.keyed.Keyable as code_keyed

-- columns that stand elsewhere
abbrev pub fields_seen : List (Bor Field) → List FieldTree
fields_seen = map (λ f. named_tree f.now)

abbrev pub relations_seen : List (Bor Relation) → List RelationTree
relations_seen = map (λ r. relation_tree r.now)

abbrev pub form_of : InputForm → KeyedForm
form_of i = record { alias = i.from.now; keys = expr_forms (map expr_form i.keys.now); inner = i.inner }

abbrev pub input_tree : code.TypedInput → TypedInput
input_tree t = record { alias = t.alias.now; relation = relation_tree t.relation.now; keys = map typed_tree t.keys; inner = t.inner }

abbrev pub keyable_tree : code_keyed.Keyable → Keyable
keyable_tree k = record { inputs = map input_tree k.inputs; kinds = map kind_tree k.kinds }
