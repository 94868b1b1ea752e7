-- Aliases, kinds together, and the columns of operators, computed.
use Rattle.std.specs.Prelude.{◌≡◌, ℕ, true, false, List, [], ◌∷◌, codes, Some, None, refl}
use Rattle.std.specs.declared.result.Result.TheVariants.{Ok, Err}
use Rattle.pig_value.specs.Trees.{KindTree, k_int, k_long, k_chars, k_bag, kinds_of}
use Rattle.pig_value.specs.declared.operators.Side.TheVariants as side
use Rattle.pig_schema.specs.FieldTrees.{FieldTree, a_field, no_inner, inner_of}
use Rattle.pig_syntax.specs.ExprTrees.{e_field, no_exprs, more_exprs}
use Rattle.pig_syntax.specs.declared.trees.FieldRef.TheVariants as ref
use Rattle.pig_typed.specs.Typed.{x_cast, x_field}
use Rattle.pig_plan.specs.Plans.{p_group, p_group_all, p_join}
use Rattle.pig_typing.specs.declared.faults.CheckKind.TheVariants as kind
use Rattle.pig_typing.specs.Columns.{column_at, refer}
use Rattle.pig_typing.specs.Conditions.{as_key, key_on, keys_on}
use Rattle.pig_typing.specs.Parts.{plain_item}
use Rattle.pig_typing.specs.Limits.{limited_row}
use Rattle.pig_typing.specs.Reader.{field_of, reference_of, type_of}
use Rattle.pig_relations.specs.Aliases.{Aliases, RelationTree, relation_at, relation_of}
use Rattle.pig_relations.specs.Keyed.{KeyedForm, input_of, inputs_of, keyed_of}
use Rattle.pig_relations.specs.Operators.{group_all_of, group_of, join_of, joined_by, limited_op, sided, without}
use Rattle.pig_relations.specs.Together.{all_together, together}
use Rattle.pig_relations.specs.Unions.{agreed_union, of_two, relations_of, union_of}

abbrev column : List ℕ → KindTree → FieldTree
column name k = a_field (Some name) k no_inner

-- `a` is (k:int, v:chararray), `c` is (k:long, w:chararray), and `b` was `c` before it was `a`
abbrev first : RelationTree
first = record { node = 0; columns = column (codes "k") k_int ∷ column (codes "v") k_chars ∷ [] }

abbrev third : RelationTree
third = record { node = 2; columns = column (codes "k") k_long ∷ column (codes "w") k_chars ∷ [] }

abbrev known : Aliases
known = (codes "a", first) ∷ (codes "b", third) ∷ (codes "c", third) ∷ (codes "b", first) ∷ []

latest_counts : relation_at (codes "b") known ≡ Some first
latest_counts = refl

unknown_alias : relation_of known (codes "z") ≡ Err kind.UnknownAlias
unfolding relation_of
unknown_alias = refl

-- ---- kinds together

int_and_long : all_together ((k_int ∷ k_chars ∷ []) ∷ (k_long ∷ k_chars ∷ []) ∷ (k_int ∷ k_chars ∷ []) ∷ []) ≡ Some (k_long ∷ k_chars ∷ [])
int_and_long = refl

int_and_text : together k_int k_chars ≡ None
int_and_text = refl

another_number : all_together ((k_int ∷ []) ∷ (k_int ∷ k_chars ∷ []) ∷ []) ≡ None
another_number = refl

-- ---- operators

-- keys by one name
abbrev by_key : List ℕ → KeyedForm
by_key alias = record { alias = alias; keys = more_exprs (e_field (ref.Name (codes "k"))) no_exprs; inner = false }

-- `COGROUP a BY k, c BY k`: the int key is cast
cogroups : group_of known (by_key (codes "a") ∷ by_key (codes "c") ∷ []) None ≡ Ok (record {
  op = p_group (record { input = 0; keys = x_cast k_long (x_field 0) ∷ []; inner = false } ∷ record { input = 2; keys = x_field 0 ∷ []; inner = false } ∷ []);
  columns = column (codes "group") k_long ∷ a_field (Some (codes "a")) (k_bag (kinds_of (k_int ∷ k_chars ∷ []))) (inner_of first.columns)
      ∷ a_field (Some (codes "c")) (k_bag (kinds_of (k_long ∷ k_chars ∷ []))) (inner_of third.columns) ∷ [];
})
unfolding group_of without keyed_of inputs_of input_of relation_of keys_on key_on as_key type_of reference_of field_of refer column_at limited_op limited_row
cogroups = refl

-- `GROUP a ALL`
groups_all_rows : group_all_of known (codes "a") None ≡ Ok (record {
  op = p_group_all 0;
  columns = column (codes "group") k_chars ∷ a_field (Some (codes "a")) (k_bag (kinds_of (k_int ∷ k_chars ∷ []))) (inner_of first.columns) ∷ [];
})
unfolding group_all_of without relation_of limited_op limited_row
groups_all_rows = refl

-- `JOIN a BY k, b BY k`
joins_two : join_of known (by_key (codes "a") ∷ by_key (codes "b") ∷ []) side.Inner None ≡ Ok (record {
  op = p_join (record { input = 0; keys = x_field 0 ∷ []; inner = false } ∷ record { input = 0; keys = x_field 0 ∷ []; inner = false } ∷ []) side.Inner false;
  columns = column (codes "a::k") k_int ∷ column (codes "a::v") k_chars ∷ column (codes "b::k") k_int ∷ column (codes "b::v") k_chars ∷ [];
})
unfolding join_of joined_by sided keyed_of inputs_of input_of relation_of keys_on key_on as_key type_of reference_of field_of refer column_at limited_op limited_row
joins_two = refl

-- a side takes just two inputs
joins_three : join_of known (by_key (codes "a") ∷ by_key (codes "b") ∷ by_key (codes "c") ∷ []) side.Left None ≡ Err kind.Unsupported
unfolding join_of joined_by sided
joins_three = refl

-- `JOIN a BY k LEFT, b BY k USING 'replicated'`, and the same with RIGHT
replicates_left : joined_by side.Left (Some (codes "replicated")) ≡ Ok true
unfolding joined_by
replicates_left = refl

replicates_no_right : joined_by side.Right (Some (codes "replicated")) ≡ Err kind.Unsupported
unfolding joined_by
replicates_no_right = refl

-- the word is written in small letters
another_word : joined_by side.Inner (Some (codes "Replicated")) ≡ Err kind.Unsupported
unfolding joined_by
another_word = refl

-- ---- UNION

-- `UNION a, c`: the int column widens
unites : union_of known false (codes "a" ∷ codes "c" ∷ []) ≡ Ok (record {
  inputs = record { node = 0; widening = Some (record { steps = []; items = plain_item (x_cast k_long (x_field 0)) ∷ plain_item (x_field 1) ∷ [] }) }
      ∷ record { node = 2; widening = None } ∷ [];
  columns = column (codes "k") k_long ∷ column (codes "v") k_chars ∷ [];
})
unfolding union_of of_two relations_of relation_of agreed_union
unites = refl

unites_one : union_of known false (codes "a" ∷ []) ≡ Err kind.SchemaMismatch
unfolding union_of of_two
unites_one = refl
