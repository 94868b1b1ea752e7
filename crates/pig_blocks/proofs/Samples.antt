-- Blocks, computed.
use Rattle.std.specs.Prelude.{◌≡◌, ℕ, List, [], ◌∷◌, codes, Some, None, refl}
use Rattle.std.specs.declared.result.Result.TheVariants.{Ok, Err}
use Rattle.pig_value.specs.Trees.{k_int, k_chars, k_bag, kinds_of}
use Rattle.pig_value.specs.declared.operators.Dir.TheVariants as dir
use Rattle.pig_schema.specs.FieldTrees.{FieldTree, a_field, no_inner, inner_of}
use Rattle.pig_syntax.specs.declared.trees.BagRef.{BagRef}
use Rattle.pig_syntax.specs.declared.trees.FieldRef.TheVariants as ref
use Rattle.pig_syntax.specs.declared.trees.Nested.{Nested}
use Rattle.pig_syntax.specs.declared.trees.Nested.TheVariants as nested
use Rattle.pig_syntax.specs.declared.trees.OrderKeys.TheVariants as keys
use Rattle.pig_syntax.specs.declared.trees.Step.{Step}
use Rattle.pig_typed.specs.Typed.{s_limit, s_order, s_take, x_field, x_local}
use Rattle.pig_typing.specs.declared.faults.CheckKind.TheVariants as kind
use Rattle.pig_typing.specs.Columns.{column_at, refer}
use Rattle.pig_typing.specs.Reader.{field_of, reference_of, type_of}
use Rattle.pig_blocks.specs.Bags.{as_bag, bag_of}
use Rattle.pig_blocks.specs.SortKeys.{as_key, key_of, keys_of, sort_key, sorted_by}
use Rattle.pig_blocks.specs.Steps.{made_of, row_place, stepped, steps_of}

-- the fields `k` and `n` of a bag `a`, behind the field `group`
abbrev inner : List FieldTree
inner = a_field (Some (codes "k")) k_chars no_inner ∷ a_field (Some (codes "n")) k_int no_inner ∷ []

abbrev grouped : FieldTree
grouped = a_field (Some (codes "a")) (k_bag (kinds_of (k_chars ∷ k_int ∷ []))) (inner_of inner)

abbrev columns : List FieldTree
columns = a_field (Some (codes "group")) k_chars no_inner ∷ grouped ∷ []

abbrev named : List ℕ → BagRef
named name = record { field = ref.Name name; sel = None }

abbrev step_of : List ℕ → Nested → Step
step_of alias n = record { alias = alias; nested = n }

-- `o = ORDER a BY n DESC; a = LIMIT o 1; t = a;`: the last step means the nested alias
chains : steps_of (row_place columns)
    (step_of (codes "o") (nested.Order (named (codes "a")) (keys.Fields (record { field = ref.Name (codes "n"); dir = dir.Desc } ∷ [])))
    ∷ step_of (codes "a") (nested.Limit (named (codes "o")) 1) ∷ step_of (codes "t") (nested.Take (named (codes "a"))) ∷ [])
    ≡ Ok (stepped (s_order (x_field 1) (sort_key 1 dir.Desc ∷ []) ∷ s_limit (x_local 0) 1 ∷ s_take (x_local 1) ∷ [])
    (record {
      columns = columns;
      locals = (codes "o", grouped) ∷ (codes "a", a_field None (k_bag (kinds_of (k_chars ∷ k_int ∷ []))) (inner_of inner))
          ∷ (codes "t", a_field None (k_bag (kinds_of (k_chars ∷ k_int ∷ []))) (inner_of inner)) ∷ [];
    }))
unfolding steps_of made_of bag_of as_bag type_of reference_of field_of refer column_at sorted_by keys_of key_of as_key
chains = refl

-- a field that is no bag, a bag as a key, and no field at all
no_bag : made_of (row_place columns) (nested.Take (named (codes "group"))) ≡ Err kind.TypeMismatch
unfolding made_of bag_of as_bag type_of reference_of field_of refer column_at
no_bag = refl

no_key : sorted_by columns (keys.All dir.Asc) ≡ Err kind.BadKey
unfolding sorted_by keys_of key_of as_key refer column_at
no_key = refl

no_field : sorted_by [] (keys.All dir.Asc) ≡ Err kind.BadKey
unfolding sorted_by keys_of
no_field = refl
