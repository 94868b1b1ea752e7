-- What a written type is: its kind, with the names of the fields inside it.
-- (Pig Latin Basics: "Data Types and More", "Schemas". That floating numbers and dates are left out is a choice of this profile.)
use Rattle.std.specs.Prelude.{ℕ, List, [], ◌∷◌, map, Option, Some, None}
use Rattle.std.specs.Option.{option_and_then, option_map}
use Rattle.pig_value.specs.Trees.{KindTree, KindTrees, k_boolean, k_int, k_long, k_chars, k_bytes, k_tuple, k_bag, k_map, kinds_of}
use Rattle.pig_schema.specs.FieldTrees.{FieldTree, a_field, no_inner, inner_of, tree_kind, tree_inner}
use Rattle.pig_syntax.specs.ExprTrees.{TypeForm, FieldForms, t_int, t_long, t_chars, t_bytes, t_boolean, t_float, t_tuple, t_bag, t_map, t_map_bare, no_fields, typed_field, bare_field}

abbrev pub scalar_column : KindTree → FieldTree
scalar_column k = a_field None k no_inner

abbrev pub of_fields : (KindTrees → KindTree) → List FieldTree → FieldTree
of_fields make inner = a_field None (make (kinds_of (map tree_kind inner))) (inner_of inner)

abbrev pub of_values : FieldTree → FieldTree
of_values c = a_field None (k_map (tree_kind c)) (tree_inner c)

-- the column with a name
abbrev pub with_name : List ℕ → FieldTree → FieldTree
with_name name c = a_field (Some name) (tree_kind c) (tree_inner c)

-- None exactly where a word for floating numbers or dates stands within. A field or a map's values without a type are bytearrays.
abbrev mutual
  pub written : TypeForm → Option FieldTree
  written t_int = Some (scalar_column k_int)
  written t_long = Some (scalar_column k_long)
  written t_chars = Some (scalar_column k_chars)
  written t_bytes = Some (scalar_column k_bytes)
  written t_boolean = Some (scalar_column k_boolean)
  written t_float = None
  written (t_tuple fields) = option_map (of_fields k_tuple) (written_fields fields)
  written (t_bag fields) = option_map (of_fields k_bag) (written_fields fields)
  written (t_map values) = option_map of_values (written values)
  written t_map_bare = Some (of_values (scalar_column k_bytes))

  pub written_fields : FieldForms → Option (List FieldTree)
  written_fields no_fields = Some []
  written_fields (typed_field name type fields) =
      option_and_then (λ c. option_map (λ inner. with_name name c ∷ inner) (written_fields fields)) (written type)
  written_fields (bare_field name fields) = option_map (λ inner. with_name name (scalar_column k_bytes) ∷ inner) (written_fields fields)

-- one field
abbrev pub written_field : List ℕ × Option TypeForm → Option FieldTree
written_field (name, Some type) = option_map (with_name name) (written type)
written_field (name, None) = Some (with_name name (scalar_column k_bytes))
