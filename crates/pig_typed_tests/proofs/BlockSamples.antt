-- What blocks make of rows, computed: the steps and forms of FLATTEN that the samples beside the definitions leave out.
use Rattle.std.specs.Prelude.{◌≡◌, ℕ, pos, true, List, [], ◌∷◌, refl}
use Rattle.pig_value.specs.Trees.{Tree, v_null, v_int, v_tuple, v_bag, v_listed, fields_of, tuples_of}
use Rattle.pig_value.specs.declared.operators.Dir.TheVariants.{Asc}
use Rattle.pig_typed.specs.declared.blocks.SortKey.{SortKey}
use Rattle.pig_typed.specs.Blocks.{foreach_rows, step_value}
use Rattle.pig_typed.specs.Typed.{Typed, x_bool, x_field, x_project, TypedStep, TypedBlock, s_filter, s_order, s_limit, s_distinct, s_take}

abbrev one : ℕ → List Tree
one n = v_int (pos n) ∷ []

abbrev three : List (List Tree)
three = one 1 ∷ one 2 ∷ one 3 ∷ []

abbrev of_bag : TypedStep → Tree → Tree
of_bag step bag = step_value step (bag ∷ []) []

-- LIMIT keeps the form, and takes all where there are fewer
first_of_bag : of_bag (s_limit (x_field 0) 2) (v_bag (tuples_of three)) ≡ v_bag (tuples_of (one 1 ∷ one 2 ∷ []))
first_of_bag = refl

first_of_listed : of_bag (s_limit (x_field 0) 1) (v_listed (tuples_of (one 3 ∷ one 1 ∷ []))) ≡ v_listed (tuples_of (one 3 ∷ []))
first_of_listed = refl

no_more_than_all : of_bag (s_limit (x_field 0) 9) (v_bag (tuples_of three)) ≡ v_bag (tuples_of three)
no_more_than_all = refl

-- the bag alone stays as it is, in its form
taken : of_bag (s_take (x_field 0)) (v_listed (tuples_of (one 3 ∷ one 1 ∷ []))) ≡ v_listed (tuples_of (one 3 ∷ one 1 ∷ []))
taken = refl

taken_column : of_bag (s_take (x_project (x_field 0) (1 ∷ []) true)) (v_bag (tuples_of ((v_int (pos 1) ∷ v_int (pos 5) ∷ []) ∷ (v_int (pos 2) ∷ v_int (pos 4) ∷ []) ∷ []))) ≡ v_bag (tuples_of (one 4 ∷ one 5 ∷ []))
taken_column = refl

-- ORDER of a listed bag
sorted_anew : of_bag (s_order (x_field 0) (record { position = 0; dir = Asc } ∷ [])) (v_listed (tuples_of (one 3 ∷ one 1 ∷ []))) ≡ v_listed (tuples_of (one 1 ∷ one 3 ∷ []))
sorted_anew = refl

-- each step on a null bag gives null
abbrev keys : List SortKey
keys = record { position = 0; dir = Asc } ∷ []

no_filtered : of_bag (s_filter (x_field 0) (x_bool true)) v_null ≡ v_null
no_filtered = refl

no_sorted : of_bag (s_order (x_field 0) keys) v_null ≡ v_null
no_sorted = refl

no_first : of_bag (s_limit (x_field 0) 1) v_null ≡ v_null
no_first = refl

no_taken : of_bag (s_take (x_field 0)) v_null ≡ v_null
no_taken = refl

-- FLATTEN of a tuple, of a null of two fields, of a scalar and of an empty bag
abbrev flat : ℕ → TypedBlock
flat width = record { steps = []; items = record { value = x_field 0; flatten = true; width = width } ∷ [] }

of_tuple : foreach_rows (flat 2) (v_tuple (fields_of (v_int (pos 1) ∷ v_int (pos 2) ∷ [])) ∷ []) ≡ (v_int (pos 1) ∷ v_int (pos 2) ∷ []) ∷ []
of_tuple = refl

of_null : foreach_rows (flat 2) (v_null ∷ []) ≡ (v_null ∷ v_null ∷ []) ∷ []
of_null = refl

of_scalar : foreach_rows (flat 1) (v_int (pos 1) ∷ []) ≡ one 1 ∷ []
of_scalar = refl

of_empty : foreach_rows (flat 1) (v_bag (tuples_of []) ∷ []) ≡ []
of_empty = refl

-- the order of a listed bag stays
of_listed : foreach_rows (flat 1) (v_listed (tuples_of (one 3 ∷ one 1 ∷ [])) ∷ []) ≡ one 3 ∷ one 1 ∷ []
of_listed = refl
