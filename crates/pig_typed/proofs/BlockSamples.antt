-- What blocks make of rows, and of which kinds these are, computed.
use Rattle.std.specs.Prelude.{◌≡◌, ℕ, pos, true, false, List, [], ◌∷◌, codes, Option, Some, None, refl}
use Rattle.pig_value.specs.Trees.{Tree, v_null, v_int, v_chars, v_bag, v_listed, tuples_of, KindTree, k_int, k_chars, k_bag, k_map, kinds_of}
use Rattle.pig_value.specs.declared.operators.Dir.TheVariants.{Asc, Desc}
use Rattle.pig_value.specs.declared.operators.Rel.TheVariants as rel
use Rattle.pig_typed.specs.declared.blocks.SortKey.{SortKey}
use Rattle.pig_typed.specs.Blocks.{foreach_rows, foreach_all, step_value}
use Rattle.pig_typed.specs.BlockKinds.{row_kinds}
use Rattle.pig_typed.specs.Typed.{Typed, x_int, x_field, x_local, x_compare, x_project, TypedStep, TypedItem, TypedBlock, s_filter, s_order, s_limit, s_distinct, s_take}

abbrev plain : Typed → TypedItem
plain e = record { value = e; flatten = false; width = 1 }

abbrev flat : ℕ → Typed → TypedItem
flat width e = record { value = e; flatten = true; width = width }

abbrev asc : ℕ → SortKey
asc position = record { position = position; dir = Asc }

abbrev desc : ℕ → SortKey
desc position = record { position = position; dir = Desc }

abbrev one : ℕ → List Tree
one n = v_int (pos n) ∷ []

-- `GENERATE k, FLATTEN(a), FLATTEN(b)` of `1 {(1),(2)} {(7)}`, `2 {} {(8)}` and `3 null {(9)}`
abbrev both_flat : TypedBlock
both_flat = record { steps = []; items = plain (x_field 0) ∷ flat 1 (x_field 1) ∷ flat 1 (x_field 2) ∷ [] }

abbrev ints : List ℕ → List (List Tree)
ints [] = []
ints (n ∷ ns) = one n ∷ ints ns

abbrev int_bag : List ℕ → Tree
int_bag ns = v_bag (tuples_of (ints ns))

flattened_bags : foreach_all both_flat (
    (v_int (pos 1) ∷ int_bag (1 ∷ 2 ∷ []) ∷ int_bag (7 ∷ []) ∷ []) ∷
    (v_int (pos 2) ∷ int_bag [] ∷ int_bag (8 ∷ []) ∷ []) ∷
    (v_int (pos 3) ∷ v_null ∷ int_bag (9 ∷ []) ∷ []) ∷ []) ≡
    (v_int (pos 1) ∷ v_int (pos 1) ∷ v_int (pos 7) ∷ []) ∷
    (v_int (pos 1) ∷ v_int (pos 2) ∷ v_int (pos 7) ∷ []) ∷
    (v_int (pos 3) ∷ v_null ∷ v_int (pos 9) ∷ []) ∷ []
flattened_bags = refl

-- the leftmost item varies slowest
slowest_first : foreach_rows (record { steps = []; items = flat 1 (x_field 0) ∷ flat 1 (x_field 1) ∷ [] }) (int_bag (1 ∷ 2 ∷ []) ∷ int_bag (7 ∷ 8 ∷ []) ∷ []) ≡
    (v_int (pos 1) ∷ v_int (pos 7) ∷ []) ∷ (v_int (pos 1) ∷ v_int (pos 8) ∷ []) ∷ (v_int (pos 2) ∷ v_int (pos 7) ∷ []) ∷ (v_int (pos 2) ∷ v_int (pos 8) ∷ []) ∷ []
slowest_first = refl

-- `o = ORDER a BY n; t = LIMIT o 1; GENERATE group, t, o.(n,s)` of `k {(k,1,y),(k,1,z),(k,2,b)}`
abbrev text : List ℕ → Tree
text bytes = v_chars bytes

abbrev noted : ℕ → List ℕ → List Tree
noted n s = text (codes "k") ∷ v_int (pos n) ∷ text s ∷ []

abbrev nested : TypedBlock
nested = record {
  steps = s_order (x_field 1) (asc 1 ∷ []) ∷ s_limit (x_local 0) 1 ∷ [];
  items = plain (x_field 0) ∷ plain (x_local 1) ∷ plain (x_project (x_local 0) (1 ∷ 2 ∷ []) false) ∷ [];
}

abbrev notes : Tree
notes = v_bag (tuples_of (noted 1 (codes "y") ∷ noted 1 (codes "z") ∷ noted 2 (codes "b") ∷ []))

nested_order : foreach_rows nested (text (codes "k") ∷ notes ∷ []) ≡
    (text (codes "k") ∷ v_listed (tuples_of (noted 1 (codes "y") ∷ [])) ∷
    v_listed (tuples_of ((v_int (pos 1) ∷ text (codes "y") ∷ []) ∷ (v_int (pos 1) ∷ text (codes "z") ∷ []) ∷ (v_int (pos 2) ∷ text (codes "b") ∷ []) ∷ [])) ∷ []) ∷ []
nested_order = refl

nested_kinds : row_kinds nested (k_chars ∷ k_bag (kinds_of (k_chars ∷ k_int ∷ k_chars ∷ [])) ∷ []) ≡
    Some (k_chars ∷ k_bag (kinds_of (k_chars ∷ k_int ∷ k_chars ∷ [])) ∷ k_bag (kinds_of (k_int ∷ k_chars ∷ [])) ∷ [])
nested_kinds = refl

-- descending, and equal keys by the whole row, ascending
descends : step_value (s_order (x_field 0) (desc 0 ∷ [])) (v_bag (tuples_of (
    (v_int (pos 1) ∷ v_int (pos 9) ∷ []) ∷ (v_int (pos 2) ∷ v_int (pos 3) ∷ []) ∷ (v_int (pos 2) ∷ v_int (pos 4) ∷ []) ∷ [])) ∷ []) [] ≡
    v_listed (tuples_of ((v_int (pos 2) ∷ v_int (pos 3) ∷ []) ∷ (v_int (pos 2) ∷ v_int (pos 4) ∷ []) ∷ (v_int (pos 1) ∷ v_int (pos 9) ∷ []) ∷ []))
descends = refl

-- FILTER keeps the order and the form, and drops what is null
abbrev above_one : Typed
above_one = x_compare rel.Gt (x_field 0) (x_int (pos 1))

filters_listed : step_value (s_filter (x_field 0) above_one) (v_listed (tuples_of (one 3 ∷ one 1 ∷ (v_null ∷ []) ∷ one 2 ∷ [])) ∷ []) [] ≡ v_listed (tuples_of (one 3 ∷ one 2 ∷ []))
filters_listed = refl

filters_bag : step_value (s_filter (x_field 0) above_one) (int_bag (1 ∷ 2 ∷ 3 ∷ []) ∷ []) [] ≡ int_bag (2 ∷ 3 ∷ [])
filters_bag = refl

-- DISTINCT gives a bag, also of a listed one
distinct_bag : step_value (s_distinct (x_field 0)) (v_listed (tuples_of (one 3 ∷ one 1 ∷ one 3 ∷ [])) ∷ []) [] ≡ int_bag (1 ∷ 3 ∷ [])
distinct_bag = refl

-- a step on a null bag gives null
null_bags : step_value (s_distinct (x_field 0)) (v_null ∷ []) [] ≡ v_null
null_bags = refl

-- FLATTEN of a map and a sort key that is a bag have no kinds, and the width is the number of fields
no_flat_map : row_kinds (record { steps = []; items = flat 1 (x_field 0) ∷ [] }) (k_map k_int ∷ []) ≡ None
no_flat_map = refl

no_bag_key : row_kinds (record { steps = s_order (x_field 0) (asc 0 ∷ []) ∷ []; items = plain (x_local 0) ∷ [] }) (k_bag (kinds_of (k_bag (kinds_of []) ∷ [])) ∷ []) ≡ None
no_bag_key = refl

no_other_width : row_kinds (record { steps = []; items = flat 2 (x_field 0) ∷ [] }) (k_bag (kinds_of (k_int ∷ [])) ∷ []) ≡ None
no_other_width = refl
