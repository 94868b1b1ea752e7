-- The kinds of the rows that a block makes; none where a step or an item stands on other kinds than it takes.
-- (Pig Latin Basics: "FOREACH", "Flatten Operator", "ORDER BY".)
use Rattle.std.specs.Prelude.{ℕ, Bool, true, false, not, ◌==◌, List, [], ◌∷◌, ◌++◌, length, Option, Some, None, slice_get, if◌then◌else◌}
use Rattle.std.specs.List.{list_all}
use Rattle.std.specs.Option.{option_map, option_map_or}
use Rattle.pig_value.specs.Kinds.{has_bag_or_map}
use Rattle.pig_value.specs.Trees.{KindTree, bag_kinds, k_boolean, k_tuple, k_bag, k_map, kinds_list, kinds_of}
use Rattle.pig_typed.specs.declared.blocks.SortKey.{SortKey}
use Rattle.pig_typed.specs.ExprKinds.{expr_kind}
use Rattle.pig_typed.specs.Typed.{Typed, TypedStep, TypedItem, TypedBlock, s_filter, s_order, s_limit, s_distinct, s_take}
use Rattle.pig_value.specs.Results.{◌>>=◌}

-- whether rows may be sorted by the field at a position
abbrev pub is_key : List KindTree → ℕ → Bool
is_key kinds position = option_map_or (λ k. not (has_bag_or_map k)) (slice_get kinds position) false

abbrev pub are_keys : List KindTree → List SortKey → Bool
are_keys kinds keys = list_all (λ key. is_key kinds key.position) keys

-- a kind, where that of a condition is boolean
abbrev pub if_boolean : KindTree → KindTree → Option KindTree
if_boolean k k_boolean = Some k
if_boolean k cond = None

-- the kinds of the rows of the bag that an expression gives
abbrev pub bag_rows : Typed → List KindTree → List KindTree → Option (List KindTree)
bag_rows from row locals = expr_kind from row locals >>= bag_kinds

-- a bag of such rows, where a condition on them is boolean
abbrev pub filtered_kind : Typed → List KindTree → Option KindTree
filtered_kind cond rows = expr_kind cond rows [] >>= if_boolean (k_bag (kinds_of rows))

abbrev pub sorted_kind : List SortKey → List KindTree → Option KindTree
sorted_kind keys rows = if are_keys rows keys then Some (k_bag (kinds_of rows)) else None

abbrev pub step_kind : TypedStep → List KindTree → List KindTree → Option KindTree
step_kind (s_filter from cond) row locals = bag_rows from row locals >>= filtered_kind cond
step_kind (s_order from keys) row locals = bag_rows from row locals >>= sorted_kind keys
step_kind (s_limit from count) row locals = option_map (λ rows. k_bag (kinds_of rows)) (bag_rows from row locals)
step_kind (s_distinct from) row locals = option_map (λ rows. k_bag (kinds_of rows)) (bag_rows from row locals)
step_kind (s_take from) row locals = option_map (λ rows. k_bag (kinds_of rows)) (bag_rows from row locals)

-- the kinds of the steps' values, behind those of earlier ones
abbrev pub steps_kinds : List TypedStep → List KindTree → List KindTree → Option (List KindTree)
steps_kinds [] row locals = Some locals
steps_kinds (s ∷ steps) row locals = do
  k ← step_kind s row locals
  steps_kinds steps row (locals ++ k ∷ [])

-- the kinds of the fields that FLATTEN gives: of a map none
abbrev pub flattened_kinds : KindTree → Option (List KindTree)
flattened_kinds (k_tuple kinds) = Some (kinds_list kinds)
flattened_kinds (k_bag kinds) = Some (kinds_list kinds)
flattened_kinds (k_map k) = None
flattened_kinds k = Some (k ∷ [])

abbrev pub given_kinds : Bool → KindTree → Option (List KindTree)
given_kinds flatten k = if flatten then flattened_kinds k else Some (k ∷ [])

-- these kinds, where they are as many as the width says
abbrev pub of_width : ℕ → List KindTree → Option (List KindTree)
of_width width kinds = if length kinds == width then Some kinds else None

-- the kinds of the fields that an item gives, and items in turn
abbrev pub item_kinds : TypedItem → List KindTree → List KindTree → Option (List KindTree)
item_kinds item row locals = do
  k ← expr_kind item.value row locals
  kinds ← given_kinds item.flatten k
  of_width item.width kinds

abbrev pub items_kinds : List TypedItem → List KindTree → List KindTree → Option (List KindTree)
items_kinds [] row locals = Some []
items_kinds (item ∷ items) row locals = do
  kinds ← item_kinds item row locals
  more ← items_kinds items row locals
  Some (kinds ++ more)

abbrev pub row_kinds : TypedBlock → List KindTree → Option (List KindTree)
row_kinds block row = do
  locals ← steps_kinds block.steps row []
  items_kinds block.items row locals
