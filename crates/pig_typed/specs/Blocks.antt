-- What FOREACH makes of a row: the values of the nested steps, and the joinings of what the items give.
-- (Pig Latin Basics: "FOREACH", "Flatten Operator", "Nulls". What FLATTEN gives of a null, and that a nested LIMIT of a bag
-- takes the first tuples in the order of values, are choices of this profile.)
use Rattle.std.specs.Prelude.{ℕ, List, [], ◌∷◌, ◌++◌, map, take, replicate, if◌then◌else◌}
use Rattle.std.specs.List.{filter, flat_map}
use Rattle.std.specs.Ordering.{ordering_then}
use Rattle.std.specs.declared.cmp.Ordering.{Ordering}
use Rattle.pig_value.specs.Orders.{dir_cmp, row_cmp}
use Rattle.pig_value.specs.Sorts.{distinct, sort}
use Rattle.pig_value.specs.Trees.{at, Tree, v_null, v_tuple, v_bag, v_listed, fields_list, tuples_of, tuples_list}
use Rattle.pig_typed.specs.declared.blocks.SortKey.{SortKey}
use Rattle.pig_typed.specs.Evaluation.{ev, passes}
use Rattle.pig_typed.specs.Products.{product}
use Rattle.pig_typed.specs.Typed.{TypedStep, TypedItem, TypedBlock, s_filter, s_order, s_limit, s_distinct, s_take}

-- ---- steps

-- rows by their keys, each in its direction, and where these are equal by the order of rows
abbrev pub keys_cmp : List SortKey → List Tree → List Tree → Ordering
keys_cmp [] x y = row_cmp x y
keys_cmp (key ∷ keys) x y = ordering_then (dir_cmp key.dir (at key.position x) (at key.position y)) (keys_cmp keys x y)

-- a bag's rows put through a function, in the form that the bag has
abbrev pub on_rows : (List (List Tree) → List (List Tree)) → Tree → Tree
on_rows f (v_bag rs) = v_bag (tuples_of (f (tuples_list rs)))
on_rows f (v_listed rs) = v_listed (tuples_of (f (tuples_list rs)))
on_rows f v = v_null

-- the same, in a form of its own
abbrev pub from_rows : (List (List Tree) → Tree) → Tree → Tree
from_rows make (v_bag rs) = make (tuples_list rs)
from_rows make (v_listed rs) = make (tuples_list rs)
from_rows make v = v_null

-- the value of a step on the row and the values of the steps before it
abbrev pub step_value : TypedStep → List Tree → List Tree → Tree
step_value (s_filter from cond) row locals = on_rows (filter (passes cond)) (ev from row locals)
step_value (s_order from keys) row locals = from_rows (λ rows. v_listed (tuples_of (sort (keys_cmp keys) rows))) (ev from row locals)
step_value (s_limit from count) row locals = on_rows (take count) (ev from row locals)
step_value (s_distinct from) row locals = from_rows (λ rows. v_bag (tuples_of (distinct row_cmp rows))) (ev from row locals)
step_value (s_take from) row locals = ev from row locals

-- the values of the steps, behind those of earlier ones
abbrev pub steps_values : List TypedStep → List Tree → List Tree → List Tree
steps_values [] row locals = locals
steps_values (s ∷ steps) row locals = steps_values steps row (locals ++ step_value s row locals ∷ [])

-- ---- items

-- FLATTEN of a value: of a tuple its fields, of a bag each of its tuples, of a null as many nulls as it gives fields
abbrev pub flattened : ℕ → Tree → List (List Tree)
flattened width (v_tuple vs) = fields_list vs ∷ []
flattened width (v_bag rs) = tuples_list rs
flattened width (v_listed rs) = tuples_list rs
flattened width v_null = replicate width v_null ∷ []
flattened width v = (v ∷ []) ∷ []

abbrev pub item_lists : TypedItem → List Tree → List Tree → List (List Tree)
item_lists item row locals =
    let v = ev item.value row locals in
    if item.flatten then flattened item.width v else (v ∷ []) ∷ []

-- the rows that a block makes of a row, and of rows in turn
abbrev pub foreach_rows : TypedBlock → List Tree → List (List Tree)
foreach_rows block row =
    let locals = steps_values block.steps row [] in
    product (map (λ item. item_lists item row locals) block.items)

abbrev pub foreach_all : TypedBlock → List (List Tree) → List (List Tree)
foreach_all block rows = flat_map (foreach_rows block) rows
