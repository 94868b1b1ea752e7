-- What the plain answer makes of one node: its operator's rows in the order in which they come, before a bag is sorted.
use Rattle.std.specs.Prelude.{ℕ, List, [], map, take, Option, Some, None}
use Rattle.std.specs.List.{flat_map}
use Rattle.pig_value.specs.declared.inputs.Input.{Input}
use Rattle.pig_value.specs.Orders.{row_cmp}
use Rattle.pig_value.specs.Sorts.{distinct}
use Rattle.pig_value.specs.Valid.{AreRows}
use Rattle.pig_value.specs.Trees.{Tree}
use Rattle.pig_typed.specs.Blocks.{foreach_all}
use Rattle.pig_plan.specs.Operators.{filter_rows, group_all, group_rows, join_rows, load_rows, order_rows, rank_rows}
use Rattle.pig_plan.specs.Plans.{Plan, PlanOp, p_load, p_filter, p_foreach, p_group_all, p_group, p_join, p_union, p_distinct, p_order, p_limit, p_store, p_assert, p_rank}
use Rattle.pig_plan.specs.Results.{at_place}
use Rattle.pig_plain.specs.Coming.{coming, relation_rows, rows_standing}
use Rattle.pig_plain.specs.declared.relation.Relation.{Relation}
use Rattle.pig_plain.specs.declared.relation.Relation.TheVariants.{Standing}
use Rattle.pig_plain.specs.declared.walking.Walk.{Walk}

-- the rows as they come, on inputs, on nodes that are so wide, and on the rows of the nodes before
abbrev pub found_rows : List Input → (ℕ → ℕ) → PlanOp → (ℕ → List (List Tree)) → List (List Tree)
found_rows inputs width (p_load path delim columns) rows = load_rows inputs path delim columns
found_rows inputs width (p_filter input cond) rows = filter_rows cond (rows input)
found_rows inputs width (p_foreach input block) rows = foreach_all block (rows input)
found_rows inputs width (p_group_all input) rows = group_all (rows input)
found_rows inputs width (p_group keyed) rows = group_rows keyed rows
found_rows inputs width (p_join keyed side replicated) rows = join_rows side width keyed rows
found_rows inputs width (p_union numbers) rows = flat_map rows numbers
found_rows inputs width (p_distinct input) rows = distinct row_cmp (rows input)
found_rows inputs width (p_order input keys) rows = order_rows keys (rows input)
found_rows inputs width (p_limit input count) rows = take count (rows input)
found_rows inputs width (p_store input path delim) rows = rows input
found_rows inputs width (p_assert input cond message) rows = rows input
found_rows inputs width (p_rank input keys dense) rows = rank_rows keys dense (rows input)

-- no rows, as they stand
abbrev pub no_rows : Relation
no_rows = Standing []

-- the rows of each node before, and none of another
abbrev pub table_rows : List Relation → ℕ → List (List Tree)
table_rows table = at_place [] (map relation_rows table)

-- those of each node before that stand
abbrev pub standing_rows : List Relation → ℕ → List (List Tree)
standing_rows table = at_place [] (map rows_standing table)

-- the rows of a walk that was taken, or else those of a node that stand
abbrev pub taken_rows : Option Walk → List Relation → ℕ → List (List Tree)
taken_rows (Some walk) table k = coming walk
taken_rows None table k = standing_rows table k

-- all rows of nodes are of values
abbrev pub AreValues : List Relation → Type 0
AreValues table = (i : ℕ) → AreRows (table_rows table i)
