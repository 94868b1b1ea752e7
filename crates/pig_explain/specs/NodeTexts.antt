-- The texts of nodes: each names its inputs by the numbers that these are printed by.
use Rattle.std.specs.Prelude.{ℕ, List, [], ◌∷◌, ◌++◌, map, codes, decimal, if◌then◌else◌}
use Rattle.std.specs.List.{flat_map}
use Rattle.std.specs.Option.{option_map_or}
use Rattle.pig_value.specs.declared.operators.Side.{Side}
use Rattle.pig_value.specs.declared.operators.Side.TheVariants as side
use Rattle.pig_plan.specs.Nodes.{op_at}
use Rattle.pig_plan.specs.Plans.{Keyed, Plan, PlanOp, p_load, p_filter, p_foreach, p_group_all, p_group, p_join, p_union, p_distinct, p_order, p_limit, p_store, p_assert, p_rank}
use Rattle.pig_explain.specs.ExprTexts.{block_text, expr_text, sort_keys_text}
use Rattle.pig_explain.specs.Joins.{joined}
use Rattle.pig_explain.specs.KindTexts.{column_text}
use Rattle.pig_explain.specs.Numbered.{place}
use Rattle.pig_explain.specs.Quoting.{hex, quoted}

-- a node's number in the text, by the order of what is printed
abbrev pub number_text : List ℕ → ℕ → List ℕ
number_text order k = decimal (place order k)

-- an input behind a space
abbrev pub input_text : List ℕ → ℕ → List ℕ
input_text order k = codes " " ++ number_text order k

-- an input by key, with a mark where keys that it has no row of are left out
abbrev pub keyed_text : List ℕ → Keyed → List ℕ
keyed_text order i =
    number_text order i.input ++ codes " BY " ++ joined [] (codes ",") (map expr_text i.keys) ++ (if i.inner then codes " INNER" else [])

abbrev pub side_text : Side → List ℕ
side_text side.Inner = []
side_text side.Left = codes " LEFT"
side_text side.Right = codes " RIGHT"
side_text side.Full = codes " FULL"

-- inputs by key, the first behind `before`, with `side` behind it, and each further one behind a semicolon
abbrev pub inputs_text : List ℕ → List ℕ → List ℕ → List Keyed → List ℕ
inputs_text order before side [] = []
inputs_text order before side (i ∷ is) = before ++ keyed_text order i ++ side ++ inputs_text order (codes "; ") [] is

-- a word, a node that is its input, and what stands behind
abbrev pub on_input : List ℕ → List ℕ → ℕ → List ℕ → List ℕ
on_input word order input behind = word ++ number_text order input ++ behind

abbrev pub node_text : List ℕ → PlanOp → List ℕ
node_text order (p_load path delim columns) = codes "LOAD " ++ quoted path ++ codes " " ++ hex delim ++ joined (codes " ") (codes " ") (map column_text columns)
node_text order (p_filter input cond) = on_input (codes "FILTER ") order input (codes " " ++ expr_text cond)
node_text order (p_foreach input block) = on_input (codes "FOREACH ") order input (block_text block)
node_text order (p_group_all input) = on_input (codes "GROUP ") order input (codes " ALL")
node_text order (p_group inputs) = codes "GROUP" ++ inputs_text order (codes " ") [] inputs
node_text order (p_join inputs side replicated) =
    codes "JOIN" ++ inputs_text order (codes " ") (side_text side) inputs ++ (if replicated then codes " USING replicated" else [])
node_text order (p_union inputs) = codes "UNION" ++ flat_map (input_text order) inputs
node_text order (p_distinct input) = on_input (codes "DISTINCT ") order input []
node_text order (p_order input keys) = on_input (codes "ORDER ") order input (codes " " ++ sort_keys_text keys)
node_text order (p_limit input count) = on_input (codes "LIMIT ") order input (codes " " ++ decimal count)
node_text order (p_store input path delim) = on_input (codes "STORE ") order input (codes " " ++ quoted path ++ codes " " ++ hex delim)
node_text order (p_assert input cond message) = on_input (codes "ASSERT ") order input (codes " " ++ expr_text cond)
node_text order (p_rank input keys dense) =
    on_input (codes "RANK ") order input (codes " " ++ sort_keys_text keys ++ (if dense then codes " DENSE" else []))

-- the line of a node
abbrev pub op_line : List ℕ → ℕ → PlanOp → List ℕ
op_line order k o = number_text order k ++ codes " " ++ node_text order o ++ 10 ∷ []

abbrev pub node_line : Plan → List ℕ → ℕ → List ℕ
node_line plan order k = option_map_or (op_line order k) (op_at plan k) []

-- the nodes that are printed, a line for each
abbrev pub plan_text : Plan → List ℕ → List ℕ
plan_text plan order = flat_map (node_line plan order) order
