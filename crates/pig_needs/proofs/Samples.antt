-- Needs of small plans, computed.
use Rattle.std.specs.Prelude.{◌≡◌, ◌+◌, ℕ, true, false, List, [], ◌∷◌, drop, get_or, refl}
use Rattle.pig_value.specs.declared.inputs.Column.{Column}
use Rattle.pig_value.specs.declared.functions.Function.{Function}
use Rattle.pig_value.specs.declared.functions.Function.TheVariants as function
use Rattle.pig_value.specs.declared.operators.Side.TheVariants as side
use Rattle.pig_value.specs.declared.values.Kind.TheVariants as kind
use Rattle.pig_typed.specs.Typed.{Typed, TypedItem, x_field, x_local, x_is_null, x_project, x_call, no_args, more_args, s_distinct}
use Rattle.pig_plan.specs.Nodes.{is_live}
use Rattle.pig_plan.specs.Plans.{Keyed, Plan, PlanNode, PlanOp, p_load, p_filter, p_foreach, p_group, p_join, p_store}
use Rattle.pig_needs.specs.declared.lists.Need.{Need}
use Rattle.pig_needs.specs.declared.lists.Part.TheVariants as part
use Rattle.pig_needs.specs.Needed.{column_marks, column_of, field, named_behind, or_first, part_at}

abbrev node : PlanOp → ℕ → PlanNode
node o statement = record { op = o; statement = statement }

abbrev column : ℕ → Column
column n = record { position = n; kind = kind.Int }

-- a LOAD of four columns
abbrev four : PlanOp
four = p_load (116 ∷ []) 9 (column 0 ∷ column 1 ∷ column 2 ∷ column 3 ∷ [])

abbrev by : ℕ → ℕ → Keyed
by input n = record { input = input; keys = x_field n ∷ []; inner = false }

abbrev of_one : Function → Typed → Typed
of_one f e = x_call f (more_args e no_args)

abbrev item : Typed → TypedItem
item e = record { value = e; flatten = false; width = 1 }

abbrev generate : List TypedItem → ℕ → PlanOp
generate items input = p_foreach input (record { steps = []; items = items })

-- what is needed of a node, where the nodes' rows are so many fields wide
abbrev needed : List ℕ → Plan → ℕ → List Need
needed widths plan k = or_first (named_behind (λ n. get_or widths n 0) (is_live plan) (k + 1) (drop (k + 1) plan) k)

-- `t` by its second column, and `GENERATE group, COUNT(t), SUM(t.d)`
abbrev counted : Plan
counted =
    node four 1 ∷ node (p_group (by 0 1 ∷ [])) 2
    ∷ node (generate (item (x_field 0) ∷ item (of_one function.Count (x_field 1)) ∷ item (of_one function.Sum (x_project (x_field 1) (3 ∷ []) true)) ∷ []) 1) 3
    ∷ node (p_store 2 (111 ∷ []) 9) 4 ∷ []

store_needs_all : needed (4 ∷ 2 ∷ 3 ∷ []) counted 2 ≡ field 0 ∷ field 1 ∷ field 2 ∷ []
store_needs_all = refl

group_is_looked_into : needed (4 ∷ 2 ∷ 3 ∷ []) counted 1 ≡ field 0 ∷ column_of 1 0 ∷ column_of 1 3 ∷ []
group_is_looked_into = refl

load_keeps_three : column_marks (needed (4 ∷ 2 ∷ 3 ∷ []) counted 0) 4 ≡ true ∷ true ∷ false ∷ true ∷ []
load_keeps_three = refl

-- `GENERATE SIZE(t)` of the groups: the key alone is needed
abbrev sized : Plan
sized = node four 1 ∷ node (p_group (by 0 2 ∷ [])) 2 ∷ node (generate (item (of_one function.Size (x_field 1)) ∷ []) 1) 3 ∷ node (p_store 2 (111 ∷ []) 9) 4 ∷ []

rows_alone : needed (4 ∷ 2 ∷ 1 ∷ []) sized 1 ≡ part_at 1 part.Rows ∷ []
rows_alone = refl

key_alone : needed (4 ∷ 2 ∷ 1 ∷ []) sized 0 ≡ field 2 ∷ []
key_alone = refl

-- an item that no one uses names nothing, and where nothing is named the first column stays
abbrev nothing_used : Plan
nothing_used = node four 1 ∷ node (generate (item (x_call function.ToTuple no_args) ∷ item (x_field 3) ∷ []) 0) 2 ∷ node (generate (item (x_field 0) ∷ []) 1) 3 ∷ node (p_store 2 (111 ∷ []) 9) 4 ∷ []

first_stays : needed (4 ∷ 2 ∷ 1 ∷ []) nothing_used 0 ≡ field 0 ∷ []
first_stays = refl

-- `GENERATE FLATTEN($2), $3`, of which the second field is used: the FLATTEN stays
abbrev flattened : Plan
flattened =
    node four 1 ∷ node (generate (record { value = x_field 2; flatten = true; width = 1 } ∷ item (x_field 3) ∷ item (x_field 1) ∷ []) 0) 2
    ∷ node (generate (item (x_field 1) ∷ []) 1) 3 ∷ node (p_store 2 (111 ∷ []) 9) 4 ∷ []

flatten_stays : needed (4 ∷ 3 ∷ 1 ∷ []) flattened 0 ≡ field 2 ∷ field 3 ∷ []
flatten_stays = refl

-- behind nested steps a bag is needed whole
abbrev stepped : Plan
stepped =
    node four 1 ∷ node (p_group (by 0 1 ∷ [])) 2
    ∷ node (p_foreach 1 (record { steps = s_distinct (x_project (x_field 1) (3 ∷ []) true) ∷ []; items = item (of_one function.Count (x_local 0)) ∷ [] })) 3
    ∷ node (p_store 2 (111 ∷ []) 9) 4 ∷ []

whole_bag : needed (4 ∷ 2 ∷ 1 ∷ []) stepped 1 ≡ field 1 ∷ []
whole_bag = refl

all_of_it : needed (4 ∷ 2 ∷ 1 ∷ []) stepped 0 ≡ field 1 ∷ field 0 ∷ field 2 ∷ field 3 ∷ []
all_of_it = refl

-- a JOIN by the second columns, of which the fourth of each input is used: the keys stay
abbrev joined : Plan
joined =
    node four 1 ∷ node four 2 ∷ node (p_join (by 0 1 ∷ by 1 1 ∷ []) side.Inner false) 3
    ∷ node (generate (item (x_field 3) ∷ item (x_is_null (x_field 7) false) ∷ []) 2) 4 ∷ node (p_store 3 (111 ∷ []) 9) 5 ∷ []

left_side : needed (4 ∷ 4 ∷ 8 ∷ 2 ∷ []) joined 0 ≡ field 1 ∷ field 3 ∷ []
left_side = refl

right_side : column_marks (needed (4 ∷ 4 ∷ 8 ∷ 2 ∷ []) joined 1) 4 ≡ false ∷ true ∷ false ∷ true ∷ []
right_side = refl

-- a FILTER names what its condition names, and a dead one nothing
abbrev tested : Plan
tested =
    node four 1 ∷ node (p_filter 0 (x_is_null (x_field 2) true)) 2 ∷ node (p_filter 0 (x_is_null (x_field 1) true)) 3
    ∷ node (generate (item (x_field 0) ∷ []) 1) 4 ∷ node (p_store 3 (111 ∷ []) 9) 5 ∷ []

condition_named : needed (4 ∷ 4 ∷ 4 ∷ 1 ∷ []) tested 0 ≡ field 0 ∷ field 2 ∷ []
condition_named = refl
