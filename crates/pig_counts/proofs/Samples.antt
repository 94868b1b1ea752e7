-- What is due of small plans over one input, computed. The input stands in two splits of two lines each.
use Rattle.std.specs.Prelude.{◌≡◌, ℕ, Bool, true, false, List, [], ◌∷◌, codes, map, None, Some, refl}
use Rattle.pig_value.specs.declared.functions.Function.TheVariants as function
use Rattle.pig_value.specs.declared.inputs.Input.{Input}
use Rattle.pig_value.specs.declared.operators.Side.TheVariants as sides
use Rattle.pig_value.specs.Gathering.{Entry}
use Rattle.pig_value.specs.Trees.{v_chars}
use Rattle.pig_typed.specs.Typed.{Typed, TypedBlock, TypedItem, more_args, no_args, x_call, x_field}
use Rattle.pig_plan.specs.Plans.{Keyed, Plan, PlanNode, PlanOp, p_load, p_foreach, p_group, p_join, p_union, p_distinct, p_order, p_limit, p_store}
use Rattle.pig_counts.specs.Due.{count_due, entries_due}

-- ---- entries

abbrev entry : List ℕ → Entry
entry key = record { key = v_chars key; input = 0; row = v_chars key ∷ [] }

abbrev entries : List Entry
entries = map entry (codes "b" ∷ codes "a" ∷ codes "b" ∷ [])

each_counts : count_due None entries ≡ 3
each_counts = refl

keys_count : count_due (Some (λ key rows. key ∷ [])) entries ≡ 2
keys_count = refl

-- ---- plans

abbrev inputs : List Input
inputs = record { path = codes "in"; pieces = (97 ∷ 10 ∷ 98 ∷ 10 ∷ 97 ∷ 10 ∷ 98 ∷ 10 ∷ []) ∷ [] } ∷ []

abbrev node : PlanOp → PlanNode
node o = record { op = o; statement = 1 }

-- of rows without fields, which are all the same
abbrev load : PlanNode
load = node (p_load (codes "in") 9 [])

abbrev stored : ℕ → PlanNode
stored input = node (p_store input (codes "out") 9)

abbrev due_in : Plan → ℕ
due_in plan = entries_due (record { plan = plan; sizing = record { lengths = λ path. 8 ∷ []; reducers = 2; split = 4 } }) inputs []

-- each row, where nothing combines
order_counts_rows : due_in (load ∷ node (p_order 0 []) ∷ stored 1 ∷ []) ≡ 4
order_counts_rows = refl

-- of each split each row once, so that the splits have two
distinct_counts_by_splits : due_in (load ∷ node (p_distinct 0) ∷ stored 1 ∷ []) ≡ 2
distinct_counts_by_splits = refl

-- on two paths twice as many
each_path_counts : due_in (load ∷ node (p_union (0 ∷ 0 ∷ [])) ∷ node (p_distinct 1) ∷ stored 2 ∷ []) ≡ 4
each_path_counts = refl

-- a GROUP combines where it folds
abbrev first_of : ℕ → Keyed
first_of input = record { input = input; keys = x_field 0 ∷ []; inner = false }

abbrev by_first : PlanNode
by_first = node (p_group (first_of 0 ∷ []))

abbrev item : Typed → TypedItem
item value = record { value = value; flatten = false; width = 1 }

abbrev counting : TypedBlock
counting = record { steps = []; items = item (x_field 0) ∷ item (x_call function.Count (more_args (x_field 1) no_args)) ∷ [] }

group_counts_rows : due_in (load ∷ by_first ∷ stored 1 ∷ []) ≡ 4
group_counts_rows = refl

folding_group_counts_keys : due_in (load ∷ by_first ∷ node (p_foreach 1 counting) ∷ stored 2 ∷ []) ≡ 2
folding_group_counts_keys = refl

-- a JOIN counts the rows of both inputs, and a replicated one none
abbrev joined : Bool → Plan
joined replicated = load ∷ load ∷ node (p_join (first_of 0 ∷ first_of 1 ∷ []) sides.Inner replicated) ∷ stored 2 ∷ []

join_counts_rows : due_in (joined false) ≡ 8
join_counts_rows = refl

replicated_join_counts_nothing : due_in (joined true) ≡ 0
replicated_join_counts_nothing = refl

-- a LIMIT counts rows of each split, up to its count
limit_counts_by_splits : due_in (load ∷ node (p_limit 0 1) ∷ stored 1 ∷ []) ≡ 2
limit_counts_by_splits = refl

large_limit_counts_rows : due_in (load ∷ node (p_limit 0 9) ∷ stored 1 ∷ []) ≡ 4
large_limit_counts_rows = refl

-- a plan that only stores hands nothing on
stores_count_nothing : due_in (load ∷ stored 0 ∷ []) ≡ 0
stores_count_nothing = refl
