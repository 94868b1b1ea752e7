-- How many entries map tasks hand on, told by their rows alone.
-- (Building a High-Level Dataflow System on top of Map-Reduce: "Use of the combiner". That a LIMIT's rows count as entries, that those
-- of a replicated JOIN's tasks do not, and that each task counts by itself, are choices of this profile.)
use Rattle.std.specs.Prelude.{ℕ, true, List, length, map, min, Option, Some, None}
use Rattle.std.specs.List.{flat_map, range_with_len, sum_by}
use Rattle.std.specs.Option.{option_map_or}
use Rattle.pig_value.specs.declared.inputs.Input.{Input}
use Rattle.pig_value.specs.Gathering.{Entry}
use Rattle.pig_value.specs.Orders.{tree_cmp}
use Rattle.pig_value.specs.Sorts.{distinct}
use Rattle.pig_value.specs.Trees.{Tree}
use Rattle.pig_plan.specs.Entries.{entries_of}
use Rattle.pig_plan.specs.Nodes.{op_at}
use Rattle.pig_plan.specs.Plans.{PlanOp, p_join, p_limit, p_store}
use Rattle.pig_physical.specs.Combining.{combining}
use Rattle.pig_physical.specs.Outs.{Outs}
use Rattle.pig_physical.specs.Stages.{Stages, Task, heads, t_map, t_rank, t_reduce, tasks_in}
use Rattle.pig_physical.specs.Values.{task_rows}

-- of these entries: where the node combines, one for each distinct key; else each, which are as many as its rows (`EntriesCountRows`)
abbrev pub count_due : Option (Tree → List (List Tree) → List Tree) → List Entry → ℕ
count_due None entries = length entries
count_due (Some parts) entries = length (distinct tree_cmp (map (λ e. e.key) entries))

-- by a map task of a node with these rows of the input at a place: a LIMIT's hands on so many rows at most, a STORE's no entry, nor do
-- those that copy rows and that probe copies
abbrev pub due_of : Stages → ℕ → PlanOp → ℕ → List (List Tree) → ℕ
due_of s k (p_limit input count) i rows = min count (length rows)
due_of s k (p_store input path delim) i rows = 0
due_of s k (p_join inputs side true) i rows = 0
due_of s k o i rows = count_due (combining s.plan k o) (entries_of o i rows)

-- by a task, of the rows of its split or partition that come through its path
abbrev pub due_by : Stages → List Input → Outs → Task → ℕ
due_by s inputs outs (t_map t) =
    option_map_or (λ o. due_of s t.node o t.way.input (task_rows s.plan inputs outs t)) (op_at s.plan t.node) 0
due_by s inputs outs (t_reduce t) = 0
due_by s inputs outs (t_rank t) = 0

-- the tasks of all waves
abbrev pub all_tasks : Stages → List Task
all_tasks s = flat_map (tasks_in s) (range_with_len 0 (length (heads s.plan)))

-- by all tasks
abbrev pub entries_due : Stages → List Input → Outs → ℕ
entries_due s inputs outs = sum_by (due_by s inputs outs) (all_tasks s)
