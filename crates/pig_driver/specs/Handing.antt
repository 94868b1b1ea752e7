-- How many entries map tasks handed on. (That a LIMIT's rows count as entries, and rows that a replicated JOIN copies and probes with
-- do not, are choices of this profile.)
use Rattle.std.specs.Prelude.{ℕ, List, [], ◌∷◌, ◌+◌, length, if◌then◌else◌}
use Rattle.std.specs.List.{sum_by}
use Rattle.std.specs.Option.{option_map_or}
use Rattle.pig_plan.specs.Nodes.{op_at}
use Rattle.pig_plan.specs.Plans.{Plan, PlanOp}
use Rattle.pig_physical.specs.Outs.{Form, Outs, TaskOut, o_bytes, o_rows, o_runs}
use Rattle.pig_physical.specs.Stages.{Stages, Task, is_replicated, t_map, t_rank, t_reduce, tasks_in}

-- the entries of a task's runs, or the rows of a LIMIT's task
abbrev pub entries_in : Form → ℕ
entries_in (o_rows rows) = length rows
entries_in (o_runs runs) = sum_by (λ run. length run.entries) runs
entries_in (o_bytes bytes) = 0

-- by a task of an operator that reads a way
abbrev pub handed_of : PlanOp → Form → ℕ
handed_of o form = if is_replicated o then 0 else entries_in form

abbrev pub handed_by : Plan → Task → TaskOut → ℕ
handed_by plan (t_map t) out = option_map_or (λ o. handed_of o out.form) (op_at plan t.node) 0
handed_by plan (t_reduce t) out = 0
handed_by plan (t_rank t) out = 0

abbrev pub handed_in : Plan → List Task → List TaskOut → ℕ
handed_in plan [] outs = 0
handed_in plan (task ∷ tasks) [] = 0
handed_in plan (task ∷ tasks) (out ∷ outs) = handed_by plan task out + handed_in plan tasks outs

-- of the waves from the number w on
abbrev pub handed_from : Stages → ℕ → Outs → ℕ
handed_from s w [] = 0
handed_from s w (out ∷ outs) = handed_in s.plan (tasks_in s w) out + handed_from s (w + 1) outs

-- the entries that map tasks handed on
abbrev pub entries_handed : Stages → Outs → ℕ
entries_handed s outs = handed_from s 0 outs
