-- Which waves sort: those of the map tasks of a node that does.
use Rattle.std.specs.Prelude.{◌≡◌, ℕ, Bool, true, false, List, slice_get}
use Rattle.std.specs.Option.{is_some, option_map_or}
use Rattle.pig_plan.specs.Entries.{sort_keys}
use Rattle.pig_plan.specs.Nodes.{op_at}
use Rattle.pig_plan.specs.Plans.{Plan, PlanOp}
use Rattle.pig_physical.specs.Outs.{TaskOut}
use Rattle.pig_physical.specs.Stages.{Stages, Task, t_map, t_rank, t_reduce, tasks_in}
use Rattle.pig_driver.specs.Slicing.{AreSliced}

abbrev pub op_sorts : PlanOp → Bool
op_sorts o = is_some (sort_keys o)

abbrev pub task_sorts : Plan → Task → Bool
task_sorts plan (t_map t) = option_map_or op_sorts (op_at plan t.node) false
task_sorts plan (t_reduce t) = false
task_sorts plan (t_rank t) = false

-- as its first task tells
abbrev pub wave_sorts : Stages → ℕ → Bool
wave_sorts s w = option_map_or (task_sorts s.plan) (slice_get (tasks_in s w) 0) false

-- what the outputs of a wave become: where it sorts, their runs are sliced; else they are as they were
abbrev pub BetweenBy : Bool → Stages → List TaskOut → List TaskOut → Type 0
BetweenBy true s olds news = AreSliced s.sizing.reducers olds news
BetweenBy false s olds news = news ≡ olds

abbrev pub AreBetween : Stages → ℕ → List TaskOut → List TaskOut → Type 0
AreBetween s w olds news = BetweenBy (wave_sorts s w) s olds news
