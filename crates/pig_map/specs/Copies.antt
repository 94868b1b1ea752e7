-- What was copied of the further inputs of a replicated JOIN, and the sides that it is for the tasks that probe.
use Rattle.std.specs.Prelude.{◌≡◌, ◌<◌, ℕ, ◌==◌, ◌+◌, true, List, [], ◌∷◌, ◌++◌, length, Option, None, Some, slice_get, if◌then◌else◌}
use Rattle.pig_value.specs.declared.operators.Side.{Side}
use Rattle.pig_value.specs.declared.operators.Side.TheVariants as side
use Rattle.pig_value.specs.Orders.{bag_of}
use Rattle.pig_value.specs.Trees.{Tree}
use Rattle.pig_typed.specs.Typed.{Typed}
use Rattle.pig_plan.specs.Nodes.{is_live, op_at}
use Rattle.pig_plan.specs.Plans.{Keyed, PlanOp, p_join}
use Rattle.pig_replicated.specs.Joining.{sides_of}
use Rattle.pig_probe.specs.Probing.{SidesSeen, probed_by}
use Rattle.pig_physical.specs.Outs.{Outs, TaskOut, rows_in}
use Rattle.pig_physical.specs.Stages.{MapTask, Stages, Task, first_wave, heads, is_replicated, t_map, tasks_in}
use Rattle.pig_physical.specs.Values.{probed_rows}

-- nothing to be looked up
abbrev pub none_seen : SidesSeen
none_seen = ([], None)

-- inputs that are numbered by their places
abbrev pub numbered : ℕ → List Keyed → List Keyed
numbered i [] = []
numbered i (input ∷ inputs) = record { input = i; keys = input.keys; inner = input.inner } ∷ numbered (i + 1) inputs

-- the rows that a task handed on for the input at a place, and those of all tasks, one behind the other
abbrev pub rows_of_task : ℕ → Task → TaskOut → List (List Tree)
rows_of_task i (t_map t) out = if t.way.input == i then rows_in out.form else []
rows_of_task i task out = []

abbrev pub rows_for : ℕ → List Task → List TaskOut → List (List Tree)
rows_for i [] outs = []
rows_for i (task ∷ tasks) [] = []
rows_for i (task ∷ tasks) (out ∷ outs) = rows_of_task i task out ++ rows_for i tasks outs

-- so many nulls stand behind a row of the first of these inputs that is kept without a match
abbrev pub nulls_for : Side → (ℕ → ℕ) → List Keyed → Option ℕ
nulls_for side.Left width (first ∷ second ∷ []) = Some (width second.input)
nulls_for s width inputs = None

-- the sides of a JOIN with these inputs, where rows were handed on for each but the first
abbrev pub sides_by : Side → (ℕ → ℕ) → List Keyed → (ℕ → List (List Tree)) → SidesSeen
sides_by s width [] rows = none_seen
sides_by s width (first ∷ inputs) rows = (sides_of (numbered 1 inputs) rows, nulls_for s width (first ∷ inputs))

-- the wave copied the further inputs of a live replicated JOIN
pub record IsCopied (s : Stages) (k wave : ℕ) : Type 0 where
  pub op : PlanOp
  pub at : op_at s.plan k ≡ Some op
  pub live : is_live s.plan k ≡ true
  pub replicated : is_replicated op ≡ true
  pub first : wave ≡ first_wave s.plan k
  pub within : wave < length (heads s.plan)

-- the keys of the first input
abbrev pub first_keys : PlanOp → Option (List Typed)
first_keys (p_join (first ∷ inputs) side replicated) = Some first.keys
first_keys o = None

-- Whatever rows of the first input are joined with these sides, as a bag these are the JOIN of the rows and of what was copied.
abbrev pub AreSidesOf : Stages → Outs → ℕ → PlanOp → SidesSeen → Type 0
AreSidesOf s outs k o sides = (keys : List Typed) → first_keys o ≡ Some keys
    → (rows : List (List Tree)) → bag_of (probed_by sides keys rows) ≡ bag_of (probed_rows s outs k o rows)

-- the sides of a task, where it probes, and of all tasks of a wave
abbrev pub HasSides : Stages → Outs → MapTask → SidesSeen → Type 0
HasSides s outs t sides = (o : PlanOp) → op_at s.plan t.node ≡ Some o → is_replicated o ≡ true → t.way.input ≡ 0 → AreSidesOf s outs t.node o sides

abbrev pub AreSidesIn : Stages → Outs → ℕ → SidesSeen → Type 0
AreSidesIn s outs wave sides = (place : ℕ) (t : MapTask) → slice_get (tasks_in s wave) place ≡ Some (t_map t) → HasSides s outs t sides
