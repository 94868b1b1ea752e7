-- A wave of stages as work for hosts: what a right output of each task is, which hosts suit, and what has to stand before.
use Rattle.std.specs.Prelude.{◌≡◌, ◌<◌, ⊤, ℕ, List, Option, None, Some, length, slice_get}
use Rattle.std.specs.List.{AllByRecursion}
use Rattle.std.specs.Option.{ForSome}
use Rattle.pig_value.specs.declared.inputs.Input.{Input}
use Rattle.pig_physical.specs.Fitting.{Fits, HasNamed}
use Rattle.pig_physical.specs.Outs.{Outs, TaskOut}
use Rattle.pig_physical.specs.Seen.{HasSource, Reads}
use Rattle.pig_physical.specs.Stages.{MapTask, Stages, Task, heads, t_map, t_rank, t_reduce, tasks_in}
use Rattle.pig_physical.specs.Values.{IsValue}
use Rattle.pig_physical.specs.declared.parts.ReduceTask.{ReduceTask}
use Rattle.pig_rank.specs.declared.parts.Start.{Start}
use Rattle.pig_probe.specs.Probing.{SidesSeen}
use Rattle.pig_map.specs.Copies.{AreSidesIn}
use Rattle.pig_reduce.specs.Made.{IsStartIn}

-- what each of several hosts tells of its inputs, where it tells
abbrev pub Tellings : Type 0
Tellings = List (Option (List Input))

-- A task that reads a split makes a claim of the inputs that its host tells, any other task one of all inputs.
abbrev pub TaskReads : Task → List Input → Option (List Input) → Type 0
TaskReads (t_map t) inputs told = Reads told t.part inputs
TaskReads (t_reduce t) inputs told = ⊤
TaskReads (t_rank t) inputs told = ⊤

-- A right output fits its task, and is its value over inputs that all hosts tell, whichever of them made it.
pub record IsRight (s : Stages) (tellings : Tellings) (outs : Outs) (task : Task) (out : TaskOut) : Type 0 where
  pub fits : Fits s task out
  pub value : (inputs : List Input) → AllByRecursion (TaskReads task inputs) tellings → IsValue s inputs None outs task out

-- of the task at a place of a wave
abbrev pub IsRightAt : Stages → Tellings → Outs → ℕ → ℕ → TaskOut → Type 0
IsRightAt s tellings outs wave place out = (task : Task) → slice_get (tasks_in s wave) place ≡ Some task → IsRight s tellings outs task out

-- the pieces of the inputs that a wave's tasks read have the lengths by which stages are cut
abbrev pub HasSources : Stages → ℕ → List Input → Type 0
HasSources s wave inputs = (place : ℕ) (t : MapTask) → slice_get (tasks_in s wave) place ≡ Some (t_map t) → HasSource s t inputs

-- a host that tells this is one of the several, and has such inputs
pub record Suits (s : Stages) (tellings : Tellings) (wave : ℕ) (told : Option (List Input)) : Type 0 where
  pub place : ℕ
  pub stands : slice_get tellings place ≡ Some told
  pub sources : ForSome told (HasSources s wave)

-- the wave is one of the stages', and what its tasks name stands
pub record IsReady (s : Stages) (outs : Outs) (wave : ℕ) : Type 0 where
  pub within : wave < length (heads s.plan)
  pub named : (place : ℕ) (task : Task) → slice_get (tasks_in s wave) place ≡ Some task → HasNamed s outs task

-- what stands before each partition that a rank task of the wave reads: each has a start
abbrev pub AreStarts : Stages → Outs → ℕ → List Start → Type 0
AreStarts s outs wave starts = (place : ℕ) (t : ReduceTask) → slice_get (tasks_in s wave) place ≡ Some (t_rank t)
    → (t.part < length starts) × IsStartIn s.plan outs t starts

-- what the tasks of a wave share: starts of those that rank, and sides of those that probe
pub record IsShared (s : Stages) (outs : Outs) (wave : ℕ) (starts : List Start) (sides : SidesSeen) : Type 0 where
  pub starts_are : AreStarts s outs wave starts
  pub sides_are : AreSidesIn s outs wave sides
