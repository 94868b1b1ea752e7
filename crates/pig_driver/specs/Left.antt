-- What is left of the outputs of waves that ran. What tasks hand on goes as soon as no later wave looks at it: the runs of map tasks behind
-- their reduce wave, copies behind the wave that probes them, partitions behind their last use. How many lines each task read, and which
-- ASSERTs its rows don't meet, stays.
use Rattle.std.specs.Prelude.{◌≡◌, ◌≢◌, ◌<◌, ◌≤◌, ◌+◌, ◌-◌, ◌%◌, ◌^◌, ◌&&◌, ◌⊎◌, ℕ, Bool, true, false, List, [], ◌∷◌, ◌++◌, length, map, take, drop, Option, Some, None, slice_get, slice_set, if◌then◌else◌}
use Rattle.std.specs.Option.{option_map, option_map_or}
use Rattle.pig_plan.specs.Nodes.{is_live, op_at}
use Rattle.pig_plan.specs.Plans.{PlanOp, p_limit}
use Rattle.pig_plan.specs.Valid.{IsPlan}
use Rattle.pig_physical.specs.Outs.{Outs, TaskOut, o_bytes, outs_at}
use Rattle.pig_physical.specs.Running.{rows_given, store_wave}
use Rattle.pig_physical.specs.Stages.{MapTask, Stages, Task, enters_first, first_wave, heads, is_replicated, t_map, t_rank, t_reduce, tasks_in}
use Rattle.pig_physical.specs.declared.parts.Part.{Part}
use Rattle.pig_physical.specs.declared.parts.Part.TheVariants as parts
use Rattle.pig_physical.specs.declared.parts.ReduceTask.{ReduceTask}
use Rattle.pig_physical.specs.declared.waves.WaveKind.{WaveKind}
use Rattle.pig_physical.specs.declared.waves.WaveKind.TheVariants as kinds
use Rattle.pig_work.specs.Working.{Tellings}
use Rattle.pig_driver.specs.Going.{HasRunAll, HasRunTo}
use Rattle.pig_driver.specs.Handing.{entries_handed}

-- ---- who looks at outputs

-- the wave whose outputs a task names
abbrev pub part_wave : Part → Option ℕ
part_wave (parts.Split split) = None
part_wave (parts.Output wave at) = Some wave

abbrev pub named_wave : Task → Option ℕ
named_wave (t_map t) = part_wave t.part
named_wave (t_reduce t) = Some t.wave
named_wave (t_rank t) = Some t.wave

-- a task that joins rows of the first input of a replicated JOIN with copies
abbrev pub probes : Stages → MapTask → Bool
probes s t = option_map_or is_replicated (op_at s.plan t.node) false && enters_first t

-- the wave of these copies
abbrev pub copies_of : Stages → Task → Option ℕ
copies_of s (t_map t) = if probes s t then Some (first_wave s.plan t.node) else None
copies_of s (t_reduce t) = None
copies_of s (t_rank t) = None

-- a task of the wave w names outputs of the wave v, or copies that these are
pub record IsNamedIn (s : Stages) (w v : ℕ) : Type 0 where
  pub at : ℕ
  pub task : Task
  pub stands : slice_get (tasks_in s w) at ≡ Some task
  pub names : (named_wave task ≡ Some v) ⊎ (copies_of s task ≡ Some v)

-- the wave w or a later one looks at outputs of the wave v
pub record IsNamedFrom (s : Stages) (w v : ℕ) : Type 0 where
  pub wave : ℕ
  pub later : w ≤ wave
  pub named : IsNamedIn s wave v

-- the reduce tasks of a LIMIT give these outputs, which are told when all waves have run
pub record IsChosen (s : Stages) (v : ℕ) : Type 0 where
  pub task : ReduceTask
  pub stands : slice_get (tasks_in s v) 0 ≡ Some (t_reduce task)
  pub input : ℕ
  pub count : ℕ
  pub is : op_at s.plan task.node ≡ Some (p_limit input count)

-- the last wave, as that of the STOREs
abbrev pub IsLast : Stages → ℕ → Type 0
IsLast s v = v + 1 ≡ length (heads s.plan)

-- ---- what is left

-- what stays of any output
abbrev pub note_in : TaskOut → ℕ × List ℕ
note_in out = (out.lines, out.unmet)

abbrev pub notes_in : Outs → List (List (ℕ × List ℕ))
notes_in = map (map note_in)

-- an output whose form has gone
abbrev pub bare : TaskOut → TaskOut
bare out = record out { form = o_bytes [] }

-- What is left of all outputs, where only the wave w and later ones are still to look at them.
pub record AreLeft (s : Stages) (whole left : Outs) (w : ℕ) : Type 0 where
  pub notes : notes_in left ≡ notes_in whole
  pub named : (v : ℕ) → IsNamedFrom s w v → outs_at left v ≡ outs_at whole v
  pub chosen : (v : ℕ) → IsChosen s v → outs_at left v ≡ outs_at whole v
  pub last : (v : ℕ) → IsLast s v → outs_at left v ≡ outs_at whole v

-- The first waves have run, as many as `ran`; what `next` and later ones look at is left of their outputs, and their map tasks handed
-- on so many entries.
pub record IsGoing (s : Stages) (tellings : Tellings) (left : Outs) (shuffled ran next : ℕ) : Type 0 where
  pub whole : Outs
  pub run : HasRunTo s tellings whole ran
  pub are : AreLeft s whole left next
  pub count : shuffled ≡ entries_handed s whole % 2 ^ 64

-- the same of all waves
pub record IsOver (s : Stages) (tellings : Tellings) (left : Outs) (shuffled : ℕ) : Type 0 where
  pub whole : Outs
  pub run : HasRunAll s tellings whole
  pub are : AreLeft s whole left (length (heads s.plan))
  pub count : shuffled ≡ entries_handed s whole % 2 ^ 64

-- What is looked at when all waves have run is left: the outputs of the wave of the STOREs, and the rows of each LIMIT.
pub record StillStands (s : Stages) (whole left : Outs) : Type 0 where
  pub size : length left ≡ length whole
  pub stores : outs_at left (store_wave s.plan) ≡ outs_at whole (store_wave s.plan)
  pub limits : (k input count : ℕ) → op_at s.plan k ≡ Some (p_limit input count) → is_live s.plan k ≡ true
      → rows_given s.plan left k (p_limit input count) ≡ rows_given s.plan whole k (p_limit input count)

abbrev pub WhatIsLeftStands : Type 0
WhatIsLeftStands = (s : Stages) → IsPlan s.plan → (whole left : Outs) → length whole ≡ length (heads s.plan)
    → AreLeft s whole left (length (heads s.plan)) → StillStands s whole left

-- ---- inside

-- the number at a place, if there is one, is no less
abbrev pub AtLeast : ℕ → ℕ → List ℕ → Type 0
AtLeast least at numbers = (found : ℕ) → slice_get numbers at ≡ Some found → least ≤ found

-- Of each wave the last one that looks at its outputs; the number of waves where these are looked at behind all waves.
pub record AreLastLooks (s : Stages) (lasts : List ℕ) : Type 0 where
  pub size : length lasts ≡ length (heads s.plan)
  pub named : (w v : ℕ) → IsNamedIn s w v → AtLeast w v lasts
  pub chosen : (v : ℕ) → IsChosen s v → AtLeast (length (heads s.plan)) v lasts
  pub last : (v : ℕ) → IsLast s v → AtLeast (length (heads s.plan)) v lasts

-- a wave looks at what its tasks name
abbrev pub set_look : Option ℕ → ℕ → List ℕ → List ℕ
set_look None w lasts = lasts
set_look (Some v) w lasts = slice_set lasts v w

abbrev pub looked : List Task → ℕ → List ℕ → List ℕ
looked [] w lasts = lasts
looked (task ∷ tasks) w lasts = looked tasks w (set_look (named_wave task) w lasts)

-- a wave of tasks that probe looks at the copies in the wave before it
abbrev pub copies_by : WaveKind → ℕ → Option ℕ
copies_by kinds.Probe w = Some (w - 1)
copies_by kind w = None

abbrev pub copies_in : Stages → ℕ → Option ℕ
copies_in s w = option_map_or (λ kind. copies_by kind w) (option_map (λ head. head.kind) (slice_get (heads s.plan) w)) None

-- the looks of the first waves are noted, and of all
abbrev pub HaveLooked : Stages → ℕ → List ℕ → Type 0
HaveLooked s n lasts = (w v : ℕ) → w < n → IsNamedIn s w v → AtLeast w v lasts

abbrev pub HaveAllLooked : Stages → List ℕ → Type 0
HaveAllLooked s lasts = HaveLooked s (length (heads s.plan)) lasts

-- the first waves whose outputs last are marked
pub record HaveMarked (s : Stages) (n : ℕ) (lasts : List ℕ) : Type 0 where
  pub chosen : (v : ℕ) → v < n → IsChosen s v → AtLeast (length (heads s.plan)) v lasts
  pub last : (v : ℕ) → v < n → IsLast s v → AtLeast (length (heads s.plan)) v lasts

abbrev pub limits : PlanOp → Bool
limits (p_limit input count) = true
limits o = false

-- the outputs of one wave without their forms
abbrev pub bared_at : ℕ → Outs → Outs
bared_at at outs = slice_set outs at (map bare (outs_at outs at))

abbrev pub bared_where : Bool → ℕ → Outs → Outs
bared_where true at outs = bared_at at outs
bared_where false at outs = outs

-- the first outputs of a wave
abbrev pub bared_first : ℕ → List TaskOut → List TaskOut
bared_first n outs = map bare (take n outs) ++ drop n outs

-- the outputs that the wave w is the last to look at have gone, and no other
pub record HaveGone (lasts : List ℕ) (w : ℕ) (old new : Outs) : Type 0 where
  pub notes : notes_in new ≡ notes_in old
  pub gone : (v : ℕ) → slice_get lasts v ≡ Some w → outs_at new v ≡ map bare (outs_at old v)
  pub stay : (v : ℕ) → slice_get lasts v ≢ Some w → outs_at new v ≡ outs_at old v
