-- What stands, wave by wave, while the waves of stages are run, and what all of them give.
use Rattle.std.specs.Prelude.{◌≡◌, ◌<◌, ℕ, true, List, [], length, Some, slice_get}
use Rattle.std.specs.List.{AllByRecursion}
use Rattle.std.specs.Option.{ForSome}
use Rattle.pig_value.specs.declared.inputs.Input.{Input}
use Rattle.pig_value.specs.Elementwise.{Each}
use Rattle.pig_typed.specs.declared.blocks.SortKey.{SortKey}
use Rattle.pig_plan.specs.Entries.{dirs_of, sort_keys}
use Rattle.pig_plan.specs.Nodes.{is_live, op_at}
use Rattle.pig_plan.specs.Plans.{PlanOp}
use Rattle.pig_plan.specs.Results.{at_place}
use Rattle.pig_runs.specs.Cutting.{Point}
use Rattle.pig_physical.specs.Outs.{Outs, entries_held, outs_at}
use Rattle.pig_physical.specs.Running.{AreCuts, AreSizes, IsRun}
use Rattle.pig_physical.specs.Stages.{Stages, first_wave, heads, tasks_in}
use Rattle.pig_physical.specs.Values.{IsValue}
use Rattle.pig_board.specs.declared.end.TaskEnd.{TaskEnd}
use Rattle.pig_pool.specs.Wave.{IsWonWave}
use Rattle.pig_work.specs.Working.{Tellings}
use Rattle.pig_driver.specs.Standing.{AreStanding}

-- all hosts tell these inputs
abbrev pub AllTell : List Input → Tellings → Type 0
AllTell inputs tellings = AllByRecursion (λ told. told ≡ Some inputs) tellings

-- where a host tells its inputs, the stages are cut by the lengths of these
abbrev pub TellSizes : Stages → Tellings → Type 0
TellSizes s tellings = AllByRecursion (λ told. ForSome told (AreSizes s)) tellings

-- the outputs of the first waves are the values of their tasks; `points` has those that cut the runs of each wave
pub record AreValues (s : Stages) (inputs : List Input) (points : List (List Point)) (outs : Outs) (w : ℕ) : Type 0 where
  pub size : length points ≡ w
  pub values : (v : ℕ) → v < w → Each (IsValue s inputs (Some (at_place [] points v)) outs) (tasks_in s v) (outs_at outs v)
  pub cuts : (k : ℕ) (o : PlanOp) (keys : List SortKey)
      → op_at s.plan k ≡ Some o → is_live s.plan k ≡ true → sort_keys o ≡ Some keys → first_wave s.plan k < w
      → AreCuts s.sizing.reducers (dirs_of keys) (entries_held (outs_at outs (first_wave s.plan k)))
      (at_place [] points (first_wave s.plan k))

pub record HaveValues (s : Stages) (inputs : List Input) (outs : Outs) (w : ℕ) : Type 0 where
  pub points : List (List Point)
  pub are : AreValues s inputs points outs w

-- the outputs of the first waves stand and, where all hosts tell the inputs, are the values of their tasks
pub record HasRunTo (s : Stages) (tellings : Tellings) (outs : Outs) (w : ℕ) : Type 0 where
  pub size : length outs ≡ w
  pub standing : AreStanding s outs w
  pub values : (inputs : List Input) → AllTell inputs tellings → HaveValues s inputs outs w

-- the outputs are those of a run over these inputs
pub record IsSomeRun (s : Stages) (inputs : List Input) (outs : Outs) : Type 0 where
  pub points : ℕ → List Point
  pub run : IsRun s inputs points outs

-- all waves have run
pub record HasRunAll (s : Stages) (tellings : Tellings) (outs : Outs) : Type 0 where
  pub size : length outs ≡ length (heads s.plan)
  pub standing : AreStanding s outs (length (heads s.plan))
  pub runs : (inputs : List Input) → AllTell inputs tellings → IsSomeRun s inputs outs

-- each task of the first waves has one winner, which is one of its attempts
pub record AreWon (s : Stages) (ends : List (List TaskEnd)) (w : ℕ) : Type 0 where
  pub count : length ends ≡ w
  pub each : (v : ℕ) (end : List TaskEnd) → slice_get ends v ≡ Some end → IsWonWave (length (tasks_in s v)) end
