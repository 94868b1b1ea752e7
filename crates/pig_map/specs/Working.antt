-- A task's work by what it is of, and what a call leaves of the host and the stop that it is done with.
use Rattle.std.specs.Prelude.{◌≡◌, ℕ, List, Option, Result, IfOk, IfSome, IfNone}
use Rattle.std.specs.Option.{ForSome}
use Rattle.pig_value.specs.declared.inputs.Input.{Input}
use Rattle.pig_value.specs.Trees.{Tree}
use Rattle.pig_outside.specs.Faults.{HasCause}
use Rattle.pig_outside.specs.declared.faults.OutsideError.{OutsideError}
use Rattle.pig_physical.specs.Handed.{form_of, outs_of}
use Rattle.pig_physical.specs.Outs.{Form, Outs}
use Rattle.pig_physical.specs.Seen.{HasSource, map_task_of, staged}
use Rattle.pig_physical.specs.Stages.{MapTask, Stages}
use Rattle.pig_physical.specs.declared.outputs.Out.{Out}
use Rattle.pig_map.specs.Making.{HasRun}
use Rattle.pig_map.specs.declared.work.MapWork.{MapWork}

-- ---- work

abbrev pub stages_of : MapWork → Stages
stages_of work = staged work.stages.now

abbrev pub prior_of : MapWork → Outs
prior_of work = outs_of work.prior.now

abbrev pub task_of : MapWork → MapTask
task_of work = map_task_of (staged work.stages.now) work.task.now

-- where a host tells its inputs, the stages are cut by the lengths of those that the task reads
abbrev pub Suits : MapWork → Option (List Input) → Type 0
Suits work told = ForSome told (HasSource (stages_of work) (task_of work))

-- the task's rows, put through its path, became an output in such a form
abbrev pub HandsOn : MapWork → Option (List Input) → (List (List Tree) → Form → Type 0) → Out → Type 0
HandsOn work told takes out = HasRun (stages_of work) told (prior_of work) (task_of work) (λ rows. takes rows (form_of out.form)) out.lines out.unmet

-- ---- what a call leaves

-- A host that was read has its inputs and the attempts that it was told of, and has failed where this is the answer.
pub record LeavesHost {H I A T : Type 0} (inputs : H → I) (begun : H → A) (faults : H → ℕ) (old new : H) (result : Result T OutsideError) : Type 0 where
  pub same_inputs : inputs new ≡ inputs old
  pub same_begun : begun new ≡ begun old
  pub cause : HasCause (faults old) (faults new) result

-- A step of a task made what is asked, unless its stop told that the task is won; of its stop it changed nothing else.
pub record Leaves {H I A S K T : Type 0} (inputs : H → I) (begun : H → A) (faults : H → ℕ) (kept : S → K) (won : S → Type 0)
    (host host' : H) (stop stop' : S) (result : Result (Option T) OutsideError) (is_made : T → Type 0) : Type 0 where
  pub made : IfOk result (λ o. IfSome o is_made)
  pub stopped : IfOk result (λ o. IfNone o (won stop'))
  pub same_kept : kept stop' ≡ kept stop
  pub read : LeavesHost inputs begun faults host host' result
