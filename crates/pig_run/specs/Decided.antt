-- What words and a shelf decide. What is due rests besides on the plan that the checked one is rewritten to, and on memory for that plan, and on
-- nothing else.
use Rattle.std.specs.Prelude.{◌≡◌, ◌⊎◌, ◌++◌, ℕ, List, [], Some, if◌then◌else◌}
use Rattle.std.specs.List.{AllByRecursion}
use Rattle.pig_outside.specs.Calls.{DepotCall}
use Rattle.pig_outside.specs.declared.failing.Method.{Method}
use Rattle.pig_outside.specs.declared.failing.Method.TheVariants as method
use Rattle.pig_outside.specs.Shelf.{Shelf, script_of}
use Rattle.pig_plan.specs.Plans.{Plan}
use Rattle.pig_cutter.specs.Limits.{has_too_many}
use Rattle.pig_rewrites.specs.Reached.{IsReached}
use Rattle.pig_explain.specs.Explained.{explain_text}
use Rattle.pig_words.specs.declared.words.Command.{Command}
use Rattle.pig_words.specs.declared.words.Verb.{Verb}
use Rattle.pig_words.specs.declared.words.Verb.TheVariants as verbs
use Rattle.pig_run.specs.declared.outcome.TooLarge.TheVariants as large
use Rattle.pig_run.specs.Due.{AreWords, Line, Stage, given_by, making_of, run_of, stages_of}
use Rattle.pig_run.specs.Reading.{IsFound, Prints, Refuses, Runs, Typed, Verdict, Wants}
use Rattle.pig_run.specs.Refusals.{Refusal, too_large}
use Rattle.pig_run.specs.Texts.{ok_text}

-- What is decided: a refusal, or that the command of the words is done with what its script is found to be, so many statements and their plan.
pub data Decision (line : Line) (shelf : Shelf) : Type 0 where
  to_refuse : Refusal → Decision line shelf
  to_do : {command : Command} {script : List ℕ} {statements : ℕ} {plan : Plan} → AreWords line command → script_of command.operand shelf ≡ Some script
      → IsFound (given_by command) script (Typed statements plan) → Decision line shelf

-- ---- what is due of a decision

-- a verdict is that of a plan to which the checked one is rewritten, or memory was wanting for such a plan
abbrev pub RestsOn : Plan → (Plan → Verdict) → Verdict → Type 0
RestsOn plan due verdict = ((cut : Plan) × IsReached plan cut × (verdict ≡ due cut)) ⊎ (verdict ≡ Wants)

-- the verdict of a run by the plan that is cut
abbrev pub run_by : Command → Shelf → Plan → Plan → Verdict
run_by command shelf plan cut = if has_too_many (stages_of command shelf cut) then Refuses (too_large large.Tasks) else Runs (run_of command shelf plan cut)

-- that of an `explain`
abbrev pub explain_by : Plan → Plan → Verdict
explain_by plan cut = Prints (explain_text plan cut)

-- Of a `run` and an `explain` the verdict rests on the plan that is cut; of a `check` it is one text.
abbrev pub IsDueBy : Verb → Command → Shelf → ℕ → Plan → Verdict → Type 0
IsDueBy verbs.Run command shelf statements plan verdict = RestsOn plan (run_by command shelf plan) verdict
IsDueBy verbs.Explain command shelf statements plan verdict = RestsOn plan (explain_by plan) verdict
IsDueBy verbs.Check command shelf statements plan verdict = verdict ≡ Prints (ok_text statements)
IsDueBy verbs.Demo command shelf statements plan verdict = ⊥

-- a refusal is that verdict and no other
abbrev pub IsDueOf : (line : Line) (shelf : Shelf) → Decision line shelf → Verdict → Type 0
IsDueOf line shelf (to_refuse refusal) verdict = verdict ≡ Refuses refusal
IsDueOf line shelf (to_do {command} {statements = n} {plan = plan} words there found) verdict = IsDueBy command.verb command shelf n plan verdict

-- ---- what is asked of a depot

abbrev pub IsLook : Method → Type 0
IsLook method.Script = Unit {0}
IsLook method.Pieces = Unit {0}
IsLook method.Exists = Unit {0}
IsLook m = ⊥

-- a call that makes nothing
abbrev pub MakesNothing : DepotCall → Type 0
MakesNothing call = IsLook call.method

-- the calls that commit what is due
abbrev pub made_for : Verdict → List DepotCall
made_for (Runs run) = making_of run
made_for v = []

-- One thing is decided, and each verdict that is due is one of it; and up to the commits the same is asked, which makes nothing.
pub record IsDecided (line : Line) (shelf : Shelf) (stage : Stage) : Type 0 where
  pub decision : Decision line shelf
  pub looked : List DepotCall
  pub looks : AllByRecursion MakesNothing looked
  pub each : (calls : List DepotCall) (verdict : Verdict) → stage calls verdict → IsDueOf line shelf decision verdict × (calls ≡ looked ++ made_for verdict)
