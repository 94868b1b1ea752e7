-- What is due of the words and the shelf, stage by stage in the order of the refusals, and what the depot is asked for it.
use Rattle.std.specs.Prelude.{◌≡◌, ◌<◌, ◌≤◌, ◌+◌, ℕ, zero, suc, Bool, true, false, List, [], ◌∷◌, ◌++◌, length, map, Option, Some, None, is_none, unwrap_or, if◌then◌else◌}
use Rattle.std.specs.List.{find, sum_by}
use Rattle.pig_outside.specs.Calls.{DepotCall}
use Rattle.pig_outside.specs.declared.failing.Method.{Method}
use Rattle.pig_outside.specs.declared.failing.Method.TheVariants as method
use Rattle.pig_outside.specs.Shelf.{Shelf, script_of, lengths_at, pieces_of, has_dir}
use Rattle.pig_plan.specs.Plans.{Plan}
use Rattle.pig_reach.specs.Reach.{live_paths, dirs_of}
use Rattle.pig_physical.specs.Seen.{lengths_in}
use Rattle.pig_physical.specs.Stages.{Stages, stores}
use Rattle.pig_physical.specs.declared.staged.Size.{Size}
use Rattle.pig_cutter.specs.Limits.{has_too_many}
use Rattle.pig_rewrites.specs.Reached.{IsReached}
use Rattle.pig_explain.specs.Explained.{explain_text}
use Rattle.pig_collect.specs.Collecting.{part_count}
use Rattle.pig_params.specs.Given.{named_of}
use Rattle.pig_params.specs.Substitution.{Named}
use Rattle.pig_words.specs.CommandWords.{IsCommand}
use Rattle.pig_words.specs.declared.words.Command.{Command}
use Rattle.pig_words.specs.declared.words.Verb.{Verb}
use Rattle.pig_words.specs.declared.words.Verb.TheVariants as verbs
use Rattle.pig_run.specs.declared.outcome.TooLarge.TheVariants as large
use Rattle.pig_run.specs.Limits.{most_input, most_script}
use Rattle.pig_run.specs.Reading.{Faulty, IsFound, Prints, Refuses, Run, Runs, Typed, Verdict, Wants}
use Rattle.pig_run.specs.Refusals.{Refusal, no_command, no_input, no_script, output_there, too_large}
use Rattle.pig_run.specs.Texts.{ok_text}

-- ---- words

-- the words of a command line, and the number of hosts that there are
pub record Line : Type 0 where
  pub hosts : ℕ
  pub words : List (List ℕ)

-- the verbs whose operand is the path of a script
abbrev pub NamesScript : Verb → Type 0
NamesScript verbs.Run = Unit {0}
NamesScript verbs.Explain = Unit {0}
NamesScript verbs.Check = Unit {0}
NamesScript verbs.Demo = ⊥

-- the words are a command
abbrev pub HasWords : Line → Type 0
HasWords line = (command : Command) × IsCommand line.hosts line.words command

-- they are this command, which names a script
pub record AreWords (line : Line) (command : Command) : Type 0 where
  pub is : IsCommand line.hosts line.words command
  pub scripted : NamesScript command.verb

-- or they are this command, of a demonstration
pub record IsDemo (line : Line) (command : Command) : Type 0 where
  pub is : IsCommand line.hosts line.words command
  pub demo : command.verb ≡ verbs.Demo

-- or they are none of a demonstration
abbrev pub IsNoDemo : Line → Type 0
IsNoDemo line = (command : Command) → ¬ IsDemo line command

-- ---- what the depot is asked

-- how many bytes are asked for at most: of a script one more than it may have
abbrev pub most_asked : Method → Option ℕ
most_asked method.Script = Some (most_script + 1)
most_asked m = None

abbrev pub call : Method → List ℕ → DepotCall
call m path = record { method = m; path = path; most = most_asked m }

-- a list up to and with the first member that is so, or all of it
abbrev pub through : {X : Type 0} → (X → Bool) → List X → List X
through is_so [] = []
through is_so (x ∷ xs) = x ∷ (if is_so x then [] else through is_so xs)

-- so many calls of one kind
abbrev pub calls : ℕ → DepotCall → List DepotCall
calls zero one = []
calls (suc n) one = one ∷ calls n one

-- the calls that make a directory with so many parts: it is made, each part is put, and it is marked
abbrev pub store_calls : List ℕ → ℕ → List DepotCall
store_calls dir parts = call method.Create dir ∷ (calls parts (call method.Put dir) ++ call method.Finish dir ∷ [])

-- so it is of directories in turn
abbrev pub making : List (List ℕ) → List ℕ → List DepotCall
making (dir ∷ dirs) (parts ∷ counts) = store_calls dir parts ++ making dirs counts
making dirs counts = []

-- ---- what a plan is cut into

-- the inputs of a plan on the shelf, by their paths, with the lengths of their pieces
abbrev pub sizes_on : Shelf → Plan → List Size
sizes_on shelf plan = map (λ path. record { path = path; lengths = unwrap_or (lengths_at path shelf) [] }) (live_paths plan)

-- The stages that a plan is cut into, by the lengths of its inputs on the shelf, with as many reduce tasks of a wave and as many bytes of a
-- split as the command says.
abbrev pub stages_of : Command → Shelf → Plan → Stages
stages_of command shelf cut = record {
  plan = cut;
  sizing = record { lengths = lengths_in (sizes_on shelf cut); reducers = command.reducers; split = command.split };
}

-- the run of a plan by the stages of the one that it was rewritten to
abbrev pub run_of : Command → Shelf → Plan → Plan → Run
run_of command shelf plan cut = record { plan = plan; stages = stages_of command shelf cut; limit = command.attempts }

-- each STORE has a part for each of its tasks
abbrev pub making_of : Run → List DepotCall
making_of run = making (dirs_of run.plan) (map (part_count run.stages) (stores run.stages.plan))

-- ---- the stages: each says what was asked from it on, and what is due

abbrev pub Stage : Type 1
Stage = List DepotCall → Verdict → Type 0

-- Look-ups in turn. The first that is so is refused; where none is so, the next stage is due.
pub data Looks (is_so : List ℕ → Bool) (refusal : List ℕ → Refusal) (m : Method) (paths : List (List ℕ)) (next : Stage) : List DepotCall → Verdict → Type 0 where
  stopped : {path : List ℕ} → find is_so paths ≡ Some path → Looks is_so refusal m paths next (map (call m) (through is_so paths)) (Refuses (refusal path))
  passed : {asked : List DepotCall} {verdict : Verdict} → find is_so paths ≡ None → next asked verdict
      → Looks is_so refusal m paths next (map (call m) paths ++ asked) verdict

-- the run, which makes the directory of each STORE in turn
pub data RunDue (run : Run) : List DepotCall → Verdict → Type 0 where
  runs : RunDue run (making_of run) (Runs run)

-- the plan is rewritten, and no wave of it has more tasks than the limit; unless memory is wanting for the plan that is cut
pub data TasksDue (command : Command) (shelf : Shelf) (plan : Plan) : List DepotCall → Verdict → Type 0 where
  too_many : {cut : Plan} → IsReached plan cut → has_too_many (stages_of command shelf cut) ≡ true → TasksDue command shelf plan [] (Refuses (too_large large.Tasks))
  few : {cut : Plan} {asked : List DepotCall} {verdict : Verdict} → IsReached plan cut → has_too_many (stages_of command shelf cut) ≡ false
      → RunDue (run_of command shelf plan cut) asked verdict → TasksDue command shelf plan asked verdict
  unreached : TasksDue command shelf plan [] Wants

-- a directory of a STORE may be there already
abbrev pub OutputsDue : Command → Shelf → Plan → Stage
OutputsDue command shelf plan = Looks (λ dir. has_dir dir shelf) output_there method.Exists (dirs_of plan) (TasksDue command shelf plan)

-- the number of bytes of an input
abbrev pub size_of : Shelf → List ℕ → ℕ
size_of shelf path = sum_by length (unwrap_or (pieces_of path shelf.inputs) [])

-- the inputs are not too long in all
pub data SizeDue (command : Command) (shelf : Shelf) (plan : Plan) : List DepotCall → Verdict → Type 0 where
  too_big : most_input < sum_by (size_of shelf) (live_paths plan) → SizeDue command shelf plan [] (Refuses (too_large large.Input))
  small : {asked : List DepotCall} {verdict : Verdict} → sum_by (size_of shelf) (live_paths plan) ≤ most_input
      → OutputsDue command shelf plan asked verdict → SizeDue command shelf plan asked verdict

abbrev pub is_missing : Shelf → List ℕ → Bool
is_missing shelf path = is_none (pieces_of path shelf.inputs)

-- an input may be missing
abbrev pub InputsDue : Command → Shelf → Plan → Stage
InputsDue command shelf plan = Looks (is_missing shelf) no_input method.Pieces (live_paths plan) (SizeDue command shelf plan)

-- what is due of so many statements and their plan
abbrev pub PlanStage : Type 1
PlanStage = ℕ → Plan → Stage

-- the command goes on from a plan: `run` runs it, `explain` prints it as it was checked and as it was rewritten, with its waves, and `check`
-- prints how many statements have it
pub data CommandDue (command : Command) (shelf : Shelf) (statements : ℕ) (plan : Plan) : List DepotCall → Verdict → Type 0 where
  run_due : {asked : List DepotCall} {verdict : Verdict} → command.verb ≡ verbs.Run
      → InputsDue command shelf plan asked verdict → CommandDue command shelf statements plan asked verdict
  explain_due : {cut : Plan} → command.verb ≡ verbs.Explain → IsReached plan cut → CommandDue command shelf statements plan [] (Prints (explain_text plan cut))
  explain_wants : command.verb ≡ verbs.Explain → CommandDue command shelf statements plan [] Wants
  check_due : command.verb ≡ verbs.Check → CommandDue command shelf statements plan [] (Prints (ok_text statements))

-- the parameters of a command, by their names
abbrev pub given_by : Command → List Named
given_by command = map named_of command.params

-- the depot has the script, and with the given parameters it is found to be a plan, behind which the next stage is due
pub data ScriptDue (given : List Named) (path : List ℕ) (shelf : Shelf) (next : PlanStage) : List DepotCall → Verdict → Type 0 where
  script_missing : script_of path shelf ≡ None → ScriptDue given path shelf next (call method.Script path ∷ []) (Refuses no_script)
  script_refused : {script : List ℕ} {refusal : Refusal} → script_of path shelf ≡ Some script → IsFound given script (Faulty refusal)
      → ScriptDue given path shelf next (call method.Script path ∷ []) (Refuses refusal)
  script_found : {script : List ℕ} {n : ℕ} {plan : Plan} {asked : List DepotCall} {verdict : Verdict} → script_of path shelf ≡ Some script
      → IsFound given script (Typed n plan) → next n plan asked verdict → ScriptDue given path shelf next (call method.Script path ∷ asked) verdict

-- What is due of words that are no demonstration, and all that the depot is asked before it is done.
pub data IsDue (line : Line) (shelf : Shelf) : List DepotCall → Verdict → Type 0 where
  no_words : ¬ HasWords line → IsDue line shelf [] (Refuses no_command)
  with_words : {command : Command} {asked : List DepotCall} {verdict : Verdict} → AreWords line command
      → ScriptDue (given_by command) command.operand shelf (CommandDue command shelf) asked verdict → IsDue line shelf asked verdict
