-- What a task has made of the rows of its part, whatever its host told.
use Rattle.std.specs.Prelude.{◌≡◌, ℕ, zero, suc, true, List, [], length, map, take, Option, Some, None}
use Rattle.std.specs.Ordering.{nat_cmp}
use Rattle.pig_value.specs.declared.inputs.Column.{Column}
use Rattle.pig_value.specs.declared.inputs.Input.{Input}
use Rattle.pig_value.specs.Sorts.{sort}
use Rattle.pig_value.specs.Texts.{rows_text}
use Rattle.pig_value.specs.Trees.{Tree}
use Rattle.pig_outside.specs.declared.faults.AttemptFault.{AttemptFault}
use Rattle.pig_outside.specs.declared.faults.AttemptFault.TheVariants as attempts
use Rattle.pig_outside.specs.declared.faults.OutsideError.{OutsideError}
use Rattle.pig_outside.specs.declared.faults.OutsideError.TheVariants as errors
use Rattle.pig_plan.specs.Asserts.{unmet_on}
use Rattle.pig_plan.specs.Entries.{entries_of}
use Rattle.pig_plan.specs.Nodes.{op_at}
use Rattle.pig_plan.specs.Operators.{pieces_of}
use Rattle.pig_plan.specs.Plans.{PlanOp, p_join, p_limit, p_load, p_store}
use Rattle.pig_plan.specs.Steps.{through}
use Rattle.pig_stream.specs.Driving.{IsAll}
use Rattle.pig_stream.specs.Ranges.{rows_of_lines}
use Rattle.pig_stream.specs.declared.steps.Steps.{Steps}
use Rattle.pig_physical.specs.Combining.{folds}
use Rattle.pig_physical.specs.Outs.{Form, Outs, TaskOut, o_bytes, o_rows, o_runs, rows_at}
use Rattle.pig_physical.specs.Seen.{Reads}
use Rattle.pig_physical.specs.Stages.{MapTask, Stages}
use Rattle.pig_physical.specs.Values.{AreAsBag, IsMapForm, handed_on, lines_of, probed_rows, runs_of, source_lines, source_rows, task_rows, task_unmet}
use Rattle.pig_physical.specs.declared.parts.Part.{Part}
use Rattle.pig_physical.specs.declared.parts.Part.TheVariants as parts
use Rattle.pig_map.specs.declared.attempt.Handing.{Handing}
use Rattle.pig_map.specs.declared.attempt.Handing.TheVariants as handings

-- the pieces of the input of a LOAD have the lengths by which the stages are cut
abbrev pub HasLengths : Stages → ℕ → List Input → Type 0
HasLengths s source inputs = (path : List ℕ) (delim : ℕ) (columns : List Column)
    → op_at s.plan source ≡ Some (p_load path delim columns) → map length (pieces_of inputs path) ≡ s.sizing.lengths path

-- a LOAD, by its parts
abbrev pub Loading : Type 0
Loading = List ℕ × (ℕ × List Column)

abbrev pub load_parts : List ℕ → ℕ → List Column → Loading
load_parts path delim columns = (path, (delim, columns))

abbrev pub load_of : PlanOp → Option Loading
load_of (p_load path delim columns) = Some (load_parts path delim columns)
load_of o = None

-- the rows that a part of a source may give, whatever a host tells: those of some lines, or those of an output
abbrev pub MayGive : Outs → Part → Option PlanOp → List (List Tree) → Type 0
MayGive outs part None rows = rows ≡ []
MayGive outs (parts.Output wave at) (Some o) rows = rows ≡ rows_at outs wave at
MayGive outs (parts.Split split) (Some (p_load path delim columns)) rows = (lines : List (List ℕ)) × (rows ≡ rows_of_lines columns delim lines)
MayGive outs (parts.Split split) (Some o) rows = rows ≡ []

-- rows that came of a part of a source, and of how many lines
pub record AreFrom (s : Stages) (told : Option (List Input)) (outs : Outs) (source : ℕ) (part : Part) (rows : List (List Tree)) (lines : ℕ) : Type 0 where
  pub rows_are : (inputs : List Input) → Reads told part inputs → rows ≡ source_rows s.plan inputs outs source part
  pub lines_are : (inputs : List Input) → Reads told part inputs → lines ≡ length (source_lines s.plan inputs source part)
  pub given : MayGive outs part (op_at s.plan source) rows

-- rows went through steps into what takes them
pub record HasTakenRows (rows : List (List Tree)) (steps done : Steps) (after : List (List Tree) → Type 0) : Type 0 where
  pub count : ℕ
  pub all : IsAll rows steps done after count

-- the rows of a part went through steps into what takes them
pub record HasTakenPart (s : Stages) (told : Option (List Input)) (outs : Outs) (source : ℕ) (part : Part)
    (steps done : Steps) (after : List (List Tree) → Type 0) (lines : ℕ) : Type 0 where
  pub rows : List (List Tree)
  pub count : ℕ
  pub all : IsAll rows steps done after count
  pub from : AreFrom s told outs source part rows lines

-- the rows of a task, put through its path, became what is asked; and the ASSERTs that they don't meet were told
pub record HasRun (s : Stages) (told : Option (List Input)) (outs : Outs) (t : MapTask)
    (after : List (List Tree) → Type 0) (lines : ℕ) (unmet : List ℕ) : Type 0 where
  pub rows : List (List Tree)
  pub from : AreFrom s told outs t.way.path.source t.part rows lines
  pub taken : after (through (folds s.plan) s.plan t.way.path.nodes rows)
  pub unmet_are : unmet ≡ sort nat_cmp (unmet_on (folds s.plan) s.plan t.way.path.nodes rows)

-- what a task of the input at a place hands on, by the node's operator, and what it then makes of rows
abbrev pub joined_handing : ℕ → Handing
joined_handing zero = handings.Joined
joined_handing (suc i) = handings.Copied

abbrev pub handing_of : PlanOp → ℕ → Handing
handing_of (p_limit input count) i = handings.First count
handing_of (p_store input path delim) i = handings.Text delim
handing_of (p_join inputs side true) i = joined_handing i
handing_of o i = handings.Runs

abbrev pub FormBy : Stages → Outs → ℕ → PlanOp → ℕ → List (List Tree) → Form → Handing → Type 0
FormBy s outs k o i rows form (handings.First count) = form ≡ o_rows (take count rows)
FormBy s outs k o i rows form (handings.Text delim) = form ≡ o_bytes (rows_text delim rows)
FormBy s outs k o i rows form handings.Runs = form ≡ o_runs (runs_of s.sizing.reducers None o (handed_on s.plan k o (entries_of o i rows)))
FormBy s outs k o i rows form handings.Copied = form ≡ o_rows rows
FormBy s outs k o i rows form handings.Joined = AreAsBag (probed_rows s outs k o rows) form

-- what rows must become in a task of a node
abbrev pub Becomes : Stages → Outs → MapTask → Form → List (List Tree) → Type 0
Becomes s outs t form rows = (o : PlanOp) → op_at s.plan t.node ≡ Some o → IsMapForm s None outs t.node o t.way.input rows form

-- a task has made this of rows of its part
abbrev pub HasMade : Stages → Option (List Input) → Outs → MapTask → TaskOut → Type 0
HasMade s told outs t out = HasRun s told outs t (Becomes s outs t out.form) out.lines out.unmet

-- a task's rows, in order
pub record ArePathRows (s : Stages) (inputs : List Input) (outs : Outs) (t : MapTask) (out : TaskOut) : Type 0 where
  pub form : out.form ≡ o_rows (task_rows s.plan inputs outs t)
  pub lines : out.lines ≡ length (lines_of s.plan inputs t)
  pub unmet : out.unmet ≡ task_unmet s.plan inputs outs t

-- why an attempt gave nothing, where a device did nothing
abbrev pub attempt_fault_of : OutsideError → AttemptFault
attempt_fault_of errors.Failed = attempts.Lost
attempt_fault_of errors.OutOfMemory = attempts.OutOfMemory
