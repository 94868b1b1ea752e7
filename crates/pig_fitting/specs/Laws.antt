-- That what right tasks hand on fits them, where their rows are of the kinds of their source.
use Rattle.std.specs.Prelude.{◌≡◌, ℕ, List, None, Some, map, slice_get}
use Rattle.pig_value.specs.declared.inputs.Column.{Column}
use Rattle.pig_value.specs.FieldRows.{row_of}
use Rattle.pig_value.specs.Kinds.{AreRowsOf}
use Rattle.pig_value.specs.Trees.{Tree}
use Rattle.pig_plan.specs.NodeKinds.{RowKinds}
use Rattle.pig_plan.specs.Nodes.{op_at}
use Rattle.pig_plan.specs.Plans.{Plan, PlanOp, p_load}
use Rattle.pig_plan.specs.Steps.{through}
use Rattle.pig_plan.specs.Valid.{IsPlan}
use Rattle.pig_rank.specs.Ranks.{AreBehindLongs}
use Rattle.pig_physical.specs.Combining.{folds}
use Rattle.pig_physical.specs.Fitting.{HasAll, HasCopies, HasPart, HasRows, HasWave, MapFits, brought_kinds, given_kinds}
use Rattle.pig_physical.specs.Outs.{Form, Outs, o_rows, outs_at, rows_at}
use Rattle.pig_physical.specs.Stages.{MapTask, Stages, t_map, t_rank, t_reduce, tasks_in}
use Rattle.pig_physical.specs.Values.{IsMapForm, IsReduceForm, rows_of_part}
use Rattle.pig_physical.specs.declared.parts.Part.TheVariants as parts
use Rattle.pig_physical.specs.declared.parts.ReduceTask.{ReduceTask}

-- rows of the kinds that a node hands on, where the plan gives them
abbrev pub AreGiven : Plan → ℕ → List (List Tree) → Type 0
AreGiven plan k rows = (kinds : RowKinds) → given_kinds plan k ≡ Some kinds → AreRowsOf rows kinds

-- the rows of a LOAD's lines, whatever these are
abbrev pub LoadFits : Type 0
LoadFits = (plan : Plan) → IsPlan plan → (k : ℕ) (path : List ℕ) (delim : ℕ) (columns : List Column)
    → op_at plan k ≡ Some (p_load path delim columns)
    → (lines : List (List ℕ)) → AreGiven plan k (map (row_of columns delim) lines)

-- the rows of the partition that a task reads
abbrev pub PartFits : Type 0
PartFits = (s : Stages) → IsPlan s.plan → (w at : ℕ) (t : MapTask) → slice_get (tasks_in s w) at ≡ Some (t_map t)
    → (outs : Outs) → HasPart s outs t.part
    → (wave part : ℕ) → t.part ≡ parts.Output wave part → AreGiven s.plan t.way.path.source (rows_at outs wave part)

-- what a task that goes a way makes of rows of its source; one that probes joins them with copies, which fit
abbrev pub MapFormFits : Type 0
MapFormFits = (s : Stages) → IsPlan s.plan → (w at : ℕ) (t : MapTask) → slice_get (tasks_in s w) at ≡ Some (t_map t)
    → (o : PlanOp) → op_at s.plan t.node ≡ Some o
    → (outs : Outs) → HasCopies s outs t
    → (rows : List (List Tree)) → AreGiven s.plan t.way.path.source rows
    → (form : Form) → IsMapForm s None outs t.node o t.way.input (through (folds s.plan) s.plan t.way.path.nodes rows) form
    → MapFits s t.node o t.way.input form

-- What a reduce task brings together of outputs that fit. Of a RANK it is no rows of the node yet, which the tasks of a further
-- wave give.
abbrev pub ReduceFormFits : Type 0
ReduceFormFits = (s : Stages) → IsPlan s.plan → (w at : ℕ) (t : ReduceTask) → slice_get (tasks_in s w) at ≡ Some (t_reduce t)
    → (o : PlanOp) → op_at s.plan t.node ≡ Some o
    → (outs : Outs) → HasWave s outs t
    → (form : Form) → IsReduceForm s t.node o (outs_at outs t.wave) t.part form → HasRows (brought_kinds s.plan t.node) form

-- the rows of the partition of a rank task, each behind a long, whichever
abbrev pub RankFormFits : Type 0
RankFormFits = (s : Stages) → IsPlan s.plan → (w at : ℕ) (t : ReduceTask) → slice_get (tasks_in s w) at ≡ Some (t_rank t)
    → (outs : Outs) → HasAll s outs t.wave
    → (made : List (List Tree)) → AreBehindLongs (rows_of_part (outs_at outs t.wave) t.part) made → HasRows (given_kinds s.plan t.node) (o_rows made)
