-- What a task hands on fits it, whatever the host told: it has the form that the task has, as many runs as there are partitions, in
-- the node's directions, and keys and rows of the kinds that the plan gives. And which outputs have to stand for a task to be done.
use Rattle.std.specs.Prelude.{◌≡◌, ◌<◌, ℕ, zero, suc, true, List, [], ◌∷◌, length, Option, Some, None, slice_get, ◌⊎◌, ⊤}
use Rattle.std.specs.List.{AllByRecursion, filter_map}
use Rattle.std.specs.Option.{option_and_then, option_map, option_map_or}
use Rattle.pig_value.specs.declared.operators.Dir.{Dir}
use Rattle.pig_value.specs.Gathering.{Entry}
use Rattle.pig_value.specs.Kinds.{AreRowsOf, IsOf, IsRowOf}
use Rattle.pig_value.specs.Trees.{KindTree, Tree, k_chars, k_tuple, kinds_of}
use Rattle.pig_typed.specs.declared.blocks.SortKey.{SortKey}
use Rattle.pig_typed.specs.BlockKinds.{row_kinds}
use Rattle.pig_typed.specs.Typed.{TypedBlock}
use Rattle.pig_algebra.specs.Combining.{finished}
use Rattle.pig_algebra.specs.Cuts.{TypedCut, c_key, c_part, c_row, cuts_in}
use Rattle.pig_algebra.specs.Parts.{IsPart}
use Rattle.pig_plan.specs.Entries.{dirs_of, sort_key_of, sort_keys}
use Rattle.pig_plan.specs.NodeKinds.{RowKinds, group_kind, keyed_kinds, kinds_at}
use Rattle.pig_plan.specs.Nodes.{inputs_of, op_at}
use Rattle.pig_plan.specs.Plans.{Keyed, Plan, PlanOp, p_distinct, p_group, p_group_all, p_join, p_limit, p_order, p_rank, p_store}
use Rattle.pig_runs.specs.Entries.{InDirections}
use Rattle.pig_physical.specs.Combining.{folds}
use Rattle.pig_physical.specs.Outs.{Form, Outs, TaskOut, o_bytes, o_rows, o_runs, outs_at, runs_in}
use Rattle.pig_physical.specs.Stages.{MapTask, Stages, Task, first_wave, is_replicated, t_map, t_rank, t_reduce, tasks_in}
use Rattle.pig_physical.specs.Values.{key_row}
use Rattle.pig_physical.specs.declared.parts.Part.{Part}
use Rattle.pig_physical.specs.declared.parts.Part.TheVariants as parts
use Rattle.pig_physical.specs.declared.parts.ReduceTask.{ReduceTask}

-- the kinds of the rows that a node's reduce tasks give: of a GROUP that folds those of its FOREACH
abbrev pub given_kinds : Plan → ℕ → Option RowKinds
given_kinds plan k =
    option_map_or (λ block. option_and_then (row_kinds block) (kinds_at plan k)) (folds plan k) (kinds_at plan k)

-- the kinds of the rows that a node's reduce tasks bring together: of a RANK those of its input, which a further wave ranks
abbrev pub kinds_brought : Plan → ℕ → PlanOp → Option RowKinds
kinds_brought plan k (p_rank input keys dense) = kinds_at plan input
kinds_brought plan k o = given_kinds plan k

abbrev pub brought_kinds : Plan → ℕ → Option RowKinds
brought_kinds plan k = option_and_then (kinds_brought plan k) (op_at plan k)

-- ---- entries

-- the kind of the keys of an input by key
abbrev pub keyed_kind : Plan → List Keyed → ℕ → Option KindTree
keyed_kind plan inputs i =
    option_map (λ found. group_kind found.keys) (option_and_then (keyed_kinds (kinds_at plan)) (slice_get inputs i))

-- the kind of the fields that are sorted by, as a tuple
abbrev pub sorted_by_kind : List SortKey → RowKinds → KindTree
sorted_by_kind keys row = k_tuple (kinds_of (filter_map (λ key. slice_get row key.position) keys))

-- the kind of the keys under which an operator has the rows of the input at a place
abbrev pub key_kind_at : Plan → PlanOp → ℕ → Option KindTree
key_kind_at plan (p_group_all input) i = Some k_chars
key_kind_at plan (p_group inputs) i = keyed_kind plan inputs i
key_kind_at plan (p_join inputs side replicated) i = keyed_kind plan inputs i
key_kind_at plan (p_distinct input) i = option_map (λ row. k_tuple (kinds_of row)) (kinds_at plan input)
key_kind_at plan (p_order input keys) i = option_map (sorted_by_kind keys) (kinds_at plan input)
key_kind_at plan (p_rank input keys dense) i = option_map (sorted_by_kind keys) (kinds_at plan input)
key_kind_at plan o i = None

-- the values are parts of the functions of these cuts, in their order
abbrev pub ArePartsOf : List TypedCut → List Tree → Type 0
ArePartsOf [] [] = ⊤
ArePartsOf [] (part ∷ row) = ⊥
ArePartsOf (c_key e ∷ cuts) row = ArePartsOf cuts row
ArePartsOf (c_part function columns ∷ cuts) (part ∷ row) = IsPart function part × ArePartsOf cuts row
ArePartsOf (c_row ∷ cuts) (part ∷ row) = ArePartsOf cuts row
ArePartsOf (cut ∷ cuts) [] = ⊥

-- the row of an entry is of the kinds of the input that it comes from
abbrev pub IsInputRow : Plan → PlanOp → Entry → Type 0
IsInputRow plan o e = (from : ℕ) (kinds : RowKinds)
    → slice_get (inputs_of o) e.input ≡ Some from → kinds_at plan from ≡ Some kinds → IsRowOf e.row kinds

abbrev pub IsFoldedRow : Option TypedBlock → Plan → PlanOp → Entry → Type 0
IsFoldedRow None plan o e = IsInputRow plan o e
IsFoldedRow (Some block) plan o e = ArePartsOf (cuts_in block) e.row

-- The row of an entry: of a DISTINCT the key itself, where rows are sorted one with these fields, of a GROUP that folds the parts
-- of its functions.
abbrev pub IsEntryRow : Plan → ℕ → PlanOp → Entry → Type 0
IsEntryRow plan k (p_distinct input) e = e.row ≡ e.key ∷ []
IsEntryRow plan k (p_order input keys) e = (e.key ≡ sort_key_of keys e.row) × IsInputRow plan (p_order input keys) e
IsEntryRow plan k (p_rank input keys dense) e = (e.key ≡ sort_key_of keys e.row) × IsInputRow plan (p_rank input keys dense) e
IsEntryRow plan k o e = IsFoldedRow (folds plan k) plan o e

-- What the entry of a node that combines gives alone is of these kinds: of a DISTINCT the row that is its key, of a GROUP that folds
-- the row that its parts are finished to.
abbrev pub FinishesTo : Option TypedBlock → RowKinds → Entry → Type 0
FinishesTo None kinds e = ⊤
FinishesTo (Some block) kinds e = IsRowOf (finished (cuts_in block) e.key (e.row ∷ [])) kinds

abbrev pub GivesAlone : Plan → ℕ → PlanOp → RowKinds → Entry → Type 0
GivesAlone plan k (p_distinct input) kinds e = IsRowOf (key_row e.key) kinds
GivesAlone plan k o kinds e = FinishesTo (folds plan k) kinds e

pub record EntryFits (plan : Plan) (k : ℕ) (o : PlanOp) (e : Entry) : Type 0 where
  pub input : e.input < length (inputs_of o)
  pub key : (kind : KindTree) → key_kind_at plan o e.input ≡ Some kind → IsOf e.key kind
  pub row : IsEntryRow plan k o e
  pub gives : (kinds : RowKinds) → given_kinds plan k ≡ Some kinds → GivesAlone plan k o kinds e

-- ---- runs

-- the directions of an operator's runs: those of the fields that it sorts by, else ascending
abbrev pub run_dirs : PlanOp → List Dir
run_dirs o = option_map_or dirs_of (sort_keys o) []

-- one run for each partition; where rows are sorted one run, or the slices that stand in its place
abbrev pub IsRunCount : ℕ → Option (List SortKey) → ℕ → Type 0
IsRunCount reducers None count = count ≡ reducers
IsRunCount reducers (Some keys) count = (count ≡ 1) ⊎ (count ≡ reducers)

pub record RunFits (plan : Plan) (k : ℕ) (o : PlanOp) (run : InDirections) : Type 0 where
  pub dirs : run.dirs ≡ run_dirs o
  pub entries : AllByRecursion (EntryFits plan k o) run.entries

-- ---- what a task hands on

-- rows of kinds, where these are known
pub record HasRows (found : Option RowKinds) (form : Form) : Type 0 where
  pub rows : List (List Tree)
  pub is : form ≡ o_rows rows
  pub kinds : (kinds : RowKinds) → found ≡ Some kinds → AreRowsOf rows kinds

pub record HasRuns (s : Stages) (k : ℕ) (o : PlanOp) (form : Form) : Type 0 where
  pub runs : List InDirections
  pub is : form ≡ o_runs runs
  pub count : IsRunCount s.sizing.reducers (sort_keys o) (length runs)
  pub each : AllByRecursion (RunFits s.plan k o) runs

pub record HasBytes (form : Form) : Type 0 where
  pub bytes : List ℕ
  pub is : form ≡ o_bytes bytes

-- the kinds of the rows that tasks of a replicated JOIN hand on: joined ones are the node's, copied ones those of their input
abbrev pub replicated_kinds : Plan → ℕ → PlanOp → ℕ → Option RowKinds
replicated_kinds plan k o zero = given_kinds plan k
replicated_kinds plan k o (suc i) = option_and_then (kinds_at plan) (slice_get (inputs_of o) (suc i))

-- of a map task of the input at a place
abbrev pub MapFits : Stages → ℕ → PlanOp → ℕ → Form → Type 0
MapFits s k (p_limit input count) i form = HasRows (kinds_at s.plan input) form
MapFits s k (p_store input path delim) i form = HasBytes form
MapFits s k (p_join inputs side true) i form = HasRows (replicated_kinds s.plan k (p_join inputs side true) i) form
MapFits s k o i form = HasRuns s k o form

abbrev pub Fits : Stages → Task → TaskOut → Type 0
Fits s (t_map t) out = (o : PlanOp) → op_at s.plan t.node ≡ Some o → MapFits s t.node o t.way.input out.form
Fits s (t_reduce t) out = HasRows (brought_kinds s.plan t.node) out.form
Fits s (t_rank t) out = HasRows (given_kinds s.plan t.node) out.form

-- ---- what has to stand

-- the output of a task of an earlier wave, which fits it
pub record HasOutput (s : Stages) (outs : Outs) (w at : ℕ) : Type 0 where
  pub out : TaskOut
  pub task : Task
  pub stands : slice_get (outs_at outs w) at ≡ Some out
  pub is_of : slice_get (tasks_in s w) at ≡ Some task
  pub fits : Fits s task out

abbrev pub HasPart : Stages → Outs → Part → Type 0
HasPart s outs (parts.Split split) = ⊤
HasPart s outs (parts.Output w at) = HasOutput s outs w at

-- the outputs of all tasks of a wave; where rows are sorted they are cut into slices
pub record HasWave (s : Stages) (outs : Outs) (t : ReduceTask) : Type 0 where
  pub count : length (outs_at outs t.wave) ≡ length (tasks_in s t.wave)
  pub each : (at : ℕ) → at < length (tasks_in s t.wave) → HasOutput s outs t.wave at
  pub sliced : (o : PlanOp) (keys : List SortKey) → op_at s.plan t.node ≡ Some o → sort_keys o ≡ Some keys
      → AllByRecursion (λ out. length (runs_in out.form) ≡ s.sizing.reducers) (outs_at outs t.wave)

-- the outputs of all tasks of a wave, as they are
pub record HasAll (s : Stages) (outs : Outs) (w : ℕ) : Type 0 where
  pub count : length (outs_at outs w) ≡ length (tasks_in s w)
  pub each : (at : ℕ) → at < length (tasks_in s w) → HasOutput s outs w at

-- A task that reads rows of the first input of a replicated JOIN names all copies of the others.
abbrev pub HasCopies : Stages → Outs → MapTask → Type 0
HasCopies s outs t = (o : PlanOp) → op_at s.plan t.node ≡ Some o → is_replicated o ≡ true → t.way.input ≡ 0
    → HasAll s outs (first_wave s.plan t.node)

pub record HasRead (s : Stages) (outs : Outs) (t : MapTask) : Type 0 where
  pub part : HasPart s outs t.part
  pub copies : HasCopies s outs t

-- Of the outputs of earlier waves those stand that a task names; others may be gone.
abbrev pub HasNamed : Stages → Outs → Task → Type 0
HasNamed s outs (t_map t) = HasRead s outs t
HasNamed s outs (t_reduce t) = HasWave s outs t
HasNamed s outs (t_rank t) = HasAll s outs t.wave
