-- What each task must hand on: the value of a task.
-- (Building a High-Level Dataflow System on top of Map-Reduce: "Map-Reduce Plan Compilation", "Use of the combiner". That lines
-- belong to the split in which they start, how keys go to partitions, and what a LIMIT's tasks hand on, are choices of this
-- profile.)
use Rattle.std.specs.Prelude.{◌≡◌, ℕ, zero, suc, ◌+◌, Bool, true, false, List, [], ◌∷◌, ◌++◌, map, take, length, Option, Some, None, slice_get, if◌then◌else◌}
use Rattle.std.specs.List.{flat_map, range_with_len}
use Rattle.std.specs.Option.{option_map_or}
use Rattle.std.specs.Ordering.{nat_cmp}
use Rattle.pig_value.specs.declared.inputs.Input.{Input}
use Rattle.pig_value.specs.declared.operators.Dir.{Dir}
use Rattle.pig_value.specs.FieldRows.{row_of}
use Rattle.pig_value.specs.Gathering.{Entry, in_part}
use Rattle.pig_value.specs.Lines.{lines_within}
use Rattle.pig_value.specs.Orders.{bag_of, tree_cmp}
use Rattle.pig_value.specs.Sorts.{distinct, sort}
use Rattle.pig_value.specs.Texts.{rows_text}
use Rattle.pig_value.specs.Trees.{Tree, fields_list, v_tuple}
use Rattle.pig_storage.specs.declared.splits.Split.{Split}
use Rattle.pig_typed.specs.declared.blocks.SortKey.{SortKey}
use Rattle.pig_algebra.specs.Combining.{combined, folded}
use Rattle.pig_plan.specs.Asserts.{unmet_on}
use Rattle.pig_plan.specs.ByKey.{gathered}
use Rattle.pig_plan.specs.Entries.{dirs_of, entries_of, made_by, sort_keys}
use Rattle.pig_plan.specs.Meaning.{AreKept, width_at}
use Rattle.pig_plan.specs.Nodes.{is_sorted, op_at}
use Rattle.pig_plan.specs.Operators.{pieces_of}
use Rattle.pig_plan.specs.Plans.{Plan, PlanOp, p_load, p_distinct, p_join, p_limit, p_rank, p_store}
use Rattle.pig_plan.specs.Results.{at_place}
use Rattle.pig_plan.specs.Steps.{through}
use Rattle.pig_rank.specs.Ranks.{AreSorted, ranked_among}
use Rattle.pig_runs.specs.Cutting.{Point, slice_of}
use Rattle.pig_runs.specs.Entries.{InDirections, run_cmp, run_of}
use Rattle.pig_runs.specs.Parts.{pn}
use Rattle.pig_physical.specs.Combining.{combining, folds}
use Rattle.pig_physical.specs.Outs.{Form, Outs, TaskOut, entries_at, o_bytes, o_rows, o_runs, outs_at, rows_at, rows_in}
use Rattle.pig_physical.specs.Stages.{MapTask, Stages, Task, first_wave, t_map, t_rank, t_reduce, tasks_in}
use Rattle.pig_physical.specs.declared.parts.Part.{Part}
use Rattle.pig_physical.specs.declared.parts.Part.TheVariants as parts
use Rattle.pig_physical.specs.declared.parts.ReduceTask.{ReduceTask}

-- ---- a task's rows

-- the lines that start in a split
abbrev pub split_lines : List Input → List ℕ → Split → List (List ℕ)
split_lines inputs path s = lines_within s.from s.to (at_place [] (pieces_of inputs path) s.piece)

abbrev pub part_lines : List Input → Part → PlanOp → List (List ℕ)
part_lines inputs (parts.Output wave at) o = []
part_lines inputs (parts.Split s) (p_load path delim columns) = split_lines inputs path s
part_lines inputs (parts.Split s) o = []

-- the rows of a part of a source
abbrev pub part_rows : List Input → Outs → Part → PlanOp → List (List Tree)
part_rows inputs outs (parts.Output wave at) o = rows_at outs wave at
part_rows inputs outs (parts.Split s) (p_load path delim columns) = map (row_of columns delim) (split_lines inputs path s)
part_rows inputs outs (parts.Split s) o = []

abbrev pub source_lines : Plan → List Input → ℕ → Part → List (List ℕ)
source_lines plan inputs k part = option_map_or (part_lines inputs part) (op_at plan k) []

abbrev pub source_rows : Plan → List Input → Outs → ℕ → Part → List (List Tree)
source_rows plan inputs outs k part = option_map_or (part_rows inputs outs part) (op_at plan k) []

abbrev pub lines_of : Plan → List Input → MapTask → List (List ℕ)
lines_of plan inputs t = source_lines plan inputs t.way.path.source t.part

abbrev pub read_rows : Plan → List Input → Outs → MapTask → List (List Tree)
read_rows plan inputs outs t = source_rows plan inputs outs t.way.path.source t.part

-- the rows of a task: those of its part, put through its path
abbrev pub task_rows : Plan → List Input → Outs → MapTask → List (List Tree)
task_rows plan inputs outs t = through (folds plan) plan t.way.path.nodes (read_rows plan inputs outs t)

-- ---- ASSERTs that are not met

-- the statements of the ASSERTs on its path that its rows don't meet
abbrev pub task_unmet : Plan → List Input → Outs → MapTask → List ℕ
task_unmet plan inputs outs t = sort nat_cmp (unmet_on (folds plan) plan t.way.path.nodes (read_rows plan inputs outs t))

-- ---- runs

-- the entries that a map task hands on, of those of its rows
abbrev pub handed_on : Plan → ℕ → PlanOp → List Entry → List Entry
handed_on plan k o entries = option_map_or (λ parts. combined parts entries) (combining plan k o) entries

-- one run for each partition: an entry stands in the one that its key's text gives
abbrev pub partitions : ℕ → List Entry → List InDirections
partitions n entries = map (λ p. run_of [] (in_part (λ e. pn e.key n) p entries)) (range_with_len 0 n)

-- the one run of an ORDER, and the slices that stand in its place once points are chosen
abbrev pub slices : Option (List Point) → List Dir → List Entry → List InDirections
slices None ds entries = run_of ds entries ∷ []
slices (Some points) ds entries =
    map (λ p. record { dirs = ds; entries = slice_of ds points p (sort (run_cmp ds) entries) })
    (range_with_len 0 (length points + 1))

abbrev pub runs_of : ℕ → Option (List Point) → PlanOp → List Entry → List InDirections
runs_of n points o entries =
    option_map_or (λ keys. slices points (dirs_of keys) entries) (sort_keys o) (partitions n entries)

-- ---- rows brought together

abbrev pub key_row : Tree → List Tree
key_row (v_tuple fields) = fields_list fields
key_row key = []

-- what a boundary node makes of the entries of a partition
abbrev pub brought_together : (ℕ → ℕ) → PlanOp → List Entry → List (List Tree)
brought_together width (p_distinct input) entries = map key_row (distinct tree_cmp (map (λ e. e.key) entries))
brought_together width o entries =
    option_map_or (λ keys. map (λ e. e.row) (sort (run_cmp (dirs_of keys)) entries)) (sort_keys o)
    (gathered (made_by width o) entries)

-- A GROUP that folds gives the rows of its FOREACH.
abbrev pub reduced : Plan → ℕ → PlanOp → List Entry → List (List Tree)
reduced plan k o entries =
    option_map_or (λ block. folded block entries) (folds plan k) (brought_together (width_at plan) o entries)

-- ---- the value of a task

-- what the tasks of a LIMIT hand on: of a sorted node the first rows, else any that it may keep
pub record Keeps (sorted : Bool) (count : ℕ) (rows : List (List Tree)) (form : Form) : Type 0 where
  pub kept : List (List Tree)
  pub is : form ≡ o_rows kept
  pub first : sorted ≡ true → kept ≡ take count rows
  pub some : sorted ≡ false → AreKept count rows kept

-- the elements that are marked, in their order
abbrev pub marked : {X : Type 0} → List Bool → List X → List X
marked [] xs = []
marked (mark ∷ marks) [] = []
marked (mark ∷ marks) (x ∷ xs) = if mark then x ∷ marked marks xs else marked marks xs

-- the map tasks of a LIMIT hand them on in their order
pub record KeepsInOrder (sorted : Bool) (count : ℕ) (rows : List (List Tree)) (form : Form) : Type 0 where
  pub keeps : Keeps sorted count rows form
  pub marks : List Bool
  pub order : rows_in form ≡ marked marks rows

-- rows that are these, in any order
pub record AreAsBag (rows : List (List Tree)) (form : Form) : Type 0 where
  pub made : List (List Tree)
  pub is : form ≡ o_rows made
  pub bag : bag_of made ≡ bag_of rows

-- the rows that tasks hand on, as entries of the inputs that they come to
abbrev pub handed_entries : PlanOp → List Task → List TaskOut → List Entry
handed_entries o (t_map t ∷ tasks) (out ∷ outs) = entries_of o t.way.input (rows_in out.form) ++ handed_entries o tasks outs
handed_entries o (task ∷ tasks) (out ∷ outs) = handed_entries o tasks outs
handed_entries o tasks outs = []

-- those of the wave that copies the further inputs of a replicated JOIN
abbrev pub copied_entries : Stages → Outs → ℕ → PlanOp → List Entry
copied_entries s outs k o = handed_entries o (tasks_in s (first_wave s.plan k)) (outs_at outs (first_wave s.plan k))

-- what a replicated JOIN gives of rows of its first input
abbrev pub probed_rows : Stages → Outs → ℕ → PlanOp → List (List Tree) → List (List Tree)
probed_rows s outs k o rows = brought_together (width_at s.plan) o (entries_of o 0 rows ++ copied_entries s outs k o)

-- of a task of a replicated JOIN: rows of its first input are joined with what was copied, those of another one copied
abbrev pub IsReplicatedForm : Stages → Outs → ℕ → PlanOp → ℕ → List (List Tree) → Form → Type 0
IsReplicatedForm s outs k o zero rows form = AreAsBag (probed_rows s outs k o rows) form
IsReplicatedForm s outs k o (suc i) rows form = form ≡ o_rows rows

-- of a map task of a node with these rows of the input at a place; `points` are those that cut an ORDER's runs, once they are
-- chosen
abbrev pub IsMapForm : Stages → Option (List Point) → Outs → ℕ → PlanOp → ℕ → List (List Tree) → Form → Type 0
IsMapForm s points outs k (p_limit input count) i rows form = KeepsInOrder (is_sorted s.plan input) count rows form
IsMapForm s points outs k (p_store input path delim) i rows form = form ≡ o_bytes (rows_text delim rows)
IsMapForm s points outs k (p_join inputs side true) i rows form = IsReplicatedForm s outs k (p_join inputs side true) i rows form
IsMapForm s points outs k o i rows form =
    form ≡ o_runs (runs_of s.sizing.reducers points o (handed_on s.plan k o (entries_of o i rows)))

abbrev pub IsReduceForm : Stages → ℕ → PlanOp → List TaskOut → ℕ → Form → Type 0
IsReduceForm s k (p_limit input count) outs p form =
    Keeps (is_sorted s.plan input) count (flat_map (λ out. rows_in out.form) outs) form
IsReduceForm s k o outs p form = form ≡ o_rows (reduced s.plan k o (flat_map (entries_at p) outs))

pub record IsMapValue (s : Stages) (inputs : List Input) (points : Option (List Point)) (outs : Outs)
    (t : MapTask) (o : PlanOp) (out : TaskOut) : Type 0 where
  pub form : IsMapForm s points outs t.node o t.way.input (task_rows s.plan inputs outs t) out.form
  pub lines : out.lines ≡ length (lines_of s.plan inputs t)
  pub unmet : out.unmet ≡ task_unmet s.plan inputs outs t

pub record IsReduceValue (s : Stages) (outs : Outs) (t : ReduceTask) (o : PlanOp) (out : TaskOut) : Type 0 where
  pub form : IsReduceForm s t.node o (outs_at outs t.wave) t.part out.form
  pub lines : out.lines ≡ 0
  pub unmet : out.unmet ≡ []

-- the rows of a partition as a RANK gives them: each behind its rank among the rows of all partitions, which stand one behind the
-- other and are sorted by its keys
abbrev pub ranked : PlanOp → List (List Tree) → List (List Tree) → List (List Tree)
ranked (p_rank input keys dense) whole rows = ranked_among keys dense whole rows
ranked o whole rows = rows

abbrev pub AreInOrder : PlanOp → List (List Tree) → Type 0
AreInOrder o rows = (keys : List SortKey) → sort_keys o ≡ Some keys → AreSorted keys rows

-- the rows of all outputs, and those of one
abbrev pub all_rows : List TaskOut → List (List Tree)
all_rows outs = flat_map (λ out. rows_in out.form) outs

abbrev pub rows_of_part : List TaskOut → ℕ → List (List Tree)
rows_of_part outs p = option_map_or (λ out. rows_in out.form) (slice_get outs p) []

abbrev pub IsRankForm : PlanOp → List TaskOut → ℕ → Form → Type 0
IsRankForm o outs p form = AreInOrder o (all_rows outs) → form ≡ o_rows (ranked o (all_rows outs) (rows_of_part outs p))

pub record IsRankValue (outs : Outs) (t : ReduceTask) (o : PlanOp) (out : TaskOut) : Type 0 where
  pub form : IsRankForm o (outs_at outs t.wave) t.part out.form
  pub lines : out.lines ≡ 0
  pub unmet : out.unmet ≡ []

abbrev pub IsValue : Stages → List Input → Option (List Point) → Outs → Task → TaskOut → Type 0
IsValue s inputs points outs (t_map t) out =
    (o : PlanOp) → op_at s.plan t.node ≡ Some o → IsMapValue s inputs points outs t o out
IsValue s inputs points outs (t_reduce t) out =
    (o : PlanOp) → op_at s.plan t.node ≡ Some o → IsReduceValue s outs t o out
IsValue s inputs points outs (t_rank t) out =
    (o : PlanOp) → op_at s.plan t.node ≡ Some o → IsRankValue outs t o out
