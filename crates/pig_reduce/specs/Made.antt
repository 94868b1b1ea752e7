-- What reduce tasks make of entries that are lent: of each key and of the rows that have it.
use Rattle.std.specs.Prelude.{◌≡◌, ℕ, Bool, true, false, List, [], ◌∷◌, map, drop, take, Option, Some, None, slice_get, ⊤}
use Rattle.std.specs.List.{AllByRecursion}
use Rattle.pig_value.specs.Functions.{column_tree}
use Rattle.pig_value.specs.Gathering.{Entry}
use Rattle.pig_value.specs.Trees.{Tree, at}
use Rattle.pig_value.specs.Valid.{IsValue}
use Rattle.pig_keycode.specs.Codable.{IsCodeOf}
use Rattle.pig_typed.specs.declared.blocks.SortKey.{SortKey}
use Rattle.pig_typed.specs.Evaluation.{ev}
use Rattle.pig_typed.specs.Literals.{LiteralsAre}
use Rattle.pig_algebra.specs.Combining.{finished}
use Rattle.pig_algebra.specs.Cuts.{TypedCut, c_key, c_part, c_row}
use Rattle.pig_algebra.specs.Parts.{merging}
use Rattle.pig_value.specs.declared.operators.Dir.{Dir}
use Rattle.pig_value.specs.declared.operators.Side.{Side}
use Rattle.pig_plan.specs.ByKey.{gathered, outer_of}
use Rattle.pig_plan.specs.Entries.{sort_keys}
use Rattle.pig_plan.specs.Nodes.{op_at}
use Rattle.pig_plan.specs.Plans.{Keyed, Plan, PlanOp, p_distinct, p_limit, p_rank}
use Rattle.pig_operators.specs.declared.by_key.Gathering.{Gathering}
use Rattle.pig_operators.specs.Given.{made}
use Rattle.pig_runs.specs.Entries.{InDirections}
use Rattle.pig_physical.specs.Outs.{Outs, TaskOut, o_rows, outs_at, rows_in, runs_in}
use Rattle.pig_physical.specs.Stages.{Stages}
use Rattle.pig_physical.specs.declared.parts.ReduceTask.{ReduceTask}
use Rattle.pig_physical.specs.Values.{IsReduceForm, all_rows, key_row}
use Rattle.pig_rank.specs.Ranks.{AreSorted, start_behind, start_tree, starts_of}
use Rattle.pig_rank.specs.declared.parts.Start.{Start}

-- ---- DISTINCT

-- the bytes are the code of a value
abbrev pub IsSomeCode : List ℕ → Type 0
IsSomeCode bytes = ∥ ((key : Tree) × IsCodeOf bytes key) ∥₁

-- the row of a key, whatever rows have it
abbrev pub key_made : Tree → (ℕ → List (List Tree)) → List (List Tree)
key_made key rows = key_row key ∷ []

-- the rows of the keys from a place on
abbrev pub keys_to_come : InDirections → ℕ → List (List Tree)
keys_to_come run from = gathered key_made (drop from run.entries)

-- ---- GROUP that folds

-- all entries are of the first input
abbrev pub AreOfFirst : List Entry → Type 0
AreOfFirst es = AllByRecursion (λ e. e.input ≡ 0) es

-- an expression that sees the key writes out values alone
abbrev pub IsKeyed : TypedCut → Type 0
IsKeyed (c_key e) = LiteralsAre IsValue e
IsKeyed (c_part function columns) = ⊤
IsKeyed c_row = ⊤

-- what a cut gives of a key, as a row of its own, and of the parts at a place
abbrev pub item_at : TypedCut → List Tree → List (List Tree) → ℕ → Tree
item_at (c_key e) keyed rows place = ev e keyed []
item_at (c_part function columns) keyed rows place = column_tree (merging function) (map (at place) rows)
item_at c_row keyed rows place = at 0 keyed

-- how many parts a cut has
abbrev pub places_of : TypedCut → ℕ
places_of (c_key e) = 0
places_of (c_part function columns) = 1
places_of c_row = 1

-- the row of a key and of the rows of its parts
abbrev pub fold_made : List TypedCut → Tree → (ℕ → List (List Tree)) → List (List Tree)
fold_made cuts key rows = finished cuts key (rows 0) ∷ []

-- the rows of the groups from a place on
abbrev pub folds_to_come : List TypedCut → InDirections → ℕ → List (List Tree)
folds_to_come cuts run from = gathered (fold_made cuts) (drop from run.entries)

-- ---- operators by key

-- what is made of a key and each input's bag, and nothing where there is no operator by key
abbrev pub made_or_none : Option Gathering → Tree → (ℕ → List (List Tree)) → List (List Tree)
made_or_none None = λ key rows. []
made_or_none (Some how) = made how

-- a JOIN that keeps a side, of two inputs
abbrev pub sides_made : Side → (ℕ → ℕ) → List Keyed → Tree → (ℕ → List (List Tree)) → List (List Tree)
sides_made s width (a ∷ b ∷ inputs) = outer_of s (width a.input) (width b.input)
sides_made s width inputs = λ key rows. []

abbrev pub is_distinct : PlanOp → Bool
is_distinct (p_distinct input) = true
is_distinct o = false

-- ---- outputs

abbrev pub limit_of : PlanOp → Option ℕ
limit_of (p_limit input count) = Some count
limit_of o = None

-- the run of a partition that an output holds, where there is one, has these directions
abbrev pub HasDirs : List Dir → ℕ → TaskOut → Type 0
HasDirs ds p out = (run : InDirections) → slice_get (runs_in out.form) p ≡ Some run → run.dirs ≡ ds

-- rows, as a reduce task hands them on
abbrev pub rows_out : List (List Tree) → TaskOut
rows_out rows = record { form = o_rows rows; lines = 0; unmet = [] }

-- what a reduce task of a node hands on, of the outputs of a wave
pub record IsReduced (s : Stages) (k : ℕ) (o : PlanOp) (outs : List TaskOut) (p : ℕ) (out : TaskOut) : Type 0 where
  pub form : IsReduceForm s k o outs p out.form
  pub lines : out.lines ≡ 0
  pub unmet : out.unmet ≡ []

-- ---- ranks

abbrev pub is_dense : PlanOp → Bool
is_dense (p_rank input keys dense) = dense
is_dense o = false

-- What stands before a partition of a node that sorts: where the rows of all partitions, one behind the other, are sorted by its keys,
-- it is what stands before the partition's first row.
abbrev pub IsStartBy : PlanOp → List TaskOut → ℕ → Start → Type 0
IsStartBy o outs p start = (keys : List SortKey) → sort_keys o ≡ Some keys
    → AreSorted keys (all_rows outs) → start_tree start ≡ start_behind keys (all_rows (take p outs))

abbrev pub IsStartOf : Plan → List TaskOut → ReduceTask → Start → Type 0
IsStartOf plan outs t start = (o : PlanOp) → op_at plan t.node ≡ Some o → IsStartBy o outs t.part start

-- the start of a task's partition is among these, where there is one
abbrev pub IsStartIn : Plan → Outs → ReduceTask → List Start → Type 0
IsStartIn plan outs t starts = (start : Start) → slice_get starts t.part ≡ Some start → IsStartOf plan (outs_at outs t.wave) t start

-- the starts of all partitions
abbrev pub AreStartsBy : List SortKey → List TaskOut → List Start → Type 0
AreStartsBy keys outs starts = AreSorted keys (all_rows outs) → map start_tree starts ≡ starts_of keys (map (λ out. rows_in out.form) outs)
