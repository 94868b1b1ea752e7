-- What a shuffle is of, and the runs that it is to hand on.
use Rattle.std.specs.Prelude.{◌≡◌, ℕ, List, [], ◌∷◌, Option, Some, None}
use Rattle.std.specs.Option.{option_map, option_map_or}
use Rattle.pig_value.specs.Gathering.{Entry}
use Rattle.pig_value.specs.Trees.{Tree}
use Rattle.pig_typed.specs.Typed.{TypedBlock}
use Rattle.pig_algebra.specs.Combining.{combined, parts_by}
use Rattle.pig_algebra.specs.Cuts.{TypedCut, c_row, cuts_in}
use Rattle.pig_plan.specs.Entries.{entries_of}
use Rattle.pig_plan.specs.Nodes.{op_at}
use Rattle.pig_plan.specs.Plans.{Plan, PlanOp, p_distinct, p_group, p_group_all}
use Rattle.pig_runs.specs.Entries.{InDirections}
use Rattle.pig_physical.specs.Combining.{folds}
use Rattle.pig_physical.specs.Values.{handed_on, runs_of}

-- so many partitions, the block that a GROUP folds into, the operator of a node, and the number of its input
pub record Shuffling : Type 0 where
  pub parts : ℕ
  pub fold : Option TypedBlock
  pub op : PlanOp
  pub input : ℕ

-- where the parts of a key come from, where its rows are combined: of a DISTINCT from the row alone
abbrev pub cuts_by : Option TypedBlock → PlanOp → Option (List TypedCut)
cuts_by fold (p_distinct input) = Some (c_row ∷ [])
cuts_by fold (p_group_all input) = option_map cuts_in fold
cuts_by fold (p_group inputs) = option_map cuts_in fold
cuts_by fold o = None

-- the entries of rows, and what is handed on of entries
abbrev pub entries_by : Shuffling → List (List Tree) → List Entry
entries_by w rows = entries_of w.op w.input rows

abbrev pub handed_by : Shuffling → List Entry → List Entry
handed_by w entries = option_map_or (λ cuts. combined (parts_by cuts) entries) (cuts_by w.fold w.op) entries

-- the runs of rows
abbrev pub runs_by : Shuffling → List (List Tree) → List InDirections
runs_by w rows = runs_of w.parts None w.op (handed_by w (entries_by w rows))

-- what `Shuffle::new` is given
abbrev pub shuffling : ℕ → Option TypedBlock → PlanOp → ℕ → Shuffling
shuffling n fold o i = record { parts = n; fold = fold; op = o; input = i }

-- the shuffle of an input of a plan's node
abbrev pub shuffling_at : Plan → ℕ → PlanOp → ℕ → ℕ → Shuffling
shuffling_at plan k o i n = shuffling n (folds plan k) o i

-- Its runs are those that a map task of the node hands on.
abbrev pub RunsAreOfTheNode : Type 0
RunsAreOfTheNode = (plan : Plan) (k : ℕ) (o : PlanOp) (i n : ℕ) (rows : List (List Tree)) → op_at plan k ≡ Some o
    → runs_by (shuffling_at plan k o i n) rows ≡ runs_of n None o (handed_on plan k o (entries_of o i rows))
