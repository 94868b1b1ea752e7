-- A run of stages: outputs that are the values of all tasks, wave by wave; and the rows, what was kept and the bytes that
-- they give.
use Rattle.std.specs.Prelude.{◌≡◌, ℕ, ◌==◌, ◌+◌, ◌-◌, Bool, true, false, List, [], ◌∷◌, ◌++◌, map, length, Some, slice_get, if◌then◌else◌}
use Rattle.std.specs.List.{flat_map}
use Rattle.pig_value.specs.declared.inputs.Column.{Column}
use Rattle.pig_value.specs.declared.inputs.Input.{Input}
use Rattle.pig_value.specs.declared.operators.Dir.{Dir}
use Rattle.pig_value.specs.declared.outcomes.Kept.{Kept}
use Rattle.pig_value.specs.Elementwise.{Each}
use Rattle.pig_value.specs.Gathering.{Entry}
use Rattle.pig_value.specs.Sorts.{Ascends, sort}
use Rattle.pig_value.specs.Trees.{Tree}
use Rattle.pig_typed.specs.declared.blocks.SortKey.{SortKey}
use Rattle.pig_plan.specs.Entries.{dirs_of, sort_keys}
use Rattle.pig_plan.specs.Meaning.{kept_at}
use Rattle.pig_plan.specs.Nodes.{bare_limits, is_live, is_sorted, op_at}
use Rattle.pig_plan.specs.Operators.{pieces_of}
use Rattle.pig_plan.specs.Plans.{Plan, PlanOp, p_load, p_limit}
use Rattle.pig_runs.specs.Cutting.{Point, cut_points, point_cmp}
use Rattle.pig_runs.specs.Entries.{run_cmp}
use Rattle.pig_physical.specs.Outs.{Outs, TaskOut, bytes_in, entries_held, outs_at, rows_in}
use Rattle.pig_physical.specs.Stages.{Stages, Task, first_wave, heads, last_wave, t_map, t_rank, t_reduce, tasks_in}
use Rattle.pig_physical.specs.Values.{IsValue}

-- The points that cut an ORDER's entries into n slices: one fewer, ascending, and the one numbered k, from 0, stands at place
-- (k + 1) * m / n, rounded down, of all m entries sorted.
pub record AreCuts (n : ℕ) (ds : List Dir) (entries : List Entry) (points : List Point) : Type 0 where
  pub count : length points + 1 ≡ n
  pub ascend : Ascends (point_cmp ds) points
  pub are : points ≡ cut_points n (sort (run_cmp ds) entries)

-- the lengths by which the stages are cut are those of the inputs that a STORE reaches
abbrev pub AreSizes : Stages → List Input → Type 0
AreSizes s inputs = (k statement delim : ℕ) (path : List ℕ) (columns : List Column)
    → slice_get s.plan k ≡ Some (record { op = p_load path delim columns; statement = statement })
    → is_live s.plan k ≡ true
    → map length (pieces_of inputs path) ≡ s.sizing.lengths path

-- `points` has those of each wave
pub record IsRun (s : Stages) (inputs : List Input) (points : ℕ → List Point) (outs : Outs) : Type 0 where
  pub sizes : AreSizes s inputs
  pub cuts : (k : ℕ) (o : PlanOp) (keys : List SortKey)
      → op_at s.plan k ≡ Some o → is_live s.plan k ≡ true → sort_keys o ≡ Some keys
      → AreCuts s.sizing.reducers (dirs_of keys) (entries_held (outs_at outs (first_wave s.plan k))) (points (first_wave s.plan k))
  pub values : (w : ℕ) → Each (IsValue s inputs (Some (points w)) outs) (tasks_in s w) (outs_at outs w)

-- the rows that a boundary node's last wave gives
abbrev pub rows_given : Plan → Outs → ℕ → PlanOp → List (List Tree)
rows_given plan outs k o = flat_map (λ out. rows_in out.form) (outs_at outs (last_wave plan k o))

-- what was kept is what the waves of the bare LIMITs give
pub record AreOutputs (plan : Plan) (outs : Outs) (kept : List Kept) : Type 0 where
  pub statements : map (λ k. k.statement) kept ≡ map (λ node. node.statement) (bare_limits plan)
  pub each : (k statement input count : ℕ)
      → slice_get plan k ≡ Some (record { op = p_limit input count; statement = statement })
      → is_live plan k ≡ true → is_sorted plan input ≡ false
      → kept_at kept statement ≡ rows_given plan outs k (p_limit input count)

-- the bytes of a STORE's parts, joined in the order of the tasks
abbrev pub is_for : ℕ → Task → Bool
is_for k (t_map t) = t.node == k
is_for k (t_reduce t) = false
is_for k (t_rank t) = false

abbrev pub bytes_for : ℕ → List Task → List TaskOut → List ℕ
bytes_for k [] outs = []
bytes_for k (task ∷ tasks) [] = []
bytes_for k (task ∷ tasks) (out ∷ outs) = (if is_for k task then bytes_in out.form else []) ++ bytes_for k tasks outs

abbrev pub store_wave : Plan → ℕ
store_wave plan = length (heads plan) - 1

abbrev pub bytes_given : Stages → Outs → ℕ → List ℕ
bytes_given s outs k = bytes_for k (tasks_in s (store_wave s.plan)) (outs_at outs (store_wave s.plan))

-- the statements of the ASSERTs that some task's rows don't meet
abbrev pub all_unmet : Outs → List ℕ
all_unmet outs = flat_map (λ wave. flat_map (λ out. out.unmet) wave) outs
