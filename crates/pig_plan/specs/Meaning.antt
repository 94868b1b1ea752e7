-- What a plan means over inputs: the rows of each node, and which rows a bare LIMIT may have kept.
use Rattle.std.specs.Prelude.{◌≡◌, ◌≤◌, IsTrue, false, ℕ, ◌==◌, List, [], map, length, min, Some, slice_get}
use Rattle.std.specs.List.{find}
use Rattle.std.specs.Option.{option_map_or}
use Rattle.pig_value.specs.declared.inputs.Input.{Input}
use Rattle.pig_value.specs.declared.outcomes.Kept.{Kept}
use Rattle.pig_value.specs.Orders.{row_cmp}
use Rattle.pig_value.specs.Sorts.{times}
use Rattle.pig_value.specs.Trees.{Tree, rows_tree}
use Rattle.pig_plan.specs.NodeKinds.{kinds_at}
use Rattle.pig_plan.specs.Nodes.{bare_limits, is_live, is_sorted}
use Rattle.pig_plan.specs.Operators.{Setting, operator_rows}
use Rattle.pig_plan.specs.Plans.{Plan, p_limit}
use Rattle.pig_plan.specs.Results.{result_at}

-- the rows that were kept at a statement
abbrev pub kept_at : List Kept → ℕ → List (List Tree)
kept_at kept statement = option_map_or (λ k. rows_tree k.rows) (find (λ k. k.statement == statement) kept) []

abbrev pub width_at : Plan → ℕ → ℕ
width_at plan k = option_map_or length (kinds_at plan k) 0

abbrev pub setting : Plan → List Input → List Kept → Setting
setting plan inputs kept = record { inputs = inputs; kept = kept_at kept; width = width_at plan; sorted = is_sorted plan }

-- the rows of the node numbered k
abbrev pub meaning : Plan → List Input → List Kept → ℕ → List (List Tree)
meaning plan inputs kept = result_at (λ k node. operator_rows (setting plan inputs kept) node.statement node.op) [] plan

-- Rows that a bare LIMIT of `count` may keep of rows: none more often than it stands there, and `count` in number, or all.
pub record AreKept (count : ℕ) (rows kept : List (List Tree)) : Type 0 where
  pub held : (row : List Tree) → times row_cmp row kept ≤ times row_cmp row rows
  pub size : length kept ≡ min count (length rows)

-- each live bare LIMIT kept rows of its source
abbrev pub EachIsKept : Plan → List Input → List Kept → Type 0
EachIsKept plan inputs kept = (k statement input count : ℕ)
    → slice_get plan k ≡ Some (record { op = p_limit input count; statement = statement }) → IsTrue (is_live plan k) → is_sorted plan input ≡ false
    → AreKept count (meaning plan inputs kept input) (kept_at kept statement)

-- What was kept is valid: one entry for each live bare LIMIT, in their order, by its statement's number, with rows that it may keep.
pub record IsKept (plan : Plan) (inputs : List Input) (kept : List Kept) : Type 0 where
  pub entries : map (λ k. k.statement) kept ≡ map (λ node. node.statement) (bare_limits plan)
  pub each : EachIsKept plan inputs kept
