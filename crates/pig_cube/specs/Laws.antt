-- What the block of a cube gives, and what its groups are.
use Rattle.std.specs.Prelude.{◌≡◌, ◌<◌, ℕ, Bool, false, List, [], ◌∷◌, length, map, replicate, Some, slice_get}
use Rattle.std.specs.List.{AllByRecursion, flat_map, range_with_len}
use Rattle.std.specs.List.Sorted.{IsPermutation}
use Rattle.pig_value.specs.declared.inputs.Input.{Input}
use Rattle.pig_value.specs.declared.outcomes.Kept.{Kept}
use Rattle.pig_value.specs.Orders.{bag_of}
use Rattle.pig_value.specs.Trees.{KindTree, Tree, k_bag, k_chars, kinds_of}
use Rattle.pig_typed.specs.BlockKinds.{row_kinds}
use Rattle.pig_typed.specs.Blocks.{foreach_all, foreach_rows}
use Rattle.pig_typed.specs.Typed.{x_field}
use Rattle.pig_plan.specs.Meaning.{meaning}
use Rattle.pig_plan.specs.NodeKinds.{Before, group_kind, node_gives}
use Rattle.pig_plan.specs.Nodes.{op_at}
use Rattle.pig_plan.specs.Operators.{Setting, operator_rows}
use Rattle.pig_plan.specs.Plans.{Plan, PlanOp, p_foreach, p_group}
use Rattle.pig_plan.specs.Valid.{IsPlan, op_writes_lf}
use Rattle.pig_cube.specs.Cubes.{cube_rows, expanded_rows}
use Rattle.pig_cube.specs.Expanding.{expanded_block, expanded_kinds}

-- Of any row, as a bag, the block gives the rows of the chosen sets; and so of all rows of a relation.
abbrev pub BlocksExpandRows : Type 0
BlocksExpandRows = (dims : List ℕ) (width : ℕ) (rollup : Bool) (row : List Tree)
    → IsPermutation (foreach_rows (expanded_block dims width rollup) row) (expanded_rows dims width rollup row)

abbrev pub BlocksExpandRelations : Type 0
BlocksExpandRelations = (dims : List ℕ) (width : ℕ) (rollup : Bool) (rows : List (List Tree))
    → IsPermutation (foreach_all (expanded_block dims width rollup) rows) (flat_map (expanded_rows dims width rollup) rows)

-- On rows with a chararray at each dimension the block has kinds.
abbrev pub BlocksHaveKinds : Type 0
BlocksHaveKinds = (dims : List ℕ) (rollup : Bool) (kinds : List KindTree)
    → 0 < length dims → AllByRecursion (λ p. slice_get kinds p ≡ Some k_chars) dims
    → row_kinds (expanded_block dims (length kinds) rollup) kinds ≡ Some (expanded_kinds dims kinds)

-- the two nodes of a cube: FOREACH by the block, and GROUP of what it gives by its first fields
abbrev pub cube_foreach : List ℕ → ℕ → Bool → ℕ → PlanOp
cube_foreach dims width rollup input = p_foreach input (expanded_block dims width rollup)

abbrev pub cube_group : List ℕ → ℕ → PlanOp
cube_group dims input = p_group (record { input = input; keys = map x_field (range_with_len 0 (length dims)); inner = false } ∷ [])

-- the kinds of a group: that of its key, and the bag of the rows
abbrev pub cube_kinds : List ℕ → List KindTree → List KindTree
cube_kinds dims kinds = group_kind (replicate (length dims) k_chars) ∷ k_bag (kinds_of (expanded_kinds dims kinds)) ∷ []

-- Behind nodes of which one gives rows with a chararray at each dimension, both are valid, and give rows of these kinds.
abbrev pub ForeachHasKinds : Type 0
ForeachHasKinds = (before : Before) (input : ℕ) (dims : List ℕ) (rollup : Bool) (kinds : List KindTree)
    → 0 < length dims → AllByRecursion (λ p. slice_get kinds p ≡ Some k_chars) dims → before input ≡ Some kinds
    → node_gives before (cube_foreach dims (length kinds) rollup input) ≡ Some (Some (expanded_kinds dims kinds))

abbrev pub GroupHasKinds : Type 0
GroupHasKinds = (before : Before) (made : ℕ) (dims : List ℕ) (kinds : List KindTree)
    → 0 < length dims → before made ≡ Some (expanded_kinds dims kinds)
    → node_gives before (cube_group dims made) ≡ Some (Some (cube_kinds dims kinds))

-- and no text that is written out in them holds a line end
abbrev pub ForeachWritesNoLineEnd : Type 0
ForeachWritesNoLineEnd = (dims : List ℕ) (width : ℕ) (rollup : Bool) (input : ℕ) → op_writes_lf (cube_foreach dims width rollup input) ≡ false

abbrev pub GroupWritesNoLineEnd : Type 0
GroupWritesNoLineEnd = (dims : List ℕ) (made : ℕ) → op_writes_lf (cube_group dims made) ≡ false

-- the rows of GROUP over those of FOREACH are, as a bag, the cube
abbrev pub OperatorsGiveTheCube : Type 0
OperatorsGiveTheCube = (s : Setting) (first second : ℕ) (dims : List ℕ) (width : ℕ) (rollup : Bool) (input made : ℕ) (rows : ℕ → List (List Tree))
    → operator_rows s second (cube_group dims made) (λ _. operator_rows s first (cube_foreach dims width rollup input) rows)
    ≡ bag_of (cube_rows dims width rollup (rows input))

-- and so in any plan
abbrev pub PlansGiveTheCube : Type 0
PlansGiveTheCube = (plan : Plan) (inputs : List Input) (kept : List Kept) → IsPlan plan
    → (dims : List ℕ) (width : ℕ) (rollup : Bool) (input made group : ℕ)
    → op_at plan made ≡ Some (cube_foreach dims width rollup input) → op_at plan group ≡ Some (cube_group dims made)
    → meaning plan inputs kept group ≡ bag_of (cube_rows dims width rollup (meaning plan inputs kept input))
