-- Which nodes of a plan combine: their map tasks hand on no key twice, but one entry for each key that holds what is found in
-- its rows.
-- (Building a High-Level Dataflow System on top of Map-Reduce: "Use of the combiner".)
use Rattle.std.specs.Prelude.{ℕ, ◌==◌, Bool, true, false, ◌&&◌, List, [], ◌∷◌, Option, Some, None, if◌then◌else◌}
use Rattle.std.specs.List.{filter_map}
use Rattle.std.specs.Option.{is_some, option_and_then, option_map, option_map_or}
use Rattle.pig_value.specs.Trees.{Tree}
use Rattle.pig_typed.specs.Typed.{TypedBlock}
use Rattle.pig_algebra.specs.Combining.{parts_of_rows}
use Rattle.pig_algebra.specs.Cuts.{is_combinable}
use Rattle.pig_plan.specs.Nodes.{live, op_at, uses}
use Rattle.pig_plan.specs.Plans.{Plan, PlanOp, p_foreach, p_group_all, p_group, p_distinct}

-- a GROUP of one input
abbrev pub groups_one : PlanOp → Bool
groups_one (p_group_all input) = true
groups_one (p_group (input ∷ [])) = true
groups_one o = false

-- the blocks of the live FOREACHs on a node
abbrev pub block_on : ℕ → PlanOp → Option TypedBlock
block_on k (p_foreach input block) = if input == k then Some block else None
block_on k o = None

abbrev pub block_at : Plan → ℕ → ℕ → Option TypedBlock
block_at plan k n = option_and_then (block_on k) (op_at plan n)

abbrev pub blocks_on : Plan → ℕ → List TypedBlock
blocks_on plan k = filter_map (block_at plan k) (live plan)

-- the element of a list that has no other
abbrev pub only : {X : Type 0} → List X → Option X
only (x ∷ []) = Some x
only xs = None

abbrev pub where_combinable : TypedBlock → Option TypedBlock
where_combinable block = if is_combinable block then Some block else None

-- A GROUP of one input folds where its only use is a FOREACH whose block is combinable: this block.
abbrev pub folds : Plan → ℕ → Option TypedBlock
folds plan k =
    if option_map_or groups_one (op_at plan k) false && (uses plan k == 1)
    then option_and_then where_combinable (only (blocks_on plan k)) else None

-- what the entry of a key holds of the rows that have it: of a DISTINCT the key itself, of a GROUP that folds the parts of
-- its functions
abbrev pub combining : Plan → ℕ → PlanOp → Option (Tree → List (List Tree) → List Tree)
combining plan k (p_distinct input) = Some (λ key rows. key ∷ [])
combining plan k o = option_map parts_of_rows (folds plan k)

abbrev pub combines : Plan → ℕ → Bool
combines plan k = option_map_or (λ o. is_some (combining plan k o)) (op_at plan k) false
