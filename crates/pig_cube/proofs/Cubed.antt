-- The two nodes of a cube give the cube.
use Rattle.std.specs.Prelude.{◌≡◌, ℕ, Bool, List, length, map, Option, None, Some, slice_get, refl}
use Rattle.std.proofs.Common.{ap, ◌∙◌, arith, append-nil}
use Rattle.std.specs.List.{AllByRecursion, flat_map}
use Rattle.std.specs.List.Sorted.{IsPermutation}
use Rattle.std.specs.Option.{option_map}
use Rattle.std.proofs.lemmas.List.{length-append, length-map}
use Rattle.std.proofs.lemmas.List.Sorted.{IsPermutation-map, IsPermutation-sym, IsPermutation-trans}
use Rattle.std.proofs.lemmas.Option.{none-some}
use Rattle.pig_value.specs.declared.inputs.Input.{Input}
use Rattle.pig_value.specs.declared.outcomes.Kept.{Kept}
use Rattle.pig_value.specs.Gathering.{Entry}
use Rattle.pig_value.specs.Orders.{bag_of, row_cmp}
use Rattle.pig_value.specs.Trees.{at, Tree}
use Rattle.pig_value.proofs.list_laws.Bags.{sort_permutes}
use Rattle.pig_value.proofs.list_laws.Listing.{each-map, each_of_all, some_same}
use Rattle.pig_typed.specs.Blocks.{foreach_all}
use Rattle.pig_plan.specs.ByKey.{entries_of_input, gathered, group_of}
use Rattle.pig_plan.specs.Meaning.{meaning, setting}
use Rattle.pig_plan.specs.Nodes.{op_at}
use Rattle.pig_plan.specs.Operators.{Setting, operator_rows}
use Rattle.pig_plan.specs.Plans.{Plan, PlanNode, PlanOp}
use Rattle.pig_plan.specs.Valid.{IsPlan}
use Rattle.pig_plan.proofs.Carries.{each-flat_map}
use Rattle.pig_plan.proofs.Gathered.{gathered_same}
use Rattle.pig_plan.proofs.Lower.{meaning_of_node}
use Rattle.pig_cube.specs.Cubes.{cube_rows, dimension, expanded_row, expanded_rows}
use Rattle.pig_cube.specs.Dimensions.{chosen_sets, other_positions}
use Rattle.pig_cube.specs.Expanding.{expanded_block}
use Rattle.pig_cube.specs.Laws.{cube_foreach, cube_group}
use Rattle.pig_cube.proofs.Expanded.{rows_expanded}
use Rattle.pig_cube.proofs.Grouped.{IsLong, by_first_fields, row_key}

module _ (dims : List ℕ) (width : ℕ) (rollup : Bool) where
  abbrev made : List (List Tree) → List (List Tree)
  made rows = bag_of (foreach_all (expanded_block dims width rollup) rows)

  abbrev expanded : List (List Tree) → List (List Tree)
  expanded rows = flat_map (expanded_rows dims width rollup) rows

  made_permutes : (rows : List (List Tree)) → IsPermutation (made rows) (expanded rows)
  made_permutes rows =
      let all = foreach_all (expanded_block dims width rollup) rows in
      IsPermutation-trans (made rows) all (expanded rows) (IsPermutation-sym all (made rows) (sort_permutes row_cmp all)) (rows_expanded dims width rollup rows)

  -- an expanded row has its dimensions in front
  row_long : (row : List Tree) (set : List ℕ) → IsLong (length dims) (expanded_row dims width row set)
  row_long row set =
      let front = map (dimension row set) dims in
      let back = map (λ p. at p row) (other_positions dims width) in
      let all = length-append front back in
      let own = length-map dims (dimension row set) in
      omega (arith, all, own)

  all_long : (rows : List (List Tree)) → AllByRecursion (IsLong (length dims)) (expanded rows)
  all_long rows =
      each-flat_map (IsLong (length dims)) (expanded_rows dims width rollup) rows
      (each_of_all (λ row. AllByRecursion (IsLong (length dims)) (expanded_rows dims width rollup row))
      (λ row. each-map (IsLong (length dims)) (expanded_row dims width row) (chosen_sets rollup dims) (each_of_all (λ set. IsLong (length dims) (expanded_row dims width row set)) (row_long row) (chosen_sets rollup dims)))
      rows)

  abbrev entries : List (List Tree) → List Entry
  entries rows = entries_of_input (row_key (length dims)) 0 rows

  pub operators_cube : (s : Setting) (first second input node : ℕ) (rows : ℕ → List (List Tree))
      → operator_rows s second (cube_group dims node) (λ _. operator_rows s first (cube_foreach dims width rollup input) rows) ≡ bag_of (cube_rows dims width rollup (rows input))
  operators_cube s first second input node rows =
      ap bag_of (
      ap (gathered group_of) (append-nil (entries (made (rows input))))
      ∙ gathered_same group_of (entries (made (rows input))) (entries (expanded (rows input)))
      (IsPermutation-map _ (made (rows input)) (expanded (rows input)) (made_permutes (rows input)))
      ∙ by_first_fields (length dims) (expanded (rows input)) (all_long (rows input)))

-- a node with its operator
with_operator : (found : Option PlanNode) (o : PlanOp) → option_map (λ node. node.op) found ≡ Some o → (node : PlanNode) × (found ≡ Some node) × (node.op ≡ o)
with_operator None o h = absurd (none-some o h)
with_operator (Some node) o h = (node, refl, some_same node.op o h)

module _ (plan : Plan) (inputs : List Input) (kept : List Kept) (valid : IsPlan plan) where
  abbrev rows_of_node : ℕ → List (List Tree)
  rows_of_node = meaning plan inputs kept

  abbrev own : Setting
  own = setting plan inputs kept

  node_means : (k : ℕ) (o : PlanOp) → op_at plan k ≡ Some o → (statement : ℕ) × (rows_of_node k ≡ operator_rows own statement o rows_of_node)
  node_means k o h =
      let found = with_operator (slice_get plan k) o h in
      (found.0.statement, meaning_of_node plan inputs kept valid k found.0 found.1 ∙ ap (λ p. operator_rows own found.0.statement p rows_of_node) found.2)

  pub plans_cube : (dims : List ℕ) (width : ℕ) (rollup : Bool) (input node group : ℕ)
      → op_at plan node ≡ Some (cube_foreach dims width rollup input) → op_at plan group ≡ Some (cube_group dims node)
      → rows_of_node group ≡ bag_of (cube_rows dims width rollup (rows_of_node input))
  plans_cube dims width rollup input node group h g =
      let first = node_means node (cube_foreach dims width rollup input) h in
      let second = node_means group (cube_group dims node) g in
      second.1
      ∙ ap (λ rows. operator_rows own second.0 (cube_group dims node) (λ _. rows)) first.1
      ∙ operators_cube dims width rollup own first.0 second.0 input node rows_of_node
