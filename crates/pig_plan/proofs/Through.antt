-- Rows on their way through nodes that work row by row: what comes to a node on all its paths is the node's step on what comes to its
-- inputs, so that it is what the node means where the sources' rows are what these mean.
use Rattle.std.specs.Prelude.{◌≡◌, ◌<◌, ◌≤◌, ℕ, zero, suc, Bool, true, false, List, [], ◌∷◌, ◌++◌, length, map, Option, Some, slice_get, refl}
use Rattle.std.proofs.Common.{inl, inr, ap, sym, ◌∙◌, arith, append-nil, cond, true≢false}
use Rattle.std.specs.List.{AllByRecursion, flat_map}
use Rattle.std.specs.Option.{is_some, option_map, option_map_or}
use Rattle.std.proofs.lemmas.Bool.{cases_Bool}
use Rattle.std.proofs.lemmas.List.Elements.{filter-append}
use Rattle.std.proofs.lemmas.Grind.{flat_map-append}
use Rattle.std.proofs.lemmas.Option.{slice_get_within}
use Rattle.pig_value.specs.declared.inputs.Input.{Input}
use Rattle.pig_value.specs.declared.outcomes.Kept.{Kept}
use Rattle.pig_value.specs.Orders.{bag_of, row_cmp}
use Rattle.pig_value.specs.Trees.{Tree}
use Rattle.pig_value.proofs.OrderLaws.{row_total}
use Rattle.pig_value.proofs.list_laws.Bags.{bag_once}
use Rattle.pig_value.proofs.list_laws.Indexing.{some_at}
use Rattle.pig_value.proofs.list_laws.Listing.{each_weaker}
use Rattle.pig_typed.specs.Blocks.{foreach_all, foreach_rows}
use Rattle.pig_typed.specs.Evaluation.{passes}
use Rattle.pig_plan.proofs.Lower.{meaning_of_node, names_lower}
use Rattle.pig_plan.proofs.Paths.{paths_of_node}
use Rattle.pig_plan.proofs.Seen.{seen}
use Rattle.pig_plan.specs.Meaning.{meaning, setting}
use Rattle.pig_plan.specs.Nodes.{Path, and_then, inputs_of, is_source, op_at, paths_of}
use Rattle.pig_plan.specs.Operators.{Setting, filter_rows, operator_rows}
use Rattle.pig_plan.specs.Plans.{Plan, PlanNode, PlanOp, p_load, p_filter, p_foreach, p_group_all, p_group, p_join, p_union, p_distinct, p_order, p_limit, p_store, p_assert, p_rank}
use Rattle.pig_plan.specs.Steps.{Folding, node_step, none_folds, rows_along, rows_to, step_rows, through}
use Rattle.pig_plan.specs.Valid.{IsPlan}

abbrev Rows : Type 0
Rows = List (List Tree)

-- ---- a step: of no rows none, and of joined rows what it makes of each

module _ (folding : Folding) where
  pub step_none : (o : PlanOp) → step_rows folding o [] ≡ []
  step_none (p_foreach input block) = by_test (is_some (folding input))
    where
      by_test : (b : Bool) → cond b [] (foreach_all block []) ≡ []
      by_test true = refl
      by_test false = refl
  step_none (p_load path delim columns) = refl
  step_none (p_filter input test) = refl
  step_none (p_group_all input) = refl
  step_none (p_group inputs) = refl
  step_none (p_join inputs side replicated) = refl
  step_none (p_union inputs) = refl
  step_none (p_distinct input) = refl
  step_none (p_order input keys) = refl
  step_none (p_limit input count) = refl
  step_none (p_store input path delim) = refl
  step_none (p_assert input test message) = refl
  step_none (p_rank input keys dense) = refl

  pub step_both : (o : PlanOp) (xs ys : Rows) → step_rows folding o (xs ++ ys) ≡ step_rows folding o xs ++ step_rows folding o ys
  step_both (p_filter input test) xs ys = filter-append (passes test) xs ys
  step_both (p_foreach input block) xs ys = by_test (is_some (folding input))
    where
      by_test : (b : Bool) → cond b (xs ++ ys) (foreach_all block (xs ++ ys)) ≡ cond b xs (foreach_all block xs) ++ cond b ys (foreach_all block ys)
      by_test true = refl
      by_test false = flat_map-append (foreach_rows block) xs ys
  step_both (p_load path delim columns) xs ys = refl
  step_both (p_group_all input) xs ys = refl
  step_both (p_group inputs) xs ys = refl
  step_both (p_join inputs side replicated) xs ys = refl
  step_both (p_union inputs) xs ys = refl
  step_both (p_distinct input) xs ys = refl
  step_both (p_order input keys) xs ys = refl
  step_both (p_limit input count) xs ys = refl
  step_both (p_store input path delim) xs ys = refl
  step_both (p_assert input test message) xs ys = refl
  step_both (p_rank input keys dense) xs ys = refl

  module _ (plan : Plan) where
    pub node_none : (k : ℕ) → node_step folding plan k [] ≡ []
    node_none k = by_op (op_at plan k)
      where
        by_op : (found : Option PlanOp) → option_map_or (λ o. step_rows folding o []) found [] ≡ []
        by_op Option.None = refl
        by_op (Some o) = step_none o

    pub node_both : (k : ℕ) (xs ys : Rows) → node_step folding plan k (xs ++ ys) ≡ node_step folding plan k xs ++ node_step folding plan k ys
    node_both k xs ys = by_op (op_at plan k)
      where
        by_op : (found : Option PlanOp) → option_map_or (λ o. step_rows folding o (xs ++ ys)) found (xs ++ ys) ≡ option_map_or (λ o. step_rows folding o xs) found xs ++ option_map_or (λ o. step_rows folding o ys) found ys
        by_op Option.None = refl
        by_op (Some o) = step_both o xs ys

    -- the same of nodes in turn
    pub through_none : (nodes : List ℕ) → through folding plan nodes [] ≡ []
    through_none [] = refl
    through_none (k ∷ nodes) = ap (through folding plan nodes) (node_none k) ∙ through_none nodes

    pub through_both : (nodes : List ℕ) (xs ys : Rows) → through folding plan nodes (xs ++ ys) ≡ through folding plan nodes xs ++ through folding plan nodes ys
    through_both [] xs ys = refl
    through_both (k ∷ nodes) xs ys = ap (through folding plan nodes) (node_both k xs ys) ∙ through_both nodes (node_step folding plan k xs) (node_step folding plan k ys)

    -- rows that come in pieces
    pub through_pieces : (nodes : List ℕ) (pieces : List Rows) → through folding plan nodes (flat_map (λ piece. piece) pieces) ≡ flat_map (through folding plan nodes) pieces
    through_pieces nodes [] = through_none nodes
    through_pieces nodes (piece ∷ pieces) =
        through_both nodes piece (flat_map (λ q. q) pieces) ∙ ap (λ rest. through folding plan nodes piece ++ rest) (through_pieces nodes pieces)

    -- one more node behind the others
    pub through_last : (nodes : List ℕ) (k : ℕ) (rows : Rows) → through folding plan (nodes ++ k ∷ []) rows ≡ node_step folding plan k (through folding plan nodes rows)
    through_last [] k rows = refl
    through_last (j ∷ nodes) k rows = through_last nodes k (node_step folding plan j rows)

    module _ (sources : ℕ → Rows) where
      abbrev come : List Path → Rows
      come paths = flat_map (rows_along folding plan sources) paths

      further : (k : ℕ) (paths : List Path) → come (map (and_then k) paths) ≡ node_step folding plan k (come paths)
      further k [] = sym (node_none k)
      further k (path ∷ paths) =
          ap (λ rows. rows ++ come (map (and_then k) paths)) (through_last path.nodes k (sources path.source))
          ∙ ap (λ rest. node_step folding plan k (rows_along folding plan sources path) ++ rest) (further k paths)
          ∙ sym (node_both k (rows_along folding plan sources path) (come paths))

      from_inputs : (k : ℕ) (nodes : List ℕ)
          → come (flat_map (λ i. map (and_then k) (paths_of plan i)) nodes) ≡ node_step folding plan k (flat_map (rows_to folding plan sources) nodes)
      from_inputs k [] = sym (node_none k)
      from_inputs k (n ∷ nodes) =
          flat_map-append (rows_along folding plan sources) (map (and_then k) (paths_of plan n)) (flat_map (λ i. map (and_then k) (paths_of plan i)) nodes)
          ∙ ap (λ rows. rows ++ come (flat_map (λ i. map (and_then k) (paths_of plan i)) nodes)) (further k (paths_of plan n))
          ∙ ap (λ rest. node_step folding plan k (rows_to folding plan sources n) ++ rest) (from_inputs k nodes)
          ∙ sym (node_both k (rows_to folding plan sources n) (flat_map (rows_to folding plan sources) nodes))

      module _ (valid : IsPlan plan) (k : ℕ) (node : PlanNode) (at : slice_get plan k ≡ Some node) where
        -- to a source come its own rows
        pub rows_source : is_source node.op ≡ true → rows_to folding plan sources k ≡ sources k
        rows_source source =
            ap come (paths_of_node plan valid k node at ∙ ap (λ b. cond b (own ∷ []) (flat_map (λ i. map (and_then k) (paths_of plan i)) (inputs_of node.op))) source)
            ∙ append-nil (sources k)
          where
            own : Path
            own = record { source = k; nodes = [] }

        -- to another node comes what it makes of all that comes to its inputs
        pub rows_step : is_source node.op ≡ false → rows_to folding plan sources k ≡ step_rows folding node.op (flat_map (rows_to folding plan sources) (inputs_of node.op))
        rows_step row_wise =
            ap come (paths_of_node plan valid k node at ∙ ap (λ b. cond b (own ∷ []) (flat_map (λ i. map (and_then k) (paths_of plan i)) (inputs_of node.op))) row_wise)
            ∙ from_inputs k (inputs_of node.op)
            ∙ ap (λ found. option_map_or (λ o. step_rows folding o all) (option_map (λ v. v.op) found) all) at
          where
            own : Path
            own = record { source = k; nodes = [] }

            all : Rows
            all = flat_map (rows_to folding plan sources) (inputs_of node.op)

-- ---- where no GROUP folds, a step is the operator

once : (rows : Rows) → bag_of (bag_of rows) ≡ bag_of rows
once rows = bag_once row_cmp row_total rows

module _ (s : Setting) (statement : ℕ) where
  pub row_step : (o : PlanOp) → is_source o ≡ false → (rows : ℕ → Rows) → bag_of (step_rows none_folds o (flat_map rows (inputs_of o))) ≡ bag_of (operator_rows s statement o rows)
  row_step (p_filter input test) h rows = ap (λ xs. bag_of (filter_rows test xs)) (append-nil (rows input)) ∙ sym (once (filter_rows test (rows input)))
  row_step (p_foreach input block) h rows = ap (λ xs. bag_of (foreach_all block xs)) (append-nil (rows input)) ∙ sym (once (foreach_all block (rows input)))
  row_step (p_union inputs) h rows = sym (once (flat_map rows inputs))
  row_step (p_store input path delim) h rows = ap bag_of (append-nil (rows input))
  row_step (p_assert input test message) h rows = ap bag_of (append-nil (rows input))
  row_step (p_load path delim columns) h rows = absurd (true≢false h)
  row_step (p_group_all input) h rows = absurd (true≢false h)
  row_step (p_group inputs) h rows = absurd (true≢false h)
  row_step (p_join inputs side replicated) h rows = absurd (true≢false h)
  row_step (p_distinct input) h rows = absurd (true≢false h)
  row_step (p_order input keys) h rows = absurd (true≢false h)
  row_step (p_limit input count) h rows = absurd (true≢false h)
  row_step (p_rank input keys dense) h rows = absurd (true≢false h)

  -- it sees its inputs as bags
  pub row_bags : (o : PlanOp) → is_source o ≡ false → (f g : ℕ → Rows) → AllByRecursion (λ i. bag_of (f i) ≡ bag_of (g i)) (inputs_of o)
      → bag_of (operator_rows s statement o f) ≡ bag_of (operator_rows s statement o g)
  row_bags (p_filter input test) h f g same = ap bag_of (seen f g s statement (p_filter input test) refl same)
  row_bags (p_foreach input block) h f g same = ap bag_of (seen f g s statement (p_foreach input block) refl same)
  row_bags (p_union inputs) h f g same = ap bag_of (seen f g s statement (p_union inputs) refl same)
  row_bags (p_store input path delim) h f g same = same.0
  row_bags (p_assert input test message) h f g same = same.0
  row_bags (p_load path delim columns) h f g same = absurd (true≢false h)
  row_bags (p_group_all input) h f g same = absurd (true≢false h)
  row_bags (p_group inputs) h f g same = absurd (true≢false h)
  row_bags (p_join inputs side replicated) h f g same = absurd (true≢false h)
  row_bags (p_distinct input) h f g same = absurd (true≢false h)
  row_bags (p_order input keys) h f g same = absurd (true≢false h)
  row_bags (p_limit input count) h f g same = absurd (true≢false h)
  row_bags (p_rank input keys dense) h f g same = absurd (true≢false h)

-- ---- all nodes up to one

module _ (plan : Plan) (inputs : List Input) (kept : List Kept) (valid : IsPlan plan) (sources : ℕ → Rows) (top : ℕ)
    (given : (k : ℕ) (node : PlanNode) → k ≤ top → slice_get plan k ≡ Some node → is_source node.op ≡ true → bag_of (sources k) ≡ bag_of (meaning plan inputs kept k)) where
  abbrev IsMeant : ℕ → Type 0
  IsMeant k = bag_of (rows_to none_folds plan sources k) ≡ bag_of (meaning plan inputs kept k)

  node_meant : (k : ℕ) (node : PlanNode) → k ≤ top → slice_get plan k ≡ Some node → AllByRecursion IsMeant (inputs_of node.op) → IsMeant k
  node_meant k node within at lower = elim (cases_Bool (is_source node.op)) [
    | inl source ↦ ap bag_of (rows_source none_folds plan sources valid k node at source) ∙ given k node within at source
    | inr row_wise ↦
        ap bag_of (rows_step none_folds plan sources valid k node at row_wise)
        ∙ row_step (setting plan inputs kept) node.statement node.op row_wise (rows_to none_folds plan sources)
        ∙ row_bags (setting plan inputs kept) node.statement node.op row_wise (rows_to none_folds plan sources) (meaning plan inputs kept) lower
        ∙ sym (ap bag_of (meaning_of_node plan inputs kept valid k node at))
  ]

  up_to : (n k : ℕ) → k < n → k ≤ top → k < length plan → IsMeant k
  up_to zero k below within there = absurd (omega (arith, below))
  up_to (suc n) k below within there =
      let found = some_at plan k there in
      let v : PlanNode = found.0 in
      node_meant k v within found.1
      (each_weaker (λ i. i < k) IsMeant (λ i lower. up_to n i (omega (arith, lower, below)) (omega (arith, lower, within)) (omega (arith, lower, there))) (inputs_of v.op) (names_lower plan valid k v found.1))

  pub paths_give_the_node : (k : ℕ) (node : PlanNode) → k ≤ top → slice_get plan k ≡ Some node → bag_of (rows_to none_folds plan sources k) ≡ bag_of (meaning plan inputs kept k)
  paths_give_the_node k node within at = up_to (suc k) k (omega arith) within (slice_get_within plan k node at)
