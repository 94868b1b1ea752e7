-- An operator looks at the rows of its inputs alone, and sees all but a list as a bag.
use Rattle.std.specs.Prelude.{◌≡◌, ◌<◌, ◌+◌, ℕ, List, [], ◌∷◌, ◌++◌, length, map, Some, slice_get, refl}
use Rattle.std.proofs.Common.{ap}
use Rattle.std.specs.List.{flat_map, AllByRecursion}
use Rattle.pig_value.proofs.list_laws.Listing.{each_weaker}
use Rattle.pig_value.specs.declared.inputs.Input.{Input}
use Rattle.pig_value.specs.declared.operators.Side.{Side}
use Rattle.pig_value.specs.declared.operators.Side.TheVariants as side
use Rattle.pig_value.specs.declared.outcomes.Kept.{Kept}
use Rattle.pig_value.specs.Orders.{bag_of, row_cmp}
use Rattle.pig_value.specs.Sorts.{distinct}
use Rattle.pig_value.specs.Trees.{Tree}
use Rattle.pig_typed.specs.Blocks.{foreach_all}
use Rattle.pig_plan.proofs.Unfolds.{result_is}
use Rattle.pig_plan.specs.ByKey.{cogroup_of, entries_of_input, gathered, group_of, join_of, key_of, outer_of}
use Rattle.pig_plan.specs.Meaning.{meaning, setting}
use Rattle.pig_plan.specs.Nodes.{inputs_of}
use Rattle.pig_plan.specs.Operators.{Setting, filter_rows, group_all, group_rows, join_rows, keyed_entries, keys_of, limit_rows, operator_rows, order_rows, rank_rows}
use Rattle.pig_plan.specs.Plans.{Keyed, Plan, PlanNode, PlanOp, p_load, p_filter, p_foreach, p_group_all, p_group, p_join, p_union, p_distinct, p_order, p_limit, p_store, p_assert, p_rank}

-- two meanings agree at these nodes
abbrev pub Agree : (f g : ℕ → List (List Tree)) → List ℕ → Type 0
Agree f g inputs = AllByRecursion (λ i. f i ≡ g i) inputs

module _ (f g : ℕ → List (List Tree)) where
  entries_agree : (i : ℕ) (inputs : List Keyed) → Agree f g (map (λ k. k.input) inputs) → keyed_entries i inputs f ≡ keyed_entries i inputs g
  entries_agree i [] h = refl
  entries_agree i (k ∷ inputs) h = λ j. entries_of_input (λ row. key_of (keys_of k.keys row)) i (h.0 j) ++ entries_agree (i + 1) inputs h.1 j

  union_agrees : (inputs : List ℕ) → Agree f g inputs → flat_map f inputs ≡ flat_map g inputs
  union_agrees [] h = refl
  union_agrees (i ∷ inputs) h = λ j. h.0 j ++ union_agrees inputs h.1 j

  group_agrees : (inputs : List Keyed) → Agree f g (map (λ k. k.input) inputs) → group_rows inputs f ≡ group_rows inputs g
  group_agrees [] h = refl
  group_agrees (i ∷ []) h = ap (gathered group_of) (entries_agree 0 (i ∷ []) h)
  group_agrees (i ∷ j ∷ inputs) h = ap (gathered (cogroup_of (map (λ k. k.inner) (i ∷ j ∷ inputs)) (length (i ∷ j ∷ inputs)))) (entries_agree 0 (i ∷ j ∷ inputs) h)

  outer_agrees : (s : Side) (width : ℕ → ℕ) (a b : Keyed) (inputs : List Keyed) → Agree f g (map (λ k. k.input) (a ∷ b ∷ inputs))
      → gathered (outer_of s (width a.input) (width b.input)) (keyed_entries 0 (a ∷ b ∷ inputs) f) ≡ gathered (outer_of s (width a.input) (width b.input)) (keyed_entries 0 (a ∷ b ∷ inputs) g)
  outer_agrees s width a b inputs h = ap (gathered (outer_of s (width a.input) (width b.input))) (entries_agree 0 (a ∷ b ∷ inputs) h)

  join_agrees : (s : Side) (width : ℕ → ℕ) (inputs : List Keyed) → Agree f g (map (λ k. k.input) inputs) → join_rows s width inputs f ≡ join_rows s width inputs g
  join_agrees side.Inner width inputs h = ap (gathered (join_of (length inputs))) (entries_agree 0 inputs h)
  join_agrees side.Left width [] h = refl
  join_agrees side.Right width [] h = refl
  join_agrees side.Full width [] h = refl
  join_agrees side.Left width (a ∷ []) h = refl
  join_agrees side.Right width (a ∷ []) h = refl
  join_agrees side.Full width (a ∷ []) h = refl
  join_agrees side.Left width (a ∷ b ∷ inputs) h = outer_agrees side.Left width a b inputs h
  join_agrees side.Right width (a ∷ b ∷ inputs) h = outer_agrees side.Right width a b inputs h
  join_agrees side.Full width (a ∷ b ∷ inputs) h = outer_agrees side.Full width a b inputs h

  pub looks : (s : Setting) (statement : ℕ) (o : PlanOp) → Agree f g (inputs_of o) → operator_rows s statement o f ≡ operator_rows s statement o g
  looks s statement (p_load path delim columns) h = refl
  looks s statement (p_filter input cond) h = ap (λ rows. bag_of (filter_rows cond rows)) h.0
  looks s statement (p_foreach input block) h = ap (λ rows. bag_of (foreach_all block rows)) h.0
  looks s statement (p_group_all input) h = ap (λ rows. bag_of (group_all rows)) h.0
  looks s statement (p_group inputs) h = ap bag_of (group_agrees inputs h)
  looks s statement (p_join inputs side replicated) h = ap bag_of (join_agrees side s.width inputs h)
  looks s statement (p_union inputs) h = ap bag_of (union_agrees inputs h)
  looks s statement (p_distinct input) h = ap (distinct row_cmp) h.0
  looks s statement (p_order input keys) h = ap (order_rows keys) h.0
  looks s statement (p_limit input count) h = ap (limit_rows (s.sorted input) count (s.kept statement)) h.0
  looks s statement (p_store input path delim) h = h.0
  looks s statement (p_assert input cond message) h = h.0
  looks s statement (p_rank input keys dense) h = ap (λ rows. bag_of (rank_rows keys dense rows)) h.0

-- a node names lower ones
abbrev pub NamesLower : ℕ → PlanNode → Type 0
NamesLower k node = AllByRecursion (λ i. i < k) (inputs_of node.op)

agree_below : (f g : ℕ → List (List Tree)) (k : ℕ) → ((j : ℕ) → j < k → f j ≡ g j) → (inputs : List ℕ) → AllByRecursion (λ i. i < k) inputs → Agree f g inputs
agree_below f g k same inputs h = each_weaker (λ i. i < k) (λ i. f i ≡ g i) (λ i below. same i below) inputs h

-- the meaning of a node is its operator on the meanings of its inputs
pub meaning_is : (plan : Plan) (inputs : List Input) (kept : List Kept) (k : ℕ) (node : PlanNode) → slice_get plan k ≡ Some node → NamesLower k node
    → meaning plan inputs kept k ≡ operator_rows (setting plan inputs kept) node.statement node.op (meaning plan inputs kept)
meaning_is plan inputs kept k node h lower =
    result_is (λ k node. operator_rows (setting plan inputs kept) node.statement node.op) [] plan k node h
    (λ f g same. looks f g (setting plan inputs kept) node.statement node.op (agree_below f g k same (inputs_of node.op) lower))
