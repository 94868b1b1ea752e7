-- What a fitted operator has of the operator: its inputs, whether it stores, sorts, gives a list or is a bare LIMIT.
use Rattle.std.specs.Prelude.{◌≡◌, ℕ, Bool, not, List, refl}
use Rattle.std.specs.List.{AllByRecursion}
use Rattle.std.proofs.Common.{ap}
use Rattle.pig_plan.specs.Nodes.{inputs_of, is_bare, is_store, lists, sorts}
use Rattle.pig_plan.specs.Plans.{PlanOp, p_load, p_filter, p_foreach, p_group_all, p_group, p_join, p_union, p_distinct, p_order, p_limit, p_store, p_assert, p_rank}
use Rattle.pig_cuts.specs.Cuts.{NodeCut}
use Rattle.pig_cuts.specs.Plans.{fit_op}
use Rattle.pig_cuts.proofs.Keyed.{same_numbers}

module _ (cuts : ℕ → NodeCut) (marks : List Bool) where
  pub fit_inputs : (o : PlanOp) → inputs_of (fit_op cuts marks o) ≡ inputs_of o
  fit_inputs (p_load path delim columns) = refl
  fit_inputs (p_filter i c) = refl
  fit_inputs (p_foreach i block) = refl
  fit_inputs (p_group_all i) = refl
  fit_inputs (p_group inputs) = same_numbers (λ n row. row) cuts (λ n. n) inputs
  fit_inputs (p_join inputs s replicated) = same_numbers (λ n row. row) cuts (λ n. n) inputs
  fit_inputs (p_union ns) = refl
  fit_inputs (p_distinct i) = refl
  fit_inputs (p_order i keys) = refl
  fit_inputs (p_limit i count) = refl
  fit_inputs (p_store i path delim) = refl
  fit_inputs (p_assert i c message) = refl
  fit_inputs (p_rank i keys dense) = refl

  pub fit_store : (o : PlanOp) → is_store (fit_op cuts marks o) ≡ is_store o
  fit_store (p_load path delim columns) = refl
  fit_store (p_filter i c) = refl
  fit_store (p_foreach i block) = refl
  fit_store (p_group_all i) = refl
  fit_store (p_group inputs) = refl
  fit_store (p_join inputs s replicated) = refl
  fit_store (p_union ns) = refl
  fit_store (p_distinct i) = refl
  fit_store (p_order i keys) = refl
  fit_store (p_limit i count) = refl
  fit_store (p_store i path delim) = refl
  fit_store (p_assert i c message) = refl
  fit_store (p_rank i keys dense) = refl

  module _ (f g : ℕ → Bool) where
    abbrev Same : List ℕ → Type 0
    Same = AllByRecursion (λ i. f i ≡ g i)

    pub fit_sorts : (o : PlanOp) → Same (inputs_of o) → sorts (fit_op cuts marks o) f ≡ sorts o g
    fit_sorts (p_load path delim columns) h = refl
    fit_sorts (p_filter i c) h = refl
    fit_sorts (p_foreach i block) h = refl
    fit_sorts (p_group_all i) h = refl
    fit_sorts (p_group inputs) h = refl
    fit_sorts (p_join inputs s replicated) h = refl
    fit_sorts (p_union ns) h = refl
    fit_sorts (p_distinct i) h = refl
    fit_sorts (p_order i keys) h = refl
    fit_sorts (p_limit i count) h = refl
    fit_sorts (p_store i path delim) h = refl
    fit_sorts (p_assert i c message) h = h.0
    fit_sorts (p_rank i keys dense) h = refl

    pub fit_bare : (o : PlanOp) → Same (inputs_of o) → is_bare f (fit_op cuts marks o) ≡ is_bare g o
    fit_bare (p_load path delim columns) h = refl
    fit_bare (p_filter i c) h = refl
    fit_bare (p_foreach i block) h = refl
    fit_bare (p_group_all i) h = refl
    fit_bare (p_group inputs) h = refl
    fit_bare (p_join inputs s replicated) h = refl
    fit_bare (p_union ns) h = refl
    fit_bare (p_distinct i) h = refl
    fit_bare (p_order i keys) h = refl
    fit_bare (p_limit i count) h = ap not h.0
    fit_bare (p_store i path delim) h = refl
    fit_bare (p_assert i c message) h = refl
    fit_bare (p_rank i keys dense) h = refl

    pub fit_lists : (listed was : ℕ → Bool) (o : PlanOp) → Same (inputs_of o) → AllByRecursion (λ i. listed i ≡ was i) (inputs_of o) → lists f (fit_op cuts marks o) listed ≡ lists g o was
    fit_lists listed was (p_load path delim columns) h k = refl
    fit_lists listed was (p_filter i c) h k = refl
    fit_lists listed was (p_foreach i block) h k = refl
    fit_lists listed was (p_group_all i) h k = refl
    fit_lists listed was (p_group inputs) h k = refl
    fit_lists listed was (p_join inputs s replicated) h k = refl
    fit_lists listed was (p_union ns) h k = refl
    fit_lists listed was (p_distinct i) h k = refl
    fit_lists listed was (p_order i keys) h k = refl
    fit_lists listed was (p_limit i count) h k = h.0
    fit_lists listed was (p_store i path delim) h k = refl
    fit_lists listed was (p_assert i c message) h k = k.0
    fit_lists listed was (p_rank i keys dense) h k = refl
