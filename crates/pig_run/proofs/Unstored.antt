-- Where a script stores nothing, no node of its plan is live, so nothing was kept.
use Rattle.std.specs.Prelude.{◌≡◌, ◌+◌, ◌&&◌, ◌||◌, ℕ, Bool, true, false, List, [], ◌∷◌, drop, length, map, Option, Some, None, slice_get, refl}
use Rattle.std.proofs.Common.{ap, ◌∙◌, sym}
use Rattle.std.specs.List.{AllByRecursion, cons_option, filter, filter_map, range_with_len}
use Rattle.std.specs.Option.{option_map_or}
use Rattle.pig_value.proofs.list_laws.Listing.{each-drop, each_at, each_of_all, filter_none}
use Rattle.pig_value.specs.declared.outcomes.Kept.{Kept}
use Rattle.pig_plan.specs.Nodes.{bare_limits, is_bare, is_live, is_sorted, is_store, is_used, live, names}
use Rattle.pig_plan.specs.Plans.{Plan, PlanNode, PlanOp, p_load, p_filter, p_foreach, p_group_all, p_group, p_join, p_union, p_distinct, p_order, p_limit, p_store, p_assert, p_rank}
use Rattle.pig_physical.specs.Outs.{Outs}
use Rattle.pig_physical.specs.Running.{AreOutputs}
use Rattle.pig_reach.specs.Reach.{store_of, stores_of}
use Rattle.pig_reach.specs.declared.storing.Store.{Store}

abbrev StoresNothing : PlanNode → Type 0
StoresNothing node = is_store node.op ≡ false

store_told : (o : PlanOp) (statement : ℕ) → store_of (record { op = o; statement = statement }) ≡ None → is_store o ≡ false
store_told (p_load path delim columns) statement none = refl
store_told (p_filter input cond) statement none = refl
store_told (p_foreach input block) statement none = refl
store_told (p_group_all input) statement none = refl
store_told (p_group inputs) statement none = refl
store_told (p_join inputs side replicated) statement none = refl
store_told (p_union inputs) statement none = refl
store_told (p_distinct input) statement none = refl
store_told (p_order input keys) statement none = refl
store_told (p_limit input count) statement none = refl
store_told (p_store input path delim) statement none = absurd (cc)
store_told (p_assert input cond message) statement none = refl
store_told (p_rank input keys dense) statement none = refl

none_store : (plan : Plan) → stores_of plan ≡ [] → AllByRecursion StoresNothing plan
none_store [] none = tt
none_store (node ∷ plan) none = by_first (store_of node) refl none (none_store plan)
  where
    by_first : (found : Option Store) → store_of node ≡ found → cons_option found (stores_of plan) ≡ [] → (stores_of plan ≡ [] → AllByRecursion StoresNothing plan)
        → AllByRecursion StoresNothing (node ∷ plan)
    by_first None is rest more = (store_told node.op node.statement is, more rest)
    by_first (Some store) is rest more = absurd (cc)

never : (b : Bool) → ((b && false) || false) ≡ false
never true = refl
never false = refl

unused : (k n : ℕ) (plan : Plan) → AllByRecursion StoresNothing plan → is_used k n plan ≡ false
unused k n [] none = refl
unused k n (node ∷ plan) none =
    ap (λ b. (names node.op k && (b || is_used n (n + 1) plan)) || is_used k (n + 1) plan) none.0
    ∙ ap (λ b. (names node.op k && b) || is_used k (n + 1) plan) (unused n (n + 1) plan none.1)
    ∙ ap (λ b. (names node.op k && false) || b) (unused k (n + 1) plan none.1)
    ∙ never (names node.op k)

module _ (plan : Plan) (none : AllByRecursion StoresNothing plan) where
  dead : (k : ℕ) → is_live plan k ≡ false
  dead k = by_node (slice_get plan k) refl
    where
      lives : PlanNode → Bool
      lives node = is_store node.op || is_used k (k + 1) (drop (k + 1) plan)

      by_node : (found : Option PlanNode) → slice_get plan k ≡ found → is_live plan k ≡ false
      by_node None at = ap (λ o. option_map_or lives o false) at
      by_node (Some node) at =
          ap (λ o. option_map_or lives o false) at
          ∙ ap (λ b. b || is_used k (k + 1) (drop (k + 1) plan)) (each_at StoresNothing plan k node at none)
          ∙ unused k (k + 1) (drop (k + 1) plan) (each-drop StoresNothing (k + 1) plan none)

  none_live : live plan ≡ []
  none_live = filter_none (is_live plan) (range_with_len 0 (length plan)) (each_of_all (λ k. is_live plan k ≡ false) dead (range_with_len 0 (length plan)))

  none_bare : bare_limits plan ≡ []
  none_bare = ap (λ ks. filter (λ node. is_bare (is_sorted plan) node.op) (filter_map (slice_get plan) ks)) none_live

pub unstored_keeps_none : (plan : Plan) (outs : Outs) (kept : List Kept) → AreOutputs plan outs kept → stores_of plan ≡ [] → kept ≡ []
unstored_keeps_none plan outs [] are none = refl
unstored_keeps_none plan outs (k ∷ kept) are none =
    let same : map (λ k. k.statement) (k ∷ kept) ≡ [] = are.statements ∙ ap (map (λ node. node.statement)) (none_bare plan (none_store plan none)) in
    absurd (cc)
