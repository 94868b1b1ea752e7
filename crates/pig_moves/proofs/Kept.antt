-- A node that stands in two plans, over inputs that are the same in both, is the same in both; and what a node gives as to its kinds.
use Rattle.std.specs.Prelude.{◌≡◌, ◌<◌, ℕ, Bool, true, false, not, ◌&&◌, List, [], ◌∷◌, ◌++◌, length, take, drop, Option, Some, None, slice_get, refl}
use Rattle.std.proofs.Common.{ap, sym, ◌∙◌, arith, true≢false, append_assoc, append-nil}
use Rattle.std.specs.List.{AllByRecursion, list_any}
use Rattle.std.specs.Option.{is_some, option_and_then, option_map_or, unwrap_or}
use Rattle.std.proofs.lemmas.List.{length-append, take-append-drop, length-take-le}
use Rattle.std.proofs.lemmas.Option.{slice_get_within}
use Rattle.pig_value.proofs.list_laws.Listing.{each_weaker}
use Rattle.pig_value.specs.declared.inputs.Input.{Input}
use Rattle.pig_value.specs.declared.outcomes.Kept.{Kept}
use Rattle.pig_value.specs.declared.operators.Side.{Side}
use Rattle.pig_typed.specs.BlockKinds.{row_kinds}
use Rattle.pig_typed.specs.Typed.{Typed, TypedBlock}
use Rattle.pig_plan.proofs.Listed.{list_of_node, sorted_of_node}
use Rattle.pig_plan.proofs.Lower.{meaning_of_node, names_lower}
use Rattle.pig_plan.proofs.Unfolds.{before_is, result-append, result_before}
use Rattle.pig_plan.specs.Meaning.{kept_at, meaning, setting, width_at}
use Rattle.pig_plan.specs.NodeKinds.{Before, RowKinds, foreach_gives, group_gives, is_test, join_gives, kinds_at, kinds_step, node_gives, only_if, same_gives, tested_gives}
use Rattle.pig_plan.specs.Nodes.{inputs_of, is_list, is_sorted, lists, sorts}
use Rattle.pig_plan.specs.Operators.{operator_rows}
use Rattle.pig_plan.specs.Plans.{Keyed, Plan, PlanNode, p_filter, p_foreach, p_group, p_join, p_distinct}
use Rattle.pig_plan.specs.Renumbered.{IsSame}
use Rattle.pig_plan.specs.Results.{at_place, result_at, results}
use Rattle.pig_plan.specs.Valid.{IsPlan, fits, is_twin, op_writes_lf}
use Rattle.pig_plan.proofs.Renumbering.{gives_agree, lists_moved, renamed_itself, rows_moved, sorts_moved}
use Rattle.pig_moves.proofs.Keeps.{node_with}

-- ---- kinds

pub kinds_of_node : (p : Plan) → IsPlan p → (n : ℕ) (v : PlanNode) → slice_get p n ≡ Some v → kinds_at p n ≡ unwrap_or (node_gives (kinds_at p) v.op) None
kinds_of_node p valid n v stands =
    result_before kinds_step None p n v stands
    ∙ ap (λ o. unwrap_or o None)
    (gives_agree (at_place None (take n (results kinds_step None p))) (kinds_at p) v.op
    (each_weaker (λ i. i < n) (λ i. at_place None (take n (results kinds_step None p)) i ≡ kinds_at p i) (λ i lower. before_is kinds_step None p n i lower)
    (inputs_of v.op) (names_lower p valid n v stands)))

module _ {N R : Type 0} (step : ℕ → N → (ℕ → R) → R) (nothing : R) where
  more_results : (rest nodes : List N) (k : ℕ) → k < length nodes → result_at step nothing (nodes ++ rest) k ≡ result_at step nothing nodes k
  more_results [] nodes k h = ap (λ xs. result_at step nothing xs k) (append-nil nodes)
  more_results (x ∷ rest) nodes k h =
      let longer = length-append nodes (x ∷ []) in
      ap (λ xs. result_at step nothing xs k) (sym (append_assoc nodes (x ∷ []) rest))
      ∙ more_results rest (nodes ++ x ∷ []) k (omega (arith, h, longer))
      ∙ result-append step nothing nodes x k h

all_there : (p : Plan) (n i : ℕ) → n < length p → i < n → kinds_at (take n p) i ≡ kinds_at p i
all_there p n i within lower =
    let long : length (take n p) ≡ n = length-take-le n p (omega (arith, within)) in
    sym (more_results kinds_step None (drop n p) (take n p) i (omega (arith, long, lower)))
    ∙ ap (λ xs. kinds_at xs i) (take-append-drop n p)

both_first : (a b : Bool) → (a && b) ≡ true → a ≡ true
both_first true b h = refl
both_first false b h = h

pub gives_some : (p : Plan) → IsPlan p → (n : ℕ) (v : PlanNode) → slice_get p n ≡ Some v → is_some (node_gives (kinds_at p) v.op) ≡ true
gives_some p valid n v stands =
    let within : n < length p = slice_get_within p n v stands in
    let fitting : fits (take n p) v ≡ true = valid n v stands in
    ap is_some
    (sym (gives_agree (kinds_at (take n p)) (kinds_at p) v.op
    (each_weaker (λ i. i < n) (λ i. kinds_at (take n p) i ≡ kinds_at p i) (λ i lower. all_there p n i within lower) (inputs_of v.op) (names_lower p valid n v stands))))
    ∙ both_first (is_some (node_gives (kinds_at (take n p)) v.op)) (not (op_writes_lf v.op))
    (both_first (is_some (node_gives (kinds_at (take n p)) v.op) && not (op_writes_lf v.op)) (not (list_any (is_twin v) (take n p))) fitting)

tested_same : (c : Typed) (o : Option RowKinds) → is_some (tested_gives (λ n. o) 0 c) ≡ true → unwrap_or (tested_gives (λ n. o) 0 c) None ≡ o
tested_same c None h = absurd (true≢false (sym h))
tested_same c (Some row) h = by_test (is_test row c) h
  where
    by_test : (b : Bool) → is_some (only_if b (Some (Some row))) ≡ true → unwrap_or (only_if b (Some (Some row))) None ≡ Some row
    by_test true e = refl
    by_test false e = absurd (true≢false (sym e))

passed_same : (o : Option RowKinds) → unwrap_or (same_gives (λ n. o) 0) None ≡ o
passed_same None = refl
passed_same (Some row) = refl

-- a FILTER gives rows of its input's kinds, and so does a DISTINCT; the kinds of a FOREACH go by those of its input
pub filter_kinds : (p : Plan) → IsPlan p → (n input : ℕ) (c : Typed) (statement : ℕ) → slice_get p n ≡ Some (node_with (p_filter input c) statement) → kinds_at p n ≡ kinds_at p input
filter_kinds p valid n input c statement stands =
    kinds_of_node p valid n (node_with (p_filter input c) statement) stands
    ∙ tested_same c (kinds_at p input) (gives_some p valid n (node_with (p_filter input c) statement) stands)

pub distinct_kinds : (p : Plan) → IsPlan p → (n input statement : ℕ) → slice_get p n ≡ Some (node_with (p_distinct input) statement) → kinds_at p n ≡ kinds_at p input
distinct_kinds p valid n input statement stands =
    kinds_of_node p valid n (node_with (p_distinct input) statement) stands ∙ passed_same (kinds_at p input)

abbrev pub made_kinds : TypedBlock → Option RowKinds → Option RowKinds
made_kinds block o = unwrap_or (foreach_gives (λ n. o) 0 block) None

pub foreach_kinds : (p : Plan) → IsPlan p → (n input : ℕ) (block : TypedBlock) (statement : ℕ) → slice_get p n ≡ Some (node_with (p_foreach input block) statement)
    → kinds_at p n ≡ made_kinds block (kinds_at p input)
foreach_kinds p valid n input block statement stands = kinds_of_node p valid n (node_with (p_foreach input block) statement) stands

given_some : (o : Option RowKinds) → is_some (option_and_then (λ given. Some (Some given)) o) ≡ true → is_some o ≡ true
given_some None h = absurd (true≢false (sym h))
given_some (Some given) h = refl

-- its block is typed for rows of its input's kinds
pub foreach_typed : (p : Plan) → IsPlan p → (n input : ℕ) (block : TypedBlock) (statement : ℕ) → slice_get p n ≡ Some (node_with (p_foreach input block) statement)
    → (row : RowKinds) → kinds_at p input ≡ Some row → is_some (row_kinds block row) ≡ true
foreach_typed p valid n input block statement stands row is =
    given_some (row_kinds block row)
    (ap (λ o. is_some (foreach_gives (λ n. o) 0 block)) (sym is) ∙ gives_some p valid n (node_with (p_foreach input block) statement) stands)

abbrev pub grouped_kinds : Keyed → Option RowKinds → Option RowKinds
grouped_kinds k o = unwrap_or (group_gives (λ n. o) (k ∷ [])) None

pub group_kinds_of : (p : Plan) → IsPlan p → (n : ℕ) (k : Keyed) (statement : ℕ) → slice_get p n ≡ Some (node_with (p_group (k ∷ [])) statement) → kinds_at p n ≡ grouped_kinds k (kinds_at p k.input)
group_kinds_of p valid n k statement stands = kinds_of_node p valid n (node_with (p_group (k ∷ [])) statement) stands

abbrev pub joined_kinds : Before → List Keyed → Side → Bool → Option RowKinds
joined_kinds before inputs s replicated = unwrap_or (join_gives before inputs s replicated) None

pub join_kinds_of : (p : Plan) → IsPlan p → (n : ℕ) (inputs : List Keyed) (s : Side) (replicated : Bool) (statement : ℕ) → slice_get p n ≡ Some (node_with (p_join inputs s replicated) statement)
    → kinds_at p n ≡ joined_kinds (kinds_at p) inputs s replicated
join_kinds_of p valid n inputs s replicated statement stands = kinds_of_node p valid n (node_with (p_join inputs s replicated) statement) stands

-- ---- a node that stays

module _ (p q : Plan) (valid : IsPlan p) (valid_q : IsPlan q) where
  pub node_kept : (inputs : List Input) (kept : List Kept) (n : ℕ) (v : PlanNode) → slice_get p n ≡ Some v → slice_get q n ≡ Some v
      → AllByRecursion (IsSame p q (λ k. k) inputs kept) (inputs_of v.op) → IsSame p q (λ k. k) inputs kept n
  node_kept inputs kept n v stands there all = record {
    kinds = kinds_of_node q valid_q n v there
        ∙ ap (λ o. unwrap_or o None) (gives_agree (kinds_at q) (kinds_at p) v.op (each_weaker (IsSame p q (λ k. k) inputs kept) (λ i. kinds_at q i ≡ kinds_at p i) (λ i s. s.kinds) (inputs_of v.op) all))
        ∙ sym (kinds_of_node p valid n v stands);
    sorted = sorted_of_node q valid_q n v there
        ∙ ap (λ o. sorts o (is_sorted q)) (sym (renamed_itself v.op))
        ∙ sorts_moved (λ k. k) (is_sorted q) (is_sorted p) v.op (each_weaker (IsSame p q (λ k. k) inputs kept) (λ i. is_sorted q i ≡ is_sorted p i) (λ i s. s.sorted) (inputs_of v.op) all)
        ∙ sym (sorted_of_node p valid n v stands);
    rows = meaning_of_node q inputs kept valid_q n v there
        ∙ ap (λ o. operator_rows (setting q inputs kept) v.statement o (meaning q inputs kept)) (sym (renamed_itself v.op))
        ∙ rows_moved (λ k. k) inputs (kept_at kept) (width_at q) (width_at p) (is_sorted q) (is_sorted p) (meaning q inputs kept) (meaning p inputs kept) v.statement v.statement v.op
        (λ bare. refl)
        (each_weaker (IsSame p q (λ k. k) inputs kept) _ (λ i s. record { width = ap (λ o. option_map_or length o 0) s.kinds; sorted = s.sorted; rows = s.rows }) (inputs_of v.op) all)
        ∙ sym (meaning_of_node p inputs kept valid n v stands);
  }

  pub list_kept : (n : ℕ) (v : PlanNode) → slice_get p n ≡ Some v → slice_get q n ≡ Some v
      → AllByRecursion (λ i. is_sorted q i ≡ is_sorted p i) (inputs_of v.op) → AllByRecursion (λ i. is_list q i ≡ is_list p i) (inputs_of v.op) → is_list q n ≡ is_list p n
  list_kept n v stands there sorted listed =
      list_of_node q valid_q n v there
      ∙ ap (λ o. lists (is_sorted q) o (is_list q)) (sym (renamed_itself v.op))
      ∙ lists_moved (λ k. k) (is_list q) (is_list p) (is_sorted q) (is_sorted p) v.op sorted listed
      ∙ sym (list_of_node p valid n v stands)

  pub sorted_kept : (n : ℕ) (v : PlanNode) → slice_get p n ≡ Some v → slice_get q n ≡ Some v → AllByRecursion (λ i. is_sorted q i ≡ is_sorted p i) (inputs_of v.op) → is_sorted q n ≡ is_sorted p n
  sorted_kept n v stands there sorted =
      sorted_of_node q valid_q n v there
      ∙ ap (λ o. sorts o (is_sorted q)) (sym (renamed_itself v.op))
      ∙ sorts_moved (λ k. k) (is_sorted q) (is_sorted p) v.op sorted
      ∙ sym (sorted_of_node p valid n v stands)
