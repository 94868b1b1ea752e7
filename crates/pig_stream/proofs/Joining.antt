-- Rows that come in batches: what they don't meet, joined.
use Rattle.std.specs.Prelude.{◌≡◌, ℕ, suc, codes, Bool, true, false, ◌||◌, ◌&&◌, not, List, [], ◌∷◌, ◌++◌, length, get_or, replicate, Option, Some, None, slice_get, refl}
use Rattle.std.proofs.Common.{ap, sym, ◌∙◌, cond, rules, true≢false}
use Rattle.std.specs.Int.{w64}
use Rattle.std.specs.List.{AllByRecursion, list_all, list_any}
use Rattle.std.specs.Str.{IsUtf8}
use Rattle.std.proofs.lemmas.Int.{SFits-int_wrap}
use Rattle.std.proofs.lemmas.Str.{IsUtf8-from_ascii}
use Rattle.std.specs.Option.{is_some, option_map, option_map_or}
use Rattle.std.proofs.lemmas.List.Folds.{list_all-append}
use Rattle.pig_value.specs.Trees.{Tree}
use Rattle.pig_value.specs.Valid.{AreRows, IsValue, IsRow}
use Rattle.pig_value.proofs.list_laws.Listing.{each_weaker, each_at}
use Rattle.pig_value.proofs.ValidLaws.{row_each, rows_each}
use Rattle.pig_builtins.proofs.ValuesKept.{values_kept}
use Rattle.pig_typed.proofs.ValuesCarried.{are_rows, values_carried}
use Rattle.pig_typed.specs.Blocks.{foreach_all}
use Rattle.pig_typed.specs.Evaluation.{passes}
use Rattle.pig_plan.proofs.Carries.{step_held}
use Rattle.pig_plan.proofs.Through.{node_both, node_none}
use Rattle.pig_plan.specs.Laws.{OpLiteralsAre, PlanLiteralsAre}
use Rattle.pig_plan.specs.Nodes.{op_at}
use Rattle.pig_plan.specs.Plans.{Plan, PlanNode, PlanOp, p_load, p_filter, p_foreach, p_group_all, p_group, p_join, p_union, p_distinct, p_order, p_limit, p_store, p_assert, p_rank}
use Rattle.pig_plan.specs.Steps.{AreFoldMarks, Folding, node_step, step_rows, through}
use Rattle.pig_stream.specs.Stepping.{any_block, marked_folding}
use Rattle.pig_plan.specs.Asserts.{not_met, not_met_at, unmet_on}
use Rattle.pig_stream.specs.Unmet.{either_of, fails, fails_at, fails_on, marked, statement_of, is_assert, is_assert_at}

abbrev Rows : Type 0
Rows = List (List Tree)

-- ---- a node

either : (x y : Bool) → (not x || not y) ≡ not (x && y)
either true y = refl
either false y = refl

fails_both : (o : PlanOp) (xs ys : Rows) → (fails o xs || fails o ys) ≡ fails o (xs ++ ys)
fails_both (p_assert input test message) xs ys = either (list_all (passes test) xs) (list_all (passes test) ys) ∙ ap not (sym (list_all-append (passes test) xs ys))
fails_both (p_load path delim columns) xs ys = refl
fails_both (p_filter input test) xs ys = refl
fails_both (p_foreach input block) xs ys = refl
fails_both (p_group_all input) xs ys = refl
fails_both (p_group inputs) xs ys = refl
fails_both (p_join inputs side replicated) xs ys = refl
fails_both (p_union inputs) xs ys = refl
fails_both (p_distinct input) xs ys = refl
fails_both (p_order input keys) xs ys = refl
fails_both (p_limit input count) xs ys = refl
fails_both (p_store input path delim) xs ys = refl
fails_both (p_rank input keys dense) xs ys = refl

fails_none : (o : PlanOp) → fails o [] ≡ false
fails_none (p_assert input test message) = refl
fails_none (p_load path delim columns) = refl
fails_none (p_filter input test) = refl
fails_none (p_foreach input block) = refl
fails_none (p_group_all input) = refl
fails_none (p_group inputs) = refl
fails_none (p_join inputs side replicated) = refl
fails_none (p_union inputs) = refl
fails_none (p_distinct input) = refl
fails_none (p_order input keys) = refl
fails_none (p_limit input count) = refl
fails_none (p_store input path delim) = refl
fails_none (p_rank input keys dense) = refl

fails_alike : (o : PlanOp) (xs ys : Rows) → is_assert o ≡ false → fails o xs ≡ fails o ys
fails_alike (p_assert input test message) xs ys none = absurd (true≢false none)
fails_alike (p_load path delim columns) xs ys none = refl
fails_alike (p_filter input test) xs ys none = refl
fails_alike (p_foreach input block) xs ys none = refl
fails_alike (p_group_all input) xs ys none = refl
fails_alike (p_group inputs) xs ys none = refl
fails_alike (p_join inputs side replicated) xs ys none = refl
fails_alike (p_union inputs) xs ys none = refl
fails_alike (p_distinct input) xs ys none = refl
fails_alike (p_order input keys) xs ys none = refl
fails_alike (p_limit input count) xs ys none = refl
fails_alike (p_store input path delim) xs ys none = refl
fails_alike (p_rank input keys dense) xs ys none = refl

neither : (x y : Bool) → (x || y) ≡ false → (x ≡ false) × (y ≡ false)
neither true y e = absurd (true≢false e)
neither false y e = (refl, e)

chosen : {X : Type 0} (b : Bool) (xs : List X) → cond b [] xs ≡ cond (not b) xs []
chosen true xs = refl
chosen false xs = refl

never : {X : Type 0} (b : Bool) → b ≡ false → (xs : List X) → [] ≡ cond b xs []
never b is xs = ap (λ c. cond c xs []) (sym is)

met_is : (statement : ℕ) (o : PlanOp) (rows : Rows) → not_met statement o rows ≡ cond (fails o rows) (statement ∷ []) []
met_is statement (p_assert input test message) rows = chosen (list_all (passes test) rows) (statement ∷ [])
met_is statement (p_load path delim columns) rows = refl
met_is statement (p_filter input test) rows = refl
met_is statement (p_foreach input block) rows = refl
met_is statement (p_group_all input) rows = refl
met_is statement (p_group inputs) rows = refl
met_is statement (p_join inputs side replicated) rows = refl
met_is statement (p_union inputs) rows = refl
met_is statement (p_distinct input) rows = refl
met_is statement (p_order input keys) rows = refl
met_is statement (p_limit input count) rows = refl
met_is statement (p_store input path delim) rows = refl
met_is statement (p_rank input keys dense) rows = refl

module _ (plan : Plan) (k : ℕ) where
  node_fails_both : (xs ys : Rows) → (fails_at plan k xs || fails_at plan k ys) ≡ fails_at plan k (xs ++ ys)
  node_fails_both xs ys = by_node (slice_get plan k)
    where
      by_node : (found : Option PlanNode) → (option_map_or (λ o. fails o xs) (option_map (λ node. node.op) found) false || option_map_or (λ o. fails o ys) (option_map (λ node. node.op) found) false)
          ≡ option_map_or (λ o. fails o (xs ++ ys)) (option_map (λ node. node.op) found) false
      by_node None = refl
      by_node (Some node) = fails_both node.op xs ys

  node_fails_none : fails_at plan k [] ≡ false
  node_fails_none = by_node (slice_get plan k)
    where
      by_node : (found : Option PlanNode) → option_map_or (λ o. fails o []) (option_map (λ node. node.op) found) false ≡ false
      by_node None = refl
      by_node (Some node) = fails_none node.op

  node_fails_alike : (xs ys : Rows) → is_assert_at plan k ≡ false → fails_at plan k xs ≡ fails_at plan k ys
  node_fails_alike xs ys none = by_node (slice_get plan k) none
    where
      by_node : (found : Option PlanNode) → option_map_or is_assert (option_map (λ node. node.op) found) false ≡ false
          → option_map_or (λ o. fails o xs) (option_map (λ node. node.op) found) false ≡ option_map_or (λ o. fails o ys) (option_map (λ node. node.op) found) false
      by_node None e = refl
      by_node (Some node) e = fails_alike node.op xs ys e

  node_met_is : (rows : Rows) → cond (fails_at plan k rows) (statement_of plan k) [] ≡ not_met_at plan k rows
  node_met_is rows = by_node (slice_get plan k)
    where
      by_node : (found : Option PlanNode) → cond (option_map_or (λ o. fails o rows) (option_map (λ node. node.op) found) false) (option_map_or (λ node. node.statement ∷ []) found []) []
          ≡ option_map_or (λ node. not_met node.statement node.op rows) found []
      by_node None = refl
      by_node (Some node) = sym (met_is node.statement node.op rows)

word_is_text : IsUtf8 (codes "all")
word_is_text = IsUtf8-from_ascii (codes "all") (search rules)

-- ---- nodes in turn

module _ (folding : Folding) (plan : Plan) where
  pub fails_joined : (nodes : List ℕ) (xs ys : Rows) → either_of (fails_on folding plan nodes xs) (fails_on folding plan nodes ys) ≡ fails_on folding plan nodes (xs ++ ys)
  fails_joined [] xs ys = refl
  fails_joined (k ∷ nodes) xs ys =
      ap (λ b. b ∷ either_of (fails_on folding plan nodes (node_step folding plan k xs)) (fails_on folding plan nodes (node_step folding plan k ys))) (node_fails_both plan k xs ys)
      ∙ ap (λ bs. fails_at plan k (xs ++ ys) ∷ bs)
      (fails_joined nodes (node_step folding plan k xs) (node_step folding plan k ys) ∙ ap (fails_on folding plan nodes) (sym (node_both folding plan k xs ys)))

  pub fails_on_none : (nodes : List ℕ) → replicate (length nodes) false ≡ fails_on folding plan nodes []
  fails_on_none [] = refl
  fails_on_none (k ∷ nodes) =
      ap (λ bs. false ∷ bs) (fails_on_none nodes ∙ ap (fails_on folding plan nodes) (sym (node_none folding plan k)))
      ∙ ap (λ b. b ∷ fails_on folding plan nodes (node_step folding plan k [])) (sym (node_fails_none plan k))

  pub fails_length : (nodes : List ℕ) (rows : Rows) → length (fails_on folding plan nodes rows) ≡ length nodes
  fails_length [] rows = refl
  fails_length (k ∷ nodes) rows = ap suc (fails_length nodes (node_step folding plan k rows))

  pub marked_is : (nodes : List ℕ) (rows : Rows) → marked plan nodes (fails_on folding plan nodes rows) ≡ unmet_on folding plan nodes rows
  marked_is [] rows = refl
  marked_is (k ∷ nodes) rows =
      ap (λ l. l ++ marked plan nodes (fails_on folding plan nodes (node_step folding plan k rows))) (node_met_is plan k rows)
      ∙ ap (λ l. not_met_at plan k rows ++ l) (marked_is nodes (node_step folding plan k rows))

  -- where there is no ASSERT, it does not matter which rows there are
  pub none_fail : (nodes : List ℕ) (xs ys : Rows) → list_any (is_assert_at plan) nodes ≡ false → fails_on folding plan nodes xs ≡ fails_on folding plan nodes ys
  none_fail [] xs ys none = refl
  none_fail (k ∷ nodes) xs ys none =
      let parts = neither (is_assert_at plan k) (list_any (is_assert_at plan) nodes) none in
      (λ i. node_fails_alike plan k xs ys parts.0 i ∷ none_fail nodes (node_step folding plan k xs) (node_step folding plan k ys) parts.1 i)

  -- rows of values stay so
  step_values : (k : ℕ) (rows : Rows) → PlanLiteralsAre IsValue plan → AreRows rows → AreRows (node_step folding plan k rows)
  step_values k rows literals h = by_node (slice_get plan k) refl
    where
      by_node : (found : Option PlanNode) → slice_get plan k ≡ found → AreRows (option_map_or (λ o. step_rows folding o rows) (option_map (λ node. node.op) found) rows)
      by_node None e = h
      by_node (Some node) e =
          are_rows (step_rows folding node.op rows)
          (step_held IsValue (values_carried values_kept) (λ z. SFits-int_wrap w64 z) word_is_text folding node.op (each_at (λ n. OpLiteralsAre IsValue n.op) plan k node e literals) rows
          (each_weaker IsRow (AllByRecursion IsValue) (λ row v. row_each row v) rows (rows_each rows h)))

  pub through_values : (nodes : List ℕ) (rows : Rows) → PlanLiteralsAre IsValue plan → AreRows rows → AreRows (through folding plan nodes rows)
  through_values [] rows literals h = h
  through_values (k ∷ nodes) rows literals h = through_values nodes (node_step folding plan k rows) literals (step_values k rows literals h)

-- ---- marks stand for what folds

mark_is : (b : Bool) → is_some (cond b (Some any_block) None) ≡ b
mark_is true = refl
mark_is false = refl

module _ (folding : Folding) (folded : List Bool) (are : AreFoldMarks folding folded) where
  abbrev marks : Folding
  marks = marked_folding folded

  step_marked : (o : PlanOp) (rows : Rows) → step_rows folding o rows ≡ step_rows marks o rows
  step_marked (p_foreach input block) rows = ap (λ b. cond b rows (foreach_all block rows)) (sym (are input) ∙ sym (mark_is (get_or folded input false)))
  step_marked (p_load path delim columns) rows = refl
  step_marked (p_filter input test) rows = refl
  step_marked (p_group_all input) rows = refl
  step_marked (p_group inputs) rows = refl
  step_marked (p_join inputs side replicated) rows = refl
  step_marked (p_union inputs) rows = refl
  step_marked (p_distinct input) rows = refl
  step_marked (p_order input keys) rows = refl
  step_marked (p_limit input count) rows = refl
  step_marked (p_store input path delim) rows = refl
  step_marked (p_assert input test message) rows = refl
  step_marked (p_rank input keys dense) rows = refl

  node_marked : (plan : Plan) (k : ℕ) (rows : Rows) → node_step folding plan k rows ≡ node_step marks plan k rows
  node_marked plan k rows = by_op (op_at plan k)
    where
      by_op : (found : Option PlanOp) → option_map_or (λ o. step_rows folding o rows) found rows ≡ option_map_or (λ o. step_rows marks o rows) found rows
      by_op None = refl
      by_op (Some o) = step_marked o rows

  pub through_marked : (plan : Plan) (nodes : List ℕ) (rows : Rows) → through folding plan nodes rows ≡ through marks plan nodes rows
  through_marked plan [] rows = refl
  through_marked plan (k ∷ nodes) rows = through_marked plan nodes (node_step folding plan k rows) ∙ ap (through marks plan nodes) (node_marked plan k rows)

  pub unmet_marked : (plan : Plan) (nodes : List ℕ) (rows : Rows) → unmet_on folding plan nodes rows ≡ unmet_on marks plan nodes rows
  unmet_marked plan [] rows = refl
  unmet_marked plan (k ∷ nodes) rows =
      ap (λ l. not_met_at plan k rows ++ l) (unmet_marked plan nodes (node_step folding plan k rows) ∙ ap (unmet_on marks plan nodes) (node_marked plan k rows))
