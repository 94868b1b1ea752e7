-- A further node changes the meaning of none before it.
use Rattle.std.specs.Prelude.{◌≡◌, ◌<◌, ◌+◌, ℕ, Bool, true, false, List, [], ◌∷◌, ◌++◌, length, map, None, refl}
use Rattle.std.proofs.Common.{ap, sym, ◌∙◌, arith, suc, zero}
use Rattle.std.specs.List.{AllByRecursion}
use Rattle.std.specs.Option.{option_map_or}
use Rattle.pig_value.proofs.list_laws.Indexing.{some_at}
use Rattle.pig_value.proofs.list_laws.Listing.{each_weaker}
use Rattle.pig_value.specs.declared.inputs.Input.{Input}
use Rattle.pig_value.specs.declared.operators.Side.{Side}
use Rattle.pig_value.specs.declared.operators.Side.TheVariants as side
use Rattle.pig_value.specs.declared.outcomes.Kept.{Kept}
use Rattle.pig_value.specs.Orders.{bag_of}
use Rattle.pig_value.specs.Trees.{Tree}
use Rattle.pig_plan.proofs.Grows.{grows}
use Rattle.pig_plan.proofs.Looking.{looks}
use Rattle.pig_plan.proofs.Lower.{meaning_of_node, names_lower}
use Rattle.pig_plan.proofs.Unfolds.{get-front, result-append}
use Rattle.pig_plan.specs.ByKey.{gathered, outer_of}
use Rattle.pig_plan.specs.Meaning.{kept_at, meaning, setting, width_at}
use Rattle.pig_plan.specs.NodeKinds.{kinds_step}
use Rattle.pig_plan.specs.Nodes.{inputs_of, is_sorted, sorts}
use Rattle.pig_plan.specs.Operators.{Setting, join_rows, keyed_entries, limit_rows, operator_rows}
use Rattle.pig_plan.specs.Plans.{Keyed, Plan, PlanNode, PlanOp, p_load, p_filter, p_foreach, p_group_all, p_group, p_join, p_union, p_distinct, p_order, p_limit, p_store, p_assert, p_rank}
use Rattle.pig_plan.specs.Valid.{IsPlan, fits}

-- an operator asks of its inputs alone how wide and whether sorted they are
module _ (inputs : List Input) (kept : ℕ → List (List Tree)) (v w : ℕ → ℕ) (p q : ℕ → Bool) (rows : ℕ → List (List Tree)) where
  abbrev pub First : Setting
  First = record { inputs = inputs; kept = kept; width = v; sorted = p }

  abbrev pub Second : Setting
  Second = record { inputs = inputs; kept = kept; width = w; sorted = q }

  abbrev pub Same : ℕ → Type 0
  Same i = (v i ≡ w i) × (p i ≡ q i)

  outer_settled : (s : Side) (a b : Keyed) (more : List Keyed) → v a.input ≡ w a.input → v b.input ≡ w b.input
      → gathered (outer_of s (v a.input) (v b.input)) (keyed_entries 0 (a ∷ b ∷ more) rows) ≡ gathered (outer_of s (w a.input) (w b.input)) (keyed_entries 0 (a ∷ b ∷ more) rows)
  outer_settled s a b more h g = λ j. gathered (outer_of s (h j) (g j)) (keyed_entries 0 (a ∷ b ∷ more) rows)

  join_settled : (s : Side) (keyed : List Keyed) → AllByRecursion Same (map (λ k. k.input) keyed) → join_rows s v keyed rows ≡ join_rows s w keyed rows
  join_settled side.Inner keyed h = refl
  join_settled side.Left [] h = refl
  join_settled side.Right [] h = refl
  join_settled side.Full [] h = refl
  join_settled side.Left (a ∷ []) h = refl
  join_settled side.Right (a ∷ []) h = refl
  join_settled side.Full (a ∷ []) h = refl
  join_settled side.Left (a ∷ b ∷ more) h = outer_settled side.Left a b more h.0.0 h.1.0.0
  join_settled side.Right (a ∷ b ∷ more) h = outer_settled side.Right a b more h.0.0 h.1.0.0
  join_settled side.Full (a ∷ b ∷ more) h = outer_settled side.Full a b more h.0.0 h.1.0.0

  pub settled : (statement : ℕ) (o : PlanOp) → AllByRecursion Same (inputs_of o) → operator_rows First statement o rows ≡ operator_rows Second statement o rows
  settled statement (p_load path delim columns) h = refl
  settled statement (p_filter input cond) h = refl
  settled statement (p_foreach input block) h = refl
  settled statement (p_group_all input) h = refl
  settled statement (p_group keyed) h = refl
  settled statement (p_join keyed s replicated) h = ap bag_of (join_settled s keyed h)
  settled statement (p_union numbers) h = refl
  settled statement (p_distinct input) h = refl
  settled statement (p_order input keys) h = refl
  settled statement (p_limit input count) h = ap (λ b. limit_rows b count (kept statement) (rows input)) h.0.1
  settled statement (p_store input path delim) h = refl
  settled statement (p_assert input cond message) h = refl
  settled statement (p_rank input keys dense) h = refl

module _ (plan : Plan) (node : PlanNode) (inputs : List Input) (kept : List Kept) (valid : IsPlan plan) (fitting : fits plan node ≡ true) where
  abbrev grown : Plan
  grown = plan ++ node ∷ []

  abbrev StaysSame : ℕ → Type 0
  StaysSame k = meaning grown inputs kept k ≡ meaning plan inputs kept k

  same_setting : (i : ℕ) → i < length plan → (width_at grown i ≡ width_at plan i) × (is_sorted grown i ≡ is_sorted plan i)
  same_setting i h = (ap (λ o. option_map_or length o 0) (result-append kinds_step None plan node i h), result-append (λ k n. sorts n.op) false plan node i h)

  node_same : (k : ℕ) → k < length plan → ((i : ℕ) → i < k → StaysSame i) → StaysSame k
  node_same k h lower_same =
      let found = some_at plan k h in
      let v : PlanNode = found.0 in
      let lower : AllByRecursion (λ i. i < k) (inputs_of v.op) = names_lower plan valid k v found.1 in
      meaning_of_node grown inputs kept (grows plan node valid fitting) k v (get-front plan (node ∷ []) k h ∙ found.1)
      ∙ settled inputs (kept_at kept) (width_at grown) (width_at plan) (is_sorted grown) (is_sorted plan) (meaning grown inputs kept) v.statement v.op
      (each_weaker (λ i. i < k) (λ i. (width_at grown i ≡ width_at plan i) × (is_sorted grown i ≡ is_sorted plan i)) (λ i below. same_setting i (omega (arith, below, h))) (inputs_of v.op) lower)
      ∙ looks (meaning grown inputs kept) (meaning plan inputs kept) (setting plan inputs kept) v.statement v.op
      (each_weaker (λ i. i < k) StaysSame lower_same (inputs_of v.op) lower)
      ∙ sym (meaning_of_node plan inputs kept valid k v found.1)

  all_same : (n k : ℕ) → k < n → k < length plan → StaysSame k
  all_same zero k h g = absurd (omega (arith, h))
  all_same (suc n) k h g = node_same k g (λ i below. all_same n i (omega (arith, below, h)) (omega (arith, below, g)))

  pub meaning_stays : (k : ℕ) → k < length plan → meaning (plan ++ node ∷ []) inputs kept k ≡ meaning plan inputs kept k
  meaning_stays k h = all_same (k + 1) k (omega (arith)) h
