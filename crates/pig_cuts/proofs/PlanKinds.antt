-- In a cut plan each node has the kinds that are left of those that it had.
use Rattle.std.specs.Prelude.{◌≡◌, ◌<◌, ◌≤◌, ◌&&◌, ℕ, suc, zero, Bool, true, not, List, [], ◌∷◌, ◌++◌, length, take, drop, Option, Some, None, slice_get, refl}
use Rattle.std.specs.List.{AllByRecursion, list_any}
use Rattle.std.specs.Option.{is_some, option_map_or, unwrap_or}
use Rattle.std.proofs.Common.{ap, sym, ◌∙◌, subst, arith, true≢false, append_assoc, append-nil}
use Rattle.std.proofs.lemmas.Bool.{and_parts}
use Rattle.std.proofs.lemmas.List.{length-append, length-take-le, take-append-drop}
use Rattle.std.proofs.lemmas.Option.{none-some, slice_get_within}
use Rattle.pig_value.proofs.list_laws.Indexing.{some_at}
use Rattle.pig_value.proofs.list_laws.Listing.{each_weaker, some_same}
use Rattle.pig_plan.proofs.Lower.{inputs_found, names_lower}
use Rattle.pig_plan.proofs.Meanings.{each_both}
use Rattle.pig_plan.proofs.Renumbering.{gives_agree}
use Rattle.pig_plan.proofs.Unfolds.{before_is, result-append, result_before}
use Rattle.pig_plan.specs.Meaning.{width_at}
use Rattle.pig_plan.specs.NodeKinds.{RowKinds, kinds_at, kinds_step, kinds_table, node_gives}
use Rattle.pig_plan.specs.Nodes.{inputs_of}
use Rattle.pig_plan.specs.Plans.{Plan, PlanNode}
use Rattle.pig_plan.specs.Results.{at_place, result_at}
use Rattle.pig_plan.specs.Valid.{IsPlan, fits, is_twin, op_writes_lf}
use Rattle.pig_cuts.specs.Cuts.{NodeCut, cut_at}
use Rattle.pig_cuts.specs.Plans.{IsNodeCut, fit_op, own_cut}
use Rattle.pig_cuts.proofs.LeftKeyed.{IsInputLeft}
use Rattle.pig_cuts.proofs.LeftKinds.{AreLeft}
use Rattle.pig_cuts.proofs.LeftNodes.{GivesLeft, node_fitted}

-- ---- one plan

module _ {N R : Type 0} (step : ℕ → N → (ℕ → R) → R) (nothing : R) where
  more_nodes : (more nodes : List N) (k : ℕ) → k < length nodes → result_at step nothing (nodes ++ more) k ≡ result_at step nothing nodes k
  more_nodes [] nodes k h = ap (λ ns. result_at step nothing ns k) (append-nil nodes)
  more_nodes (node ∷ more) nodes k h =
      let longer = length-append nodes (node ∷ []) in
      ap (λ ns. result_at step nothing ns k) (sym (append_assoc nodes (node ∷ []) more)) ∙ more_nodes more (nodes ++ node ∷ []) k (omega (arith, h, longer)) ∙ result-append step nothing nodes node k h

  -- the first nodes have their results
  pub first_nodes : (nodes : List N) (n k : ℕ) → n ≤ length nodes → k < n → result_at step nothing (take n nodes) k ≡ result_at step nothing nodes k
  first_nodes nodes n k within below =
      let long : length (take n nodes) ≡ n = length-take-le n nodes within in
      sym (more_nodes (drop n nodes) (take n nodes) k (omega (arith, long, below))) ∙ ap (λ ns. result_at step nothing ns k) (take-append-drop n nodes)

some_of : {A : Type 0} (o : Option A) → is_some o ≡ true → (a : A) × (o ≡ Some a)
some_of None h = absurd (true≢false (sym h))
some_of (Some a) h = (a, refl)

module _ (p : Plan) (valid : IsPlan p) where
  -- what a node gives
  pub record Gives (k : ℕ) (v : PlanNode) : Type 0 where
    pub given : Option RowKinds
    pub is : node_gives (kinds_at p) v.op ≡ Some given
    pub kinds : kinds_at p k ≡ given

  pub gives : (k : ℕ) (v : PlanNode) → slice_get p k ≡ Some v → Gives k v
  gives k v stands =
      let within : k < length p = slice_get_within p k v stands in
      let fitting : fits (take k p) v ≡ true = valid k v stands in
      let there = (and_parts (is_some (node_gives (kinds_at (take k p)) v.op)) (not (op_writes_lf v.op))
      (and_parts (is_some (node_gives (kinds_at (take k p)) v.op) && not (op_writes_lf v.op)) (not (list_any (is_twin v) (take k p))) fitting).0).0 in
      let found = some_of (node_gives (kinds_at (take k p)) v.op) there in
      let lower = names_lower p valid k v stands in
      let is : node_gives (kinds_at p) v.op ≡ Some found.0 =
      gives_agree (kinds_at p) (kinds_at (take k p)) v.op
      (each_weaker (λ i. i < k) (λ i. kinds_at p i ≡ kinds_at (take k p) i) (λ i below. sym (first_nodes kinds_step None p k i (omega (arith, within)) below)) (inputs_of v.op) lower)
      ∙ found.1 in
      record {
        given = found.0;
        is = is;
        kinds = result_before kinds_step None p k v stands
            ∙ ap (λ o. unwrap_or o None)
            (gives_agree (at_place None (take k (kinds_table p))) (kinds_at p) v.op
            (each_weaker (λ i. i < k) (λ i. at_place None (take k (kinds_table p)) i ≡ kinds_at p i) (λ i below. before_is kinds_step None p k i below) (inputs_of v.op) lower)
            ∙ is);
      }

-- ---- a plan and what is cut of it, up to a node

module _ (marks : ℕ → List Bool) (cuts : List NodeCut) (p q : Plan) (valid : IsPlan p) (valid_q : IsPlan q) (end : ℕ) (long : end ≤ length p)
    (each : (k : ℕ) (v : PlanNode) → k < end → slice_get p k ≡ Some v → IsNodeCut marks cuts p q k v) where
  abbrev pub LeftInput : ℕ → Type 0
  LeftInput = IsInputLeft (cut_at cuts) (width_at p) (kinds_at p) (kinds_at q)

  pub record IsLeftAt (k : ℕ) (ks : RowKinds) : Type 0 where
    pub left : RowKinds
    pub is : kinds_at q k ≡ Some left
    pub are : AreLeft (cut_at cuts) (cut_at cuts k) ks left

  abbrev Lefts : ℕ → Type 0
  Lefts k = (ks : RowKinds) → kinds_at p k ≡ Some ks → IsLeftAt k ks

  inputs_from : (k : ℕ) (v : PlanNode) → slice_get p k ≡ Some v → ((i : ℕ) → i < k → Lefts i) → AllByRecursion LeftInput (inputs_of v.op)
  inputs_from k v stands lower =
      let given = gives p valid k v stands in
      each_both (λ i. i < k) (λ i. is_some (kinds_at p i) ≡ true) LeftInput
      (λ i below there.
      let found = some_of (kinds_at p i) there in
      let left = lower i below found.0 found.1 in
      record { kinds = found.0; kinds_left = left.left; was = found.1; is = left.is; are = left.are; wide = ap (λ o. option_map_or length o 0) found.1 })
      (inputs_of v.op) (names_lower p valid k v stands) (inputs_found (kinds_at p) v.op given.given given.is)

  fitted_left : (k : ℕ) (o : Option RowKinds) (own : NodeCut) (made : Option RowKinds) (ks : RowKinds) → o ≡ Some ks → own ≡ cut_at cuts k → kinds_at q k ≡ made
      → GivesLeft (cut_at cuts) (width_at p) (kinds_at p) (kinds_at q) own o made → IsLeftAt k ks
  fitted_left k None own made ks e f g h = absurd (none-some ks e)
  fitted_left k (Some found) own None ks e f g h = absurd h
  fitted_left k (Some found) own (Some ls) ks e f g h = record { left = ls; is = g; are = subst (λ xs. AreLeft (cut_at cuts) (cut_at cuts k) xs ls) (some_same found ks e) (subst (λ o. AreLeft (cut_at cuts) o found ls) f h) }

  node_left : (k : ℕ) (v : PlanNode) → slice_get p k ≡ Some v → k < end → ((i : ℕ) → i < k → Lefts i) → Lefts k
  node_left k v stands below lower ks e =
      let c = each k v below stands in
      let given = gives p valid k v stands in
      let made = node_fitted (cut_at cuts) (width_at p) (kinds_at p) (kinds_at q) (marks k) v.op c.may (inputs_from k v stands lower) given.given given.is in
      let given_q = gives q valid_q k (record { op = fit_op (cut_at cuts) (marks k) v.op; statement = v.statement }) c.stands in
      let same : given_q.given ≡ made.made = some_same given_q.given made.made (sym given_q.is ∙ made.is) in
      fitted_left k given.given (own_cut (cut_at cuts) (width_at p) (marks k) v.op) made.made ks (sym given.kinds ∙ e) (sym c.own) (given_q.kinds ∙ same) made.left

  lefts_below : (fuel k : ℕ) → k < fuel → k < end → Lefts k
  lefts_below zero k low below = absurd (omega (arith, low))
  lefts_below (suc fuel) k low below =
      let found = some_at p k (omega (arith, long, below)) in
      node_left k found.0 found.1 below (λ i less. lefts_below fuel i (omega (arith, less, low)) (omega (arith, less, below)))

  -- the kinds that are left of a node's
  pub lefts : (k : ℕ) → k < end → (ks : RowKinds) → kinds_at p k ≡ Some ks → IsLeftAt k ks
  lefts k below = lefts_below (suc k) k (omega arith) below

  -- what is known of the inputs of a node, also of the first one that is not cut yet
  pub inputs_left : (k : ℕ) (v : PlanNode) → k ≤ end → slice_get p k ≡ Some v → AllByRecursion LeftInput (inputs_of v.op)
  inputs_left k v upto stands = inputs_from k v stands (λ i less. lefts i (omega (arith, less, upto)))
