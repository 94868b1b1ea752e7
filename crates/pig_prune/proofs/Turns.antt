-- Node by node: what each turn of the code's loops adds.
use Rattle.std.specs.Prelude.{◌≡◌, ◌<◌, ◌≤◌, ◌+◌, ◌&&◌, not, ℕ, suc, Bool, true, List, [], ◌∷◌, ◌++◌, map, length, Option, Some, None, slice_get, refl}
use Rattle.std.proofs.Common.{ap, sym, ◌∙◌, subst, arith, inl, inr}
use Rattle.std.specs.List.{AllByRecursion, range_with_len}
use Rattle.std.specs.Option.{is_some, option_map, option_map_or}
use Rattle.std.proofs.Math.Nat.{eq-or-lt_of_le}
use Rattle.std.proofs.lemmas.List.{length-append}
use Rattle.std.proofs.lemmas.List.FromFn.{get_or-map-range_with_len, length-map-range_with_len}
use Rattle.std.proofs.lemmas.Option.{get_or_from_slice_get, slice_get-map, slice_get_within}
use Rattle.pig_value.proofs.list_laws.Elementwise.{get-behind}
use Rattle.pig_value.proofs.list_laws.Indexing.{some_at}
use Rattle.pig_value.proofs.list_laws.Listing.{each_weaker, some_same}
use Rattle.pig_plan.proofs.Lower.{names_lower}
use Rattle.pig_plan.proofs.Unfolds.{get-front, result_is}
use Rattle.pig_plan.specs.declared.nodes.Node.{Node}
use Rattle.pig_plan.specs.Meaning.{width_at}
use Rattle.pig_plan.specs.Nodes.{inputs_of}
use Rattle.pig_plan.specs.Plans.{Plan, PlanNode, PlanOp, node_of, op_of, plan_of, p_load, p_filter, p_foreach, p_group_all, p_group, p_join, p_union, p_distinct, p_order, p_limit, p_store, p_assert, p_rank}
use Rattle.pig_plan.specs.Valid.{IsPlan, fits}
use Rattle.pig_alive.specs.Alive.{EachLives}
use Rattle.pig_covers.specs.Laws.{AreByNeeds, NeedsAreSeen, needed_marks}
use Rattle.pig_cuts.specs.Cuts.{NodeCut, cut_at}
use Rattle.pig_cuts.specs.Laws.{FittedNodesFit}
use Rattle.pig_cuts.specs.Plans.{IsCutBy, IsNodeCut, are_whole, bags_kept, behind, cut_unless, fields_of_cut, fit_node, fit_op, group_kept, may_fit, own_cut, sides_kept, whole_field}
use Rattle.pig_cuts.specs.declared.kept.KeptField.{KeptField}
use Rattle.pig_needs.specs.Needed.{need_of}
use Rattle.pig_needs.specs.declared.lists.Need.{Need}
use Rattle.pig_prune.specs.Pruned.{IsCutTo, cut_step, cuts_of, marks_of}

-- ---- a cut goes by those of the inputs

module _ (f g : ℕ → NodeCut) where
  whole_looks : (inputs : List ℕ) → AllByRecursion (λ i. f i ≡ g i) inputs → are_whole f inputs ≡ are_whole g inputs
  whole_looks [] h = refl
  whole_looks (i ∷ inputs) h = λ j. not (is_some (h.0 j)) && whole_looks inputs h.1 j

  abbrev bag : ℕ → Option ℕ → KeptField
  bag position like = record { position = position; like = like }

  bags_look : (n : ℕ) (inputs : List ℕ) → AllByRecursion (λ i. f i ≡ g i) inputs → bags_kept f n inputs ≡ bags_kept g n inputs
  bags_look n [] h = refl
  bags_look n (i ∷ inputs) h = λ j. bag n (option_map (λ kept. i) (h.0 j)) ∷ bags_look (suc n) inputs h.1 j

  group_looks : (inputs : List ℕ) → AllByRecursion (λ i. f i ≡ g i) inputs → cut_unless (are_whole f inputs) (group_kept f inputs) ≡ cut_unless (are_whole g inputs) (group_kept g inputs)
  group_looks inputs h = λ j. cut_unless (whole_looks inputs h j) (whole_field 0 ∷ bags_look 1 inputs h j)

  sides_look : (width : ℕ → ℕ) (first : ℕ) (inputs : List ℕ) → AllByRecursion (λ i. f i ≡ g i) inputs → sides_kept f width first inputs ≡ sides_kept g width first inputs
  sides_look width first [] h = refl
  sides_look width first (i ∷ inputs) h = λ j. map (behind first) (fields_of_cut (width i) (h.0 j)) ++ sides_look width (first + width i) inputs h.1 j

  join_looks : (width : ℕ → ℕ) (inputs : List ℕ) → AllByRecursion (λ i. f i ≡ g i) inputs
      → cut_unless (are_whole f inputs) (sides_kept f width 0 inputs) ≡ cut_unless (are_whole g inputs) (sides_kept g width 0 inputs)
  join_looks width inputs h = λ j. cut_unless (whole_looks inputs h j) (sides_look width 0 inputs h j)

  own_looks : (width : ℕ → ℕ) (marks : List Bool) (o : PlanOp) → AllByRecursion (λ i. f i ≡ g i) (inputs_of o) → own_cut f width marks o ≡ own_cut g width marks o
  own_looks width marks (p_load path delim columns) h = refl
  own_looks width marks (p_filter input cond) h = h.0
  own_looks width marks (p_foreach input block) h = refl
  own_looks width marks (p_group_all input) h = group_looks (input ∷ []) h
  own_looks width marks (p_group inputs) h = group_looks (map (λ i. i.input) inputs) h
  own_looks width marks (p_join inputs side replicated) h = join_looks width (map (λ i. i.input) inputs) h
  own_looks width marks (p_union inputs) h = refl
  own_looks width marks (p_distinct input) h = refl
  own_looks width marks (p_order input keys) h = refl
  own_looks width marks (p_limit input count) h = refl
  own_looks width marks (p_store input path delim) h = refl
  own_looks width marks (p_assert input cond message) h = h.0
  own_looks width marks (p_rank input keys dense) h = refl

pub own_is : (p : Plan) → IsPlan p → (k : ℕ) (v : PlanNode) → slice_get p k ≡ Some v → cut_at (cuts_of p) k ≡ own_cut (cut_at (cuts_of p)) (width_at p) (marks_of p k) v.op
own_is p valid k v stands =
    result_is (cut_step p) None p k v stands
    (λ f g same. own_looks f g (width_at p) (marks_of p k) v.op (each_weaker (λ i. i < k) (λ i. f i ≡ g i) same (inputs_of v.op) (names_lower p valid k v stands)))

-- ---- all nodes, fitted

pub all_fitted : (p q : Plan) → IsCutTo p q (length p) → IsCutBy (marks_of p) (cuts_of p) p q
all_fitted p q done = record {
  size = done.size;
  each = λ k v stands. done.each k v (slice_get_within p k v stands) stands;
}

-- ---- what stands in a list over a range

pub of_range : {X : Type 0} (f : ℕ → X) (n k : ℕ) (xs : List X) (x : X) → xs ≡ map f (range_with_len 0 n) → slice_get xs k ≡ Some x → x ≡ f k
of_range f n k xs x are at =
    let there : slice_get (map f (range_with_len 0 n)) k ≡ Some x = ap (λ ys. slice_get ys k) (sym are) ∙ at in
    let inside : k < length (map f (range_with_len 0 n)) = slice_get_within (map f (range_with_len 0 n)) k x there in
    let size : length (map f (range_with_len 0 n)) ≡ n = length-map-range_with_len f 0 n in
    sym (get_or_from_slice_get (map f (range_with_len 0 n)) k x x there) ∙ get_or-map-range_with_len f 0 n k k x (omega (arith, inside, size)) (omega arith)

pub node_there : (nodes : List Node) (k : ℕ) (x : Node) → slice_get nodes k ≡ Some x → slice_get (plan_of nodes) k ≡ Some (node_of x)
node_there nodes k x at = slice_get-map node_of nodes k ∙ ap (option_map node_of) at

pub marks_here : (nodes : List Node) (needs : List (List Need)) (k : ℕ) (x : Node) (need : List Need) → needs ≡ map (need_of (plan_of nodes)) (range_with_len 0 (length nodes))
    → slice_get nodes k ≡ Some x → slice_get needs k ≡ Some need → needed_marks need (op_of x.op) ≡ marks_of (plan_of nodes) k
marks_here nodes needs k x need are at need_at =
    ap (λ n. needed_marks n (op_of x.op)) (of_range (need_of (plan_of nodes)) (length nodes) k needs need are need_at)
    ∙ sym (ap (λ found. option_map_or (λ v. needed_marks (need_of (plan_of nodes) k) v.op) found []) (node_there nodes k x at))

-- ---- each node sees what it looks at

by_needs : (p : Plan) → IsPlan p → AreByNeeds p (marks_of p) (cuts_of p)
by_needs p valid = record {
  marked = λ k v stands. ap (λ found. option_map_or (λ u. needed_marks (need_of p k) u.op) found []) stands;
  own = own_is p valid;
}

pub seen_at : NeedsAreSeen → (p : Plan) → IsPlan p → EachLives p → (k : ℕ) (v : PlanNode) → slice_get p k ≡ Some v → may_fit (cut_at (cuts_of p)) (marks_of p k) v.op ≡ true
seen_at law p valid lives k v stands =
    law p valid (λ i within. let found = some_at p i within in lives i found.0 found.1) (marks_of p) (cuts_of p) (by_needs p valid) k v stands

-- ---- one more node

module _ (nodes : List Node) (marks : List (List Bool)) (cuts : List NodeCut) (k : ℕ) (x : Node) (own : List Bool)
    (marks_are : marks ≡ map (marks_of (plan_of nodes)) (range_with_len 0 (length nodes))) (cuts_are : cuts ≡ cuts_of (plan_of nodes))
    (at : slice_get nodes k ≡ Some x) (own_at : slice_get marks k ≡ Some own) where
  abbrev p : Plan
  p = plan_of nodes

  here : slice_get (plan_of nodes) k ≡ Some (node_of x)
  here = node_there nodes k x at

  own_marks : own ≡ marks_of (plan_of nodes) k
  own_marks = of_range (marks_of (plan_of nodes)) (length nodes) k marks own marks_are own_at

  abbrev with_op : PlanOp → PlanNode
  with_op o = record { op = o; statement = x.statement }

  fitted_is : (w : PlanNode) → w ≡ record { op = fit_op (cut_at cuts) own (op_of x.op); statement = x.statement } → w ≡ fit_node (marks_of (plan_of nodes)) (cuts_of (plan_of nodes)) k (node_of x)
  fitted_is w is = is ∙ (λ j. with_op (fit_op (cut_at (cuts_are j)) (own_marks j) (op_of x.op)))

  -- it is valid behind the others
  pub next_fits : FittedNodesFit → IsPlan (plan_of nodes) → may_fit (cut_at (cuts_of (plan_of nodes))) (marks_of (plan_of nodes) k) (op_of x.op) ≡ true → (made : Plan) (w : PlanNode) → IsPlan made
      → w ≡ record { op = fit_op (cut_at cuts) own (op_of x.op); statement = x.statement } → IsCutTo (plan_of nodes) made k → fits made w ≡ true
  next_fits law valid may made w valid_made is so_far =
      ap (fits made) (fitted_is w is)
      ∙ law (marks_of (plan_of nodes)) (cuts_of (plan_of nodes)) (plan_of nodes) made valid valid_made k so_far (node_of x) here may

  pub one_more : IsPlan (plan_of nodes) → may_fit (cut_at (cuts_of (plan_of nodes))) (marks_of (plan_of nodes) k) (op_of x.op) ≡ true → (made new : Plan) (w : PlanNode)
      → w ≡ record { op = fit_op (cut_at cuts) own (op_of x.op); statement = x.statement } → IsCutTo (plan_of nodes) made k → new ≡ made ++ w ∷ [] → IsCutTo (plan_of nodes) new (k + 1)
  one_more valid may made new w is so_far grown = subst (λ q. IsCutTo (plan_of nodes) q (k + 1)) (sym grown) (record {
    size = length-append made (w ∷ []) ∙ (let size = so_far.size in omega (arith, size));
    each = λ m v below stands. elim (eq-or-lt_of_le (let e : m ≤ k = omega (arith, below) in e)) [
      | inl same ↦ last m v same stands
      | inr lower ↦ before m v lower stands
    ];
  })
    where
      v_is : (m : ℕ) (v : PlanNode) → m ≡ k → slice_get (plan_of nodes) m ≡ Some v → node_of x ≡ v
      v_is m v same stands = some_same (node_of x) v (sym here ∙ ap (slice_get (plan_of nodes)) (sym same) ∙ stands)

      last : (m : ℕ) (v : PlanNode) → m ≡ k → slice_get (plan_of nodes) m ≡ Some v → IsNodeCut (marks_of (plan_of nodes)) (cuts_of (plan_of nodes)) (plan_of nodes) (made ++ w ∷ []) m v
      last m v same stands =
          let size = so_far.size in
          let e : m ≡ length made + 0 = omega (arith, same, size) in
          record {
            own = own_is (plan_of nodes) valid m v stands;
            may = (λ j. may_fit (cut_at (cuts_of (plan_of nodes))) (marks_of (plan_of nodes) (same j)) ((sym (v_is m v same stands) j).op)) ∙ may;
            stands = ap (slice_get (made ++ w ∷ [])) e ∙ get-behind made (w ∷ []) 0
                ∙ ap Some (fitted_is w is)
                ∙ (λ j. Some (fit_node (marks_of (plan_of nodes)) (cuts_of (plan_of nodes)) (sym same j) (v_is m v same stands j)));
          }

      before : (m : ℕ) (v : PlanNode) → m < k → slice_get (plan_of nodes) m ≡ Some v → IsNodeCut (marks_of (plan_of nodes)) (cuts_of (plan_of nodes)) (plan_of nodes) (made ++ w ∷ []) m v
      before m v lower stands =
          let size = so_far.size in
          let was : IsNodeCut (marks_of (plan_of nodes)) (cuts_of (plan_of nodes)) (plan_of nodes) made m v = so_far.each m v lower stands in
          record { own = was.own; may = was.may; stands = get-front made (w ∷ []) m (omega (arith, lower, size)) ∙ was.stands }
