-- The rows that a node gives as they come are its operator's, as a bag, and as a list where the node is one.
use Rattle.std.specs.Prelude.{◌≡◌, ◌≤◌, ◌+◌, ℕ, ◌<◌, Bool, true, false, not, List, min, take, drop, Some, slice_get, refl}
use Rattle.std.proofs.Common.{ap, sym, ◌∙◌, arith, true≢false}
use Rattle.std.specs.List.{AllByRecursion}
use Rattle.std.specs.List.Sorted.{IsPermutation}
use Rattle.std.proofs.lemmas.List.{length-take, take-append-drop}
use Rattle.std.proofs.lemmas.List.Sorted.{length_permutation}
use Rattle.pig_value.specs.declared.inputs.Input.{Input}
use Rattle.pig_value.specs.declared.outcomes.Kept.{Kept}
use Rattle.pig_value.proofs.list_laws.Bags.{bag_once, permutation_from_bag, times-append, times_from_permutation}
use Rattle.pig_value.proofs.list_laws.Listing.{each_weaker}
use Rattle.pig_value.proofs.OrderLaws.{row_total}
use Rattle.pig_value.specs.Orders.{row_cmp, bag_of}
use Rattle.pig_value.specs.Sorts.{times}
use Rattle.pig_value.specs.Trees.{Tree}
use Rattle.pig_plan.proofs.Listed.{sorted_is_list}
use Rattle.pig_plan.proofs.Lower.{meaning_of_node, names_lower}
use Rattle.pig_plan.proofs.Seen.{seen_as_bags}
use Rattle.pig_plan.proofs.Unfolds.{result_is}
use Rattle.pig_plan.specs.Laws.{Alike}
use Rattle.pig_plan.specs.Meaning.{AreKept, kept_at, meaning, setting, width_at}
use Rattle.pig_plan.specs.Nodes.{inputs_of, is_bare, is_list, is_sorted, lists}
use Rattle.pig_plan.specs.Operators.{Setting, limit_rows, operator_rows}
use Rattle.pig_plan.specs.Plans.{Plan, PlanNode, PlanOp, p_load, p_filter, p_foreach, p_group_all, p_group, p_join, p_union, p_distinct, p_order, p_limit, p_store, p_assert, p_rank}
use Rattle.pig_plan.specs.Valid.{IsPlan}
use Rattle.pig_plain.specs.Answering.{AnswersFor}
use Rattle.pig_plain.specs.Operating.{found_rows}

once : (rows : List (List Tree)) → bag_of rows ≡ bag_of (bag_of rows)
once rows = sym (bag_once row_cmp row_total rows)

-- ---- one operator

module _ (s : Setting) (statement : ℕ) (f : ℕ → List (List Tree)) (listed : ℕ → Bool) where
  abbrev IsFound : PlanOp → Type 0
  IsFound o = (bag_of (found_rows s.inputs s.width o f) ≡ bag_of (operator_rows s statement o f))
      × (lists s.sorted o listed ≡ true → found_rows s.inputs s.width o f ≡ operator_rows s statement o f)

  no_list : {A : Type 0} → false ≡ true → A
  no_list e = absurd (true≢false (sym e))

  limited : (b : Bool) (count : ℕ) (kept rows : List (List Tree)) → not b ≡ false → take count rows ≡ limit_rows b count kept rows
  limited true count kept rows h = refl
  limited false count kept rows h = absurd (true≢false h)

  pub found_is : (o : PlanOp) → is_bare s.sorted o ≡ false → IsFound o
  found_is (p_load path delim columns) h = (once (found_rows s.inputs s.width (p_load path delim columns) f), no_list)
  found_is (p_filter input cond) h = (once (found_rows s.inputs s.width (p_filter input cond) f), no_list)
  found_is (p_foreach input block) h = (once (found_rows s.inputs s.width (p_foreach input block) f), no_list)
  found_is (p_group_all input) h = (once (found_rows s.inputs s.width (p_group_all input) f), no_list)
  found_is (p_group keyed) h = (once (found_rows s.inputs s.width (p_group keyed) f), no_list)
  found_is (p_join keyed side replicated) h = (once (found_rows s.inputs s.width (p_join keyed side replicated) f), no_list)
  found_is (p_union numbers) h = (once (found_rows s.inputs s.width (p_union numbers) f), no_list)
  found_is (p_distinct input) h = (refl, λ e. refl)
  found_is (p_order input keys) h = (refl, λ e. refl)
  found_is (p_limit input count) h =
      let same = limited (s.sorted input) count (s.kept statement) (f input) h in
      (ap bag_of same, λ e. same)
  found_is (p_store input path delim) h = (refl, λ e. refl)
  found_is (p_assert input cond message) h = (refl, λ e. refl)
  found_is (p_rank input keys dense) h = (once (found_rows s.inputs s.width (p_rank input keys dense) f), no_list)

-- whether a node is a list depends on its inputs alone
lists_look : (f g sorted : ℕ → Bool) (o : PlanOp) → AllByRecursion (λ i. f i ≡ g i) (inputs_of o) → lists sorted o f ≡ lists sorted o g
lists_look f g sorted (p_load path delim columns) h = refl
lists_look f g sorted (p_filter input cond) h = refl
lists_look f g sorted (p_foreach input block) h = refl
lists_look f g sorted (p_group_all input) h = refl
lists_look f g sorted (p_group keyed) h = refl
lists_look f g sorted (p_join keyed side replicated) h = refl
lists_look f g sorted (p_union numbers) h = refl
lists_look f g sorted (p_distinct input) h = refl
lists_look f g sorted (p_order input keys) h = refl
lists_look f g sorted (p_limit input count) h = refl
lists_look f g sorted (p_store input path delim) h = refl
lists_look f g sorted (p_assert input cond message) h = h.0
lists_look f g sorted (p_rank input keys dense) h = refl

module _ (plan : Plan) (valid : IsPlan plan) (i : ℕ) (node : PlanNode) (at : slice_get plan i ≡ Some node) where
  list_is : is_list plan i ≡ lists (is_sorted plan) node.op (is_list plan)
  list_is = result_is (λ k n. lists (is_sorted plan) n.op) false plan i node at
      (λ f g same. lists_look f g (is_sorted plan) node.op (each_weaker (λ k. k < i) (λ k. f k ≡ g k) same (inputs_of node.op) (names_lower plan valid i node at)))

  module _ (inputs : List Input) (kept : List Kept) where
    -- of rows that answer for its inputs a node makes rows that answer for it
    pub answers_node : (f : ℕ → List (List Tree)) (rows : List (List Tree)) → rows ≡ found_rows inputs (width_at plan) node.op f
        → AllByRecursion (λ k. AnswersFor plan inputs kept k (f k)) (inputs_of node.op) → is_bare (is_sorted plan) node.op ≡ false → AnswersFor plan inputs kept i rows
    answers_node f rows is answer full =
        let s = setting plan inputs kept in
        let g = meaning plan inputs kept in
        let alike : AllByRecursion (Alike (is_list plan) f g) (inputs_of node.op) =
        each_weaker (λ k. AnswersFor plan inputs kept k (f k)) (Alike (is_list plan) f g) (λ k a. (a.bag, a.list)) (inputs_of node.op) answer in
        let both = seen_as_bags s (is_list plan) (sorted_is_list plan valid) f g node.statement node.op alike in
        let same = found_is s node.statement f (is_list plan) node.op full in
        let goes = meaning_of_node plan inputs kept valid i node at in
        record {
          bag = ap bag_of is ∙ same.0 ∙ both.0 ∙ sym (ap bag_of goes);
          list = λ e. let listed = sym list_is ∙ e in is ∙ same.1 listed ∙ both.1 listed ∙ sym goes;
        }

-- ---- a bare LIMIT

take_times : (n : ℕ) (row : List Tree) (rows : List (List Tree)) → times row_cmp row (take n rows) ≤ times row_cmp row rows
take_times n row rows =
    let whole : times row_cmp row rows ≡ times row_cmp row (take n rows) + times row_cmp row (drop n rows) =
    ap (times row_cmp row) (sym (take-append-drop n rows)) ∙ times-append row_cmp row (take n rows) (drop n rows) in
    omega (arith, whole)

-- the first rows may be kept, of whatever list has the same rows
pub first_are_kept : (count : ℕ) (rows all : List (List Tree)) → bag_of rows ≡ bag_of all → AreKept count all (take count rows)
first_are_kept count rows all h =
    let same : IsPermutation rows all = permutation_from_bag row_cmp rows all h in
    record {
      held = λ row. let e = times_from_permutation row_cmp rows all same row in let less = take_times count row rows in omega (arith, e, less);
      size = length-take count rows ∙ ap (min count) (sym (length_permutation rows all same));
    }

pub bare_answers : (plan : Plan) (valid : IsPlan plan) (inputs : List Input) (kept : List Kept) (i statement input count : ℕ)
    → slice_get plan i ≡ Some (record { op = p_limit input count; statement = statement }) → is_sorted plan input ≡ false
    → AnswersFor plan inputs kept i (kept_at kept statement)
bare_answers plan valid inputs kept i statement input count at unsorted =
    let node : PlanNode = record { op = p_limit input count; statement = statement } in
    let goes : meaning plan inputs kept i ≡ limit_rows (is_sorted plan input) count (kept_at kept statement) (meaning plan inputs kept input) = meaning_of_node plan inputs kept valid i node at in
    let bag : meaning plan inputs kept i ≡ bag_of (kept_at kept statement) =
    goes ∙ ap (λ b. limit_rows b count (kept_at kept statement) (meaning plan inputs kept input)) unsorted in
    record {
      bag = once (kept_at kept statement) ∙ sym (ap bag_of bag);
      list = λ e. absurd (true≢false (sym e ∙ list_is plan valid i node at ∙ unsorted));
    }
