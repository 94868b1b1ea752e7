-- Each node of a cut plan has the rows of the plan's node, cut.
use Rattle.std.specs.Prelude.{◌≡◌, ◌<◌, ◌==◌, ◌&&◌, ℕ, suc, zero, Bool, true, false, not, List, [], ◌∷◌, map, length, Option, Some, None, slice_get, refl}
use Rattle.std.specs.List.{AllByRecursion, flat_map, list_all}
use Rattle.std.specs.Option.{is_some, option_and_then, option_map_or}
use Rattle.std.proofs.Common.{ap, sym, ◌∙◌, subst, arith, true≢false}
use Rattle.std.proofs.lemmas.Bool.{and_parts, eqb-true}
use Rattle.std.proofs.lemmas.Option.{none-some}
use Rattle.pig_value.proofs.list_laws.Indexing.{some_at}
use Rattle.pig_value.proofs.list_laws.Listing.{each_weaker}
use Rattle.pig_value.specs.declared.inputs.Input.{Input}
use Rattle.pig_value.specs.declared.operators.Side.{Side}
use Rattle.pig_value.specs.declared.operators.Side.TheVariants as side
use Rattle.pig_value.specs.declared.outcomes.Kept.{Kept}
use Rattle.pig_value.specs.Kinds.{IsRowOf}
use Rattle.pig_value.specs.Orders.{bag_of}
use Rattle.pig_value.specs.Trees.{Tree}
use Rattle.pig_typed.specs.BlockKinds.{row_kinds}
use Rattle.pig_typed.specs.Blocks.{foreach_all}
use Rattle.pig_typed.specs.Premises.{FunctionsKeepKinds}
use Rattle.pig_typed.specs.Typed.{TypedBlock}
use Rattle.pig_plan.proofs.Adding.{settled}
use Rattle.pig_plan.proofs.Listed.{list_of_node, sorted_of_node}
use Rattle.pig_plan.proofs.Looking.{looks}
use Rattle.pig_plan.proofs.Lower.{meaning_of_node, names_lower}
use Rattle.pig_plan.specs.Meaning.{kept_at, meaning, setting, width_at}
use Rattle.pig_plan.specs.NodeKinds.{KeyedKinds, RowKinds, all_keyed, is_join, kinds_at, node_gives, only_if}
use Rattle.pig_plan.specs.Nodes.{inputs_of, is_list, is_sorted}
use Rattle.pig_plan.specs.Operators.{filter_rows, operator_rows}
use Rattle.pig_plan.specs.Plans.{Keyed, Plan, PlanNode, PlanOp, p_load, p_filter, p_foreach, p_group_all, p_group, p_join, p_union, p_distinct, p_order, p_limit, p_store, p_assert, p_rank}
use Rattle.pig_plan.specs.Valid.{IsPlan}
use Rattle.pig_cuts.specs.Cuts.{NodeCut, cut_at, cutters}
use Rattle.pig_cuts.specs.Plans.{IsCutBy, all_stay, are_whole, fields_of_cut, fit_block, fit_op, keys_see, may_fit, own_cut}
use Rattle.pig_cuts.specs.Fits.{fit}
use Rattle.pig_cuts.proofs.Cutters.{likes_below, node_unfolds}
use Rattle.pig_cuts.proofs.Fitted.{Suits}
use Rattle.pig_cuts.proofs.Gives.{is_sized, is_within}
use Rattle.pig_cuts.proofs.Inputs.{block_wide, like_below, row_length, suits_of}
use Rattle.pig_cuts.proofs.Joined.{IsWithin}
use Rattle.pig_cuts.proofs.Keyed.{IsInput, IsSized, Sided, group_all_cut, groups_cut, joins_cut}
use Rattle.pig_cuts.proofs.LeftKeyed.{IsInputLeft, all_keyed_left, as_many_left}
use Rattle.pig_cuts.proofs.LeftKinds.{AreLeft}
use Rattle.pig_cuts.proofs.PlanKinds.{gives}
use Rattle.pig_cuts.proofs.Rowwise.{cut_all, filter_cut, foreach_cut, load_cut}
use Rattle.pig_cuts.proofs.Structure.{fit_lists, fit_sorts}

module _ (marks : ℕ → List Bool) (cuts : List NodeCut) (p q : Plan) (valid : IsPlan p) (valid_q : IsPlan q) (cut : IsCutBy marks cuts p q) where
  abbrev pub C : ℕ → NodeCut
  C = cut_at cuts

  abbrev pub K : ℕ → List Tree → List Tree
  K = cutters cuts

  abbrev pub fitted : ℕ → PlanNode → PlanNode
  fitted k v = record { op = fit_op C (marks k) v.op; statement = v.statement }

  -- ---- sorted nodes and lists

  sorted_up_to : (fuel k : ℕ) → k < fuel → k < length p → is_sorted q k ≡ is_sorted p k
  sorted_up_to zero k low within = absurd (omega (arith, low))
  sorted_up_to (suc fuel) k low within =
      let found = some_at p k within in
      sorted_of_node q valid_q k (fitted k found.0) (cut.each k found.0 found.1).stands
      ∙ fit_sorts C (marks k) (is_sorted q) (is_sorted p) found.0.op
      (each_weaker (λ i. i < k) (λ i. is_sorted q i ≡ is_sorted p i) (λ i less. sorted_up_to fuel i (omega (arith, less, low)) (omega (arith, less, within))) (inputs_of found.0.op) (names_lower p valid k found.0 found.1))
      ∙ sym (sorted_of_node p valid k found.0 found.1)

  pub sorted_same : (k : ℕ) → k < length p → is_sorted q k ≡ is_sorted p k
  sorted_same k within = sorted_up_to (suc k) k (omega arith) within

  lists_up_to : (fuel k : ℕ) → k < fuel → k < length p → is_list q k ≡ is_list p k
  lists_up_to zero k low within = absurd (omega (arith, low))
  lists_up_to (suc fuel) k low within =
      let found = some_at p k within in
      list_of_node q valid_q k (fitted k found.0) (cut.each k found.0 found.1).stands
      ∙ fit_lists C (marks k) (is_sorted q) (is_sorted p) (is_list q) (is_list p) found.0.op
      (each_weaker (λ i. i < k) (λ i. is_sorted q i ≡ is_sorted p i) (λ i less. sorted_same i (omega (arith, less, within))) (inputs_of found.0.op) (names_lower p valid k found.0 found.1))
      (each_weaker (λ i. i < k) (λ i. is_list q i ≡ is_list p i) (λ i less. lists_up_to fuel i (omega (arith, less, low)) (omega (arith, less, within))) (inputs_of found.0.op) (names_lower p valid k found.0 found.1))
      ∙ sym (list_of_node p valid k found.0 found.1)

  pub lists_same : (k : ℕ) → k < length p → is_list q k ≡ is_list p k
  lists_same k within = lists_up_to (suc k) k (omega arith) within

  -- ---- what is known of an input

  module _ (inputs : List Input) (kept : List Kept) where
    abbrev pub Left : ℕ → Type 0
    Left = IsInputLeft C (width_at p) (kinds_at p) (kinds_at q)

    pub record InputAt (i : ℕ) : Type 0 where
      pub left : Left i
      pub each : AllByRecursion (λ row. IsRowOf row left.kinds) (meaning p inputs kept i)
      pub rows : meaning q inputs kept i ≡ cut_all K (C i) (meaning p inputs kept i)
      pub within : i < length p

    pub suit : (i : ℕ) (n : InputAt i) → AllByRecursion (Suits C K (C i)) (meaning p inputs kept i)
    suit i n =
        let inside = n.within in
        each_weaker (λ row. IsRowOf row n.left.kinds) (Suits C K (C i))
        (λ row is. suits_of C K (C i) n.left.kinds n.left.kinds_left n.left.are
        (λ place m h. let low = like_below i (C i) (likes_below marks cuts p q valid cut.each i n.within) place m h in node_unfolds marks cuts p q valid cut.each m (omega (arith, low, inside))) row is)
        (meaning p inputs kept i) n.each

    known : (i : ℕ) → InputAt i → IsInput K C (width_at p) (meaning p inputs kept) i
    known i n = record {
      suit = suit i n;
      wide = each_weaker (λ row. IsRowOf row n.left.kinds) (λ row. length row ≡ width_at p i) (λ row is. row_length row n.left.kinds is ∙ sym n.left.wide) (meaning p inputs kept i) n.each;
      within = subst (λ w. IsWithin w (C i)) (sym n.left.wide) (is_within C (C i) n.left.kinds n.left.kinds_left n.left.are);
      unfolds = node_unfolds marks cuts p q valid cut.each i n.within;
    }

    all_known : (ns : List ℕ) → AllByRecursion InputAt ns → AllByRecursion (IsInput K C (width_at p) (meaning p inputs kept)) ns
    all_known ns all = each_weaker InputAt (IsInput K C (width_at p) (meaning p inputs kept)) known ns all

    all_rows : (ns : List ℕ) → AllByRecursion InputAt ns → AllByRecursion (λ i. meaning q inputs kept i ≡ cut_all K (C i) (meaning p inputs kept i)) ns
    all_rows ns all = each_weaker InputAt (λ i. meaning q inputs kept i ≡ cut_all K (C i) (meaning p inputs kept i)) (λ i n. n.rows) ns all

    sized : (i : ℕ) → InputAt i → IsSized K C (width_at p) (meaning p inputs kept) (width_at q) i
    sized i n =
        ap (λ o. option_map_or length o 0) n.left.is ∙ is_sized C (C i) n.left.kinds n.left.kinds_left n.left.are
        ∙ ap (λ w. length (fields_of_cut w (C i))) (sym n.left.wide)

    -- ---- whole inputs

    pub record IsWholeAt (i : ℕ) : Type 0 where
      pub rows : meaning q inputs kept i ≡ meaning p inputs kept i
      pub width : width_at q i ≡ width_at p i
      pub sorted : is_sorted q i ≡ is_sorted p i

    whole_at : (i : ℕ) (n : InputAt i) → (o : NodeCut) → C i ≡ o → not (is_some o) ≡ true → IsWholeAt i
    whole_at i n (Some left) e h = absurd (true≢false (sym h))
    whole_at i n None e h = record {
      rows = n.rows ∙ ap (λ o. cut_all K o (meaning p inputs kept i)) e;
      width = ap (λ o. option_map_or length o 0) (n.left.is ∙ ap Some (subst (λ o. AreLeft C o n.left.kinds n.left.kinds_left) e n.left.are) ∙ sym n.left.was);
      sorted = sorted_same i n.within;
    }

    pub wholes_at : (ns : List ℕ) → AllByRecursion InputAt ns → are_whole C ns ≡ true → AllByRecursion IsWholeAt ns
    wholes_at [] all h = tt
    wholes_at (i ∷ ns) all h = let both = and_parts (not (is_some (C i))) (are_whole C ns) h in (whole_at i all.0 (C i) refl both.0, wholes_at ns all.1 both.1)

    abbrev Law : ℕ → ℕ → PlanOp → Type 0
    Law k statement o = operator_rows (setting q inputs kept) statement (fit_op C (marks k) o) (meaning q inputs kept) ≡ cut_all K (own_cut C (width_at p) (marks k) o) (operator_rows (setting p inputs kept) statement o (meaning p inputs kept))

    of_whole : (statement : ℕ) (o : PlanOp) → AllByRecursion InputAt (inputs_of o) → are_whole C (inputs_of o) ≡ true
        → operator_rows (setting q inputs kept) statement o (meaning q inputs kept) ≡ operator_rows (setting p inputs kept) statement o (meaning p inputs kept)
    of_whole statement o all h =
        let whole = wholes_at (inputs_of o) all h in
        looks (meaning q inputs kept) (meaning p inputs kept) (setting q inputs kept) statement o (each_weaker IsWholeAt (λ i. meaning q inputs kept i ≡ meaning p inputs kept i) (λ i w. w.rows) (inputs_of o) whole)
        ∙ settled inputs (kept_at kept) (width_at q) (width_at p) (is_sorted q) (is_sorted p) (meaning p inputs kept) statement o
        (each_weaker IsWholeAt (λ i. (width_at q i ≡ width_at p i) × (is_sorted q i ≡ is_sorted p i)) (λ i w. (w.width, w.sorted)) (inputs_of o) whole)

    -- ---- FOREACH

    foreach_law : (functions : FunctionsKeepKinds) (k statement i : ℕ) (block : TypedBlock) → may_fit C (marks k) (p_foreach i block) ≡ true → (n : InputAt i)
        → (given : Option RowKinds) → node_gives (kinds_at p) (p_foreach i block) ≡ Some given → Law k statement (p_foreach i block)
    foreach_law functions k statement i block h n given e =
        by_kinds (row_kinds block n.left.kinds) refl (sym (ap (option_and_then (λ row. option_and_then (λ made. Some (Some made)) (row_kinds block row))) n.left.was) ∙ e)
      where
        by_kinds : (o : Option RowKinds) → row_kinds block n.left.kinds ≡ o → option_and_then (λ made. Some (Some made)) o ≡ Some given → Law k statement (p_foreach i block)
        by_kinds None f g = absurd (none-some given g)
        by_kinds (Some made) f g =
            ap (λ rows. bag_of (foreach_all (fit_block C (C i) (marks k) block) rows)) n.rows
            ∙ foreach_cut K C (C i) (marks k) block (meaning p inputs kept i) h (suit i n)
            (each_weaker (λ row. IsRowOf row n.left.kinds) _ (λ row is. block_wide functions K C (C i) (marks k) block n.left.kinds made f row is) (meaning p inputs kept i) n.each)

    -- ---- JOIN

    side_of : (s : Side) (replicated : Bool) (many : ℕ) (keyed : List Keyed) → many ≡ length keyed → is_join s replicated many ≡ true → Sided K C (width_at p) (meaning p inputs kept) s keyed
    side_of side.Inner replicated many keyed e h = tt
    side_of side.Left replicated many keyed e h = sym e ∙ eqb-true many 2 h
    side_of side.Right replicated many keyed e h = sym e ∙ eqb-true many 2 (and_parts (many == 2) (not replicated) h).0
    side_of side.Full replicated many keyed e h = sym e ∙ eqb-true many 2 (and_parts (many == 2) (not replicated) h).0

    sided : (keyed : List Keyed) (s : Side) (replicated : Bool) → AllByRecursion Left (map (λ i. i.input) keyed) → list_all (keys_see C) keyed ≡ true
        → (given : Option RowKinds) → node_gives (kinds_at p) (p_join keyed s replicated) ≡ Some given → Sided K C (width_at p) (meaning p inputs kept) s keyed
    sided keyed s replicated all h given e = by_found (all_keyed (kinds_at p) keyed) refl e
      where
        by_test : (fs : List KeyedKinds) → all_keyed (kinds_at p) keyed ≡ Some fs → (b : Bool) → (is_join s replicated (length fs) && list_all (λ input. not input.inner) keyed) ≡ b
            → only_if b (Some (Some (flat_map (λ f. f.row) fs))) ≡ Some given → Sided K C (width_at p) (meaning p inputs kept) s keyed
        by_test fs f false t g = absurd (none-some given g)
        by_test fs f true t g =
            let found = all_keyed_left C (width_at p) (kinds_at p) (kinds_at q) keyed all h fs f in
            side_of s replicated (length fs) keyed (as_many_left C (width_at p) (kinds_at p) (kinds_at q) keyed fs found.made found.left).1
            (and_parts (is_join s replicated (length fs)) (list_all (λ input. not input.inner) keyed) t).0

        by_found : (o : Option (List KeyedKinds)) → all_keyed (kinds_at p) keyed ≡ o
            → option_and_then (λ found. only_if (is_join s replicated (length found) && list_all (λ input. not input.inner) keyed) (Some (Some (flat_map (λ f. f.row) found)))) o ≡ Some given
            → Sided K C (width_at p) (meaning p inputs kept) s keyed
        by_found None f g = absurd (none-some given g)
        by_found (Some fs) f g = by_test fs f _ refl g

    -- ---- all operators

    pub operator_cut : (functions : FunctionsKeepKinds) (k statement : ℕ) (o : PlanOp) → may_fit C (marks k) o ≡ true → AllByRecursion InputAt (inputs_of o)
        → (given : Option RowKinds) → node_gives (kinds_at p) o ≡ Some given → Law k statement o
    operator_cut functions k statement (p_load path delim columns) h all given e = load_cut K inputs path delim (marks k) columns (all_stay (marks k)) refl
    operator_cut functions k statement (p_filter i c) h all given e =
        ap (λ rows. bag_of (filter_rows (fit C (C i) c) rows)) all.0.rows ∙ filter_cut K C (C i) c (meaning p inputs kept i) h (suit i all.0)
    operator_cut functions k statement (p_foreach i block) h all given e = foreach_law functions k statement i block h all.0 given e
    operator_cut functions k statement (p_group_all i) h all given e =
        group_all_cut K C (width_at p) (meaning p inputs kept) (setting p inputs kept) (setting q inputs kept) statement i refl (meaning q inputs kept) (all_rows (i ∷ []) all) (all_known (i ∷ []) all)
    operator_cut functions k statement (p_group keyed) h all given e =
        groups_cut K C (width_at p) (meaning p inputs kept) (setting p inputs kept) (setting q inputs kept) statement keyed refl h (meaning q inputs kept)
        (all_rows (map (λ i. i.input) keyed) all) (all_known (map (λ i. i.input) keyed) all)
    operator_cut functions k statement (p_join keyed s replicated) h all given e =
        joins_cut K C (width_at p) (meaning p inputs kept) (setting p inputs kept) (setting q inputs kept) statement keyed s replicated refl h
        (sided keyed s replicated (each_weaker InputAt Left (λ i n. n.left) (map (λ i. i.input) keyed) all) h given e) (meaning q inputs kept)
        (all_rows (map (λ i. i.input) keyed) all) (all_known (map (λ i. i.input) keyed) all) (each_weaker InputAt (IsSized K C (width_at p) (meaning p inputs kept) (width_at q)) sized (map (λ i. i.input) keyed) all)
    operator_cut functions k statement (p_union ns) h all given e = of_whole statement (p_union ns) all h
    operator_cut functions k statement (p_distinct i) h all given e = of_whole statement (p_distinct i) all h
    operator_cut functions k statement (p_order i keys) h all given e = of_whole statement (p_order i keys) all h
    operator_cut functions k statement (p_limit i count) h all given e = of_whole statement (p_limit i count) all h
    operator_cut functions k statement (p_store i path delim) h all given e = of_whole statement (p_store i path delim) all h
    operator_cut functions k statement (p_assert i c message) h all given e = all.0.rows
    operator_cut functions k statement (p_rank i keys dense) h all given e = of_whole statement (p_rank i keys dense) all h

    -- a node's rows by those of its inputs
    pub node_rows : FunctionsKeepKinds → (k : ℕ) (v : PlanNode) → slice_get p k ≡ Some v → AllByRecursion InputAt (inputs_of v.op)
        → meaning q inputs kept k ≡ cut_all K (C k) (meaning p inputs kept k)
    node_rows functions k v stands all =
        let c = cut.each k v stands in
        let given = gives p valid k v stands in
        meaning_of_node q inputs kept valid_q k (fitted k v) c.stands
        ∙ operator_cut functions k v.statement v.op c.may all given.given given.is
        ∙ ap (λ o. cut_all K o (operator_rows (setting p inputs kept) v.statement v.op (meaning p inputs kept))) (sym c.own)
        ∙ ap (cut_all K (C k)) (sym (meaning_of_node p inputs kept valid k v stands))
