-- A fitted operator is valid on the kinds of its cut inputs where the operator was on those of the inputs, and gives the kinds that are left.
use Rattle.std.specs.Prelude.{⊤, ◌≡◌, ◌&&◌, ℕ, Bool, true, false, not, List, [], ◌∷◌, map, length, Option, Some, None, refl}
use Rattle.std.specs.List.{AllByRecursion, flat_map, list_all}
use Rattle.std.specs.Option.{is_some, option_and_then, option_map, option_map_or}
use Rattle.std.proofs.Common.{ap, sym, ◌∙◌, subst}
use Rattle.std.proofs.lemmas.Bool.{and_parts}
use Rattle.std.proofs.lemmas.Option.{none-some}
use Rattle.pig_value.proofs.list_laws.Listing.{some_same}
use Rattle.pig_value.specs.declared.inputs.Column.{Column}
use Rattle.pig_value.specs.declared.operators.Side.{Side}
use Rattle.pig_value.specs.FieldReader.{all_of}
use Rattle.pig_value.specs.Kinds.{kind_eq}
use Rattle.pig_value.specs.Trees.{k_boolean, k_bag, k_chars, kind_tree, kinds_of}
use Rattle.pig_typed.specs.BlockKinds.{row_kinds}
use Rattle.pig_typed.specs.Typed.{Typed, TypedBlock}
use Rattle.pig_plan.specs.NodeKinds.{Before, KeyedKinds, RowKinds, all_keyed, ascend, group_kinds, is_join, is_test, node_gives, only_if}
use Rattle.pig_plan.specs.Nodes.{inputs_of}
use Rattle.pig_plan.specs.Plans.{Keyed, PlanOp, p_load, p_filter, p_foreach, p_group_all, p_group, p_join, p_union, p_distinct, p_order, p_limit, p_store, p_assert, p_rank}
use Rattle.pig_cuts.specs.Cuts.{NodeCut}
use Rattle.pig_cuts.specs.Fits.{fit, sees}
use Rattle.pig_cuts.specs.Plans.{all_stay, are_whole, cut_unless, fit_block, fit_keyed, fit_op, flattens_stay, items_see, keys_see, load_kept, may_fit, own_cut, staying, steps_see}
use Rattle.pig_cuts.proofs.Gives.{ascend_staying, load_left}
use Rattle.pig_cuts.proofs.LeftItems.{block_left}
use Rattle.pig_cuts.proofs.LeftKeyed.{IsInputLeft, all_keyed_left, as_many_left, group_all_left, groups_left, joins_left, none_is}
use Rattle.pig_cuts.proofs.LeftKinds.{AreLeft, kind_fits}

module _ (cuts : ℕ → NodeCut) (width : ℕ → ℕ) (before after : Before) where
  -- what a node gives, and what it gives once it is fitted
  abbrev pub GivesLeft : NodeCut → Option RowKinds → Option RowKinds → Type 0
  GivesLeft own None None = ⊤
  GivesLeft own (Some ks) (Some ls) = AreLeft cuts own ks ls
  GivesLeft own given made = ⊥

  pub record IsFitted (own : NodeCut) (o : PlanOp) (given : Option RowKinds) : Type 0 where
    pub made : Option RowKinds
    pub is : node_gives after o ≡ Some made
    pub left : GivesLeft own given made

  abbrev Inputs : List ℕ → Type 0
  Inputs = AllByRecursion (IsInputLeft cuts width before after)

  -- ---- tests

  test_left : (i : ℕ) (input : IsInputLeft cuts width before after i) (c : Typed) → sees cuts (cuts i) c ≡ true → is_test input.kinds_left (fit cuts (cuts i) c) ≡ is_test input.kinds c
  test_left i input c h = ap (λ o. option_map_or (kind_eq k_boolean) o false) (kind_fits cuts (cuts i) input.kinds input.kinds_left input.are [] c h)

  tested_left : (i : ℕ) (new : PlanOp) (c d : Typed) → ((f : Before) → node_gives f new ≡ option_and_then (λ row. only_if (is_test row d) (Some (Some row))) (f i))
      → IsInputLeft cuts width before after i → d ≡ fit cuts (cuts i) c → sees cuts (cuts i) c ≡ true
      → (given : Option RowKinds) → option_and_then (λ row. only_if (is_test row c) (Some (Some row))) (before i) ≡ Some given → IsFitted (cuts i) new given
  tested_left i new c d gives input form h given e =
      by_test (is_test input.kinds c) refl (sym (ap (option_and_then (λ row. only_if (is_test row c) (Some (Some row)))) input.was) ∙ e)
    where
      by_test : (b : Bool) → is_test input.kinds c ≡ b → only_if b (Some (Some input.kinds)) ≡ Some given → IsFitted (cuts i) new given
      by_test false t g = absurd (none-some given g)
      by_test true t g =
          subst (IsFitted (cuts i) new) (some_same (Some input.kinds) given g) (record {
            made = Some input.kinds_left;
            is = gives after ∙ ap (option_and_then (λ row. only_if (is_test row d) (Some (Some row)))) input.is
                ∙ ap (λ b. only_if b (Some (Some input.kinds_left))) (ap (is_test input.kinds_left) form ∙ test_left i input c h ∙ t);
            left = input.are;
          })

  -- ---- LOAD

  load_fitted : (path : List ℕ) (delim : ℕ) (marks : List Bool) (columns : List Column) (given : Option RowKinds) → node_gives before (p_load path delim columns) ≡ Some given
      → IsFitted (cut_unless (all_stay marks) (load_kept marks (length columns))) (p_load path delim (staying marks columns)) given
  load_fitted path delim marks columns given e = by_test (ascend columns) refl e
    where
      by_test : (b : Bool) → ascend columns ≡ b → only_if b (Some (Some (map (λ column. kind_tree column.kind) columns))) ≡ Some given
          → IsFitted (cut_unless (all_stay marks) (load_kept marks (length columns))) (p_load path delim (staying marks columns)) given
      by_test false t g = absurd (none-some given g)
      by_test true t g =
          subst (IsFitted _ (p_load path delim (staying marks columns))) (some_same (Some (map (λ column. kind_tree column.kind) columns)) given g) (record {
            made = Some (map (λ column. kind_tree column.kind) (staying marks columns));
            is = ap (λ b. only_if b (Some (Some (map (λ column. kind_tree column.kind) (staying marks columns))))) (ascend_staying cuts marks columns t);
            left = load_left cuts marks columns (all_stay marks) refl;
          })

  -- ---- FOREACH

  foreach_fitted : (i : ℕ) (marks : List Bool) (block : TypedBlock) → IsInputLeft cuts width before after i → steps_see cuts (cuts i) block ≡ true → items_see cuts (cuts i) marks block ≡ true
      → (given : Option RowKinds) → node_gives before (p_foreach i block) ≡ Some given → IsFitted (own_cut cuts width marks (p_foreach i block)) (fit_op cuts marks (p_foreach i block)) given
  foreach_fitted i marks block input steps items given e =
      by_rows (row_kinds block input.kinds) refl (sym (ap (option_and_then (λ row. option_and_then (λ made. Some (Some made)) (row_kinds block row))) input.was) ∙ e)
    where
      by_rows : (o : Option RowKinds) → row_kinds block input.kinds ≡ o → option_and_then (λ made. Some (Some made)) o ≡ Some given → IsFitted (own_cut cuts width marks (p_foreach i block)) (fit_op cuts marks (p_foreach i block)) given
      by_rows None t g = absurd (none-some given g)
      by_rows (Some ks) t g =
          let made = block_left cuts (cuts i) input.kinds input.kinds_left input.are marks block steps items ks t in
          subst (IsFitted (own_cut cuts width marks (p_foreach i block)) (fit_op cuts marks (p_foreach i block))) (some_same (Some ks) given g) (record {
            made = Some made.made;
            is = ap (option_and_then (λ row. option_and_then (λ found. Some (Some found)) (row_kinds (fit_block cuts (cuts i) marks block) row))) input.is ∙ ap (option_and_then (λ found. Some (Some found))) made.is;
            left = made.are;
          })

  -- ---- by key

  group_all_fitted : (i : ℕ) (marks : List Bool) → IsInputLeft cuts width before after i → (given : Option RowKinds) → node_gives before (p_group_all i) ≡ Some given
      → IsFitted (own_cut cuts width marks (p_group_all i)) (p_group_all i) given
  group_all_fitted i marks input given e =
      let g : Some (Some (k_chars ∷ k_bag (kinds_of input.kinds) ∷ [])) ≡ Some given = sym (ap (option_and_then (λ row. Some (Some (k_chars ∷ k_bag (kinds_of row) ∷ [])))) input.was) ∙ e in
      subst (IsFitted (own_cut cuts width marks (p_group_all i)) (p_group_all i)) (some_same (Some (k_chars ∷ k_bag (kinds_of input.kinds) ∷ [])) given g) (record {
        made = Some (k_chars ∷ k_bag (kinds_of input.kinds_left) ∷ []);
        is = ap (option_and_then (λ row. Some (Some (k_chars ∷ k_bag (kinds_of row) ∷ [])))) input.is;
        left = group_all_left cuts width before after i input.kinds input.kinds_left input.are (are_whole cuts (i ∷ [])) refl;
      })

  abbrev numbers : List Keyed → List ℕ
  numbers inputs = map (λ i. i.input) inputs

  group_fitted : (inputs : List Keyed) (marks : List Bool) → Inputs (numbers inputs) → list_all (keys_see cuts) inputs ≡ true → (given : Option RowKinds) → node_gives before (p_group inputs) ≡ Some given
      → IsFitted (own_cut cuts width marks (p_group inputs)) (p_group (map (fit_keyed cuts) inputs)) given
  group_fitted inputs marks are h given e = by_found (all_keyed before inputs) refl e
    where
      by_found : (o : Option (List KeyedKinds)) → all_keyed before inputs ≡ o → option_and_then (λ found. Some (Some (group_kinds found))) o ≡ Some given
          → IsFitted (own_cut cuts width marks (p_group inputs)) (p_group (map (fit_keyed cuts) inputs)) given
      by_found None t g = absurd (none-some given g)
      by_found (Some fs) t g =
          let keyed = all_keyed_left cuts width before after inputs are h fs t in
          subst (IsFitted (own_cut cuts width marks (p_group inputs)) (p_group (map (fit_keyed cuts) inputs))) (some_same (Some (group_kinds fs)) given g) (record {
            made = Some (group_kinds keyed.made);
            is = ap (option_and_then (λ found. Some (Some (group_kinds found)))) keyed.is;
            left = groups_left cuts width before after inputs fs keyed.made keyed.left keyed.agree (are_whole cuts (numbers inputs)) refl;
          })

  abbrev joins : Side → Bool → List Keyed → List KeyedKinds → Bool
  joins s replicated inputs found = is_join s replicated (length found) && list_all (λ input. not input.inner) inputs

  inner_left : (inputs : List Keyed) → list_all (λ input. not input.inner) (map (fit_keyed cuts) inputs) ≡ list_all (λ input. not input.inner) inputs
  inner_left [] = refl
  inner_left (i ∷ inputs) = ap (λ b. not i.inner && b) (inner_left inputs)

  join_fitted : (inputs : List Keyed) (s : Side) (replicated : Bool) (marks : List Bool) → Inputs (numbers inputs) → list_all (keys_see cuts) inputs ≡ true
      → (given : Option RowKinds) → node_gives before (p_join inputs s replicated) ≡ Some given
      → IsFitted (own_cut cuts width marks (p_join inputs s replicated)) (p_join (map (fit_keyed cuts) inputs) s replicated) given
  join_fitted inputs s replicated marks are h given e = by_found (all_keyed before inputs) refl e
    where
      by_test : (fs : List KeyedKinds) → all_keyed before inputs ≡ Some fs → (b : Bool) → joins s replicated inputs fs ≡ b → only_if b (Some (Some (flat_map (λ f. f.row) fs))) ≡ Some given
          → IsFitted (own_cut cuts width marks (p_join inputs s replicated)) (p_join (map (fit_keyed cuts) inputs) s replicated) given
      by_test fs t false j g = absurd (none-some given g)
      by_test fs t true j g =
          let keyed = all_keyed_left cuts width before after inputs are h fs t in
          subst (IsFitted (own_cut cuts width marks (p_join inputs s replicated)) (p_join (map (fit_keyed cuts) inputs) s replicated)) (some_same (Some (flat_map (λ f. f.row) fs)) given g) (record {
            made = Some (flat_map (λ f. f.row) keyed.made);
            is = ap (option_and_then (λ found. only_if (joins s replicated (map (fit_keyed cuts) inputs) found) (Some (Some (flat_map (λ f. f.row) found))))) keyed.is
                ∙ ap (λ b. only_if b (Some (Some (flat_map (λ f. f.row) keyed.made))))
                ((λ d. is_join s replicated ((as_many_left cuts width before after inputs fs keyed.made keyed.left).0 d) && inner_left inputs d) ∙ j);
            left = joins_left cuts width before after inputs fs keyed.made keyed.left (are_whole cuts (numbers inputs)) refl;
          })

      by_found : (o : Option (List KeyedKinds)) → all_keyed before inputs ≡ o → option_and_then (λ found. only_if (joins s replicated inputs found) (Some (Some (flat_map (λ f. f.row) found)))) o ≡ Some given
          → IsFitted (own_cut cuts width marks (p_join inputs s replicated)) (p_join (map (fit_keyed cuts) inputs) s replicated) given
      by_found None t g = absurd (none-some given g)
      by_found (Some fs) t g = by_test fs t (joins s replicated inputs fs) refl g

  -- ---- whole inputs

  whole_input : (i : ℕ) → IsInputLeft cuts width before after i → not (is_some (cuts i)) ≡ true → after i ≡ before i
  whole_input i input h =
      input.is ∙ ap Some (subst (λ o. AreLeft cuts o input.kinds input.kinds_left) (none_is cuts width before after (cuts i) h) input.are) ∙ sym input.was

  pub whole_inputs : (ns : List ℕ) → Inputs ns → are_whole cuts ns ≡ true → AllByRecursion (λ i. after i ≡ before i) ns
  whole_inputs [] are h = tt
  whole_inputs (i ∷ ns) are h =
      let both = and_parts (not (is_some (cuts i))) (are_whole cuts ns) h in
      (whole_input i are.0 both.0, whole_inputs ns are.1 both.1)

  all_same : (ns : List ℕ) → AllByRecursion (λ i. after i ≡ before i) ns → all_of after ns ≡ all_of before ns
  all_same [] h = refl
  all_same (i ∷ ns) h = λ d. option_and_then (λ row. option_map (λ more. row ∷ more) (all_same ns h.1 d)) (h.0 d)

  same_fitted : (o : PlanOp) (given : Option RowKinds) → node_gives after o ≡ node_gives before o → node_gives before o ≡ Some given → IsFitted None o given
  same_fitted o given h e = record { made = given; is = h ∙ e; left = itself given }
    where
      itself : (g : Option RowKinds) → GivesLeft None g g
      itself None = tt
      itself (Some ks) = refl

  -- ---- all of them

  pub node_fitted : (marks : List Bool) (o : PlanOp) → may_fit cuts marks o ≡ true → Inputs (inputs_of o) → (given : Option RowKinds) → node_gives before o ≡ Some given
      → IsFitted (own_cut cuts width marks o) (fit_op cuts marks o) given
  node_fitted marks (p_load path delim columns) h are given e = load_fitted path delim marks columns given e
  node_fitted marks (p_filter i c) h are given e = tested_left i (p_filter i (fit cuts (cuts i) c)) c (fit cuts (cuts i) c) (λ f. refl) are.0 refl h given e
  node_fitted marks (p_foreach i block) h are given e =
      let both = and_parts (steps_see cuts (cuts i) block) (items_see cuts (cuts i) marks block && flattens_stay marks block) h in
      foreach_fitted i marks block are.0 both.0 (and_parts (items_see cuts (cuts i) marks block) (flattens_stay marks block) both.1).0 given e
  node_fitted marks (p_group_all i) h are given e = group_all_fitted i marks are.0 given e
  node_fitted marks (p_group inputs) h are given e = group_fitted inputs marks are h given e
  node_fitted marks (p_join inputs s replicated) h are given e = join_fitted inputs s replicated marks are h given e
  node_fitted marks (p_union ns) h are given e =
      same_fitted (p_union ns) given (ap (option_and_then _) (all_same ns (whole_inputs ns are h))) e
  node_fitted marks (p_distinct i) h are given e = same_fitted (p_distinct i) given (ap (option_and_then _) (whole_inputs (i ∷ []) are h).0) e
  node_fitted marks (p_order i keys) h are given e = same_fitted (p_order i keys) given (ap (option_and_then _) (whole_inputs (i ∷ []) are h).0) e
  node_fitted marks (p_limit i count) h are given e = same_fitted (p_limit i count) given (ap (option_and_then _) (whole_inputs (i ∷ []) are h).0) e
  node_fitted marks (p_store i path delim) h are given e = same_fitted (p_store i path delim) given (ap (option_and_then _) (whole_inputs (i ∷ []) are h).0) e
  node_fitted marks (p_assert i c message) h are given e = tested_left i (p_assert i (fit cuts (cuts i) c) message) c (fit cuts (cuts i) c) (λ f. refl) are.0 refl h given e
  node_fitted marks (p_rank i keys dense) h are given e = same_fitted (p_rank i keys dense) given (ap (option_and_then _) (whole_inputs (i ∷ []) are h).0) e
