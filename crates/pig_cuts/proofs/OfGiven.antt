-- The rows that an operator makes of rows of the kinds of its inputs are of the kinds that it gives.
use Rattle.std.specs.Prelude.{⊤, ◌≡◌, ◌+◌, ◌&&◌, ℕ, suc, Bool, true, false, not, List, [], ◌∷◌, ◌++◌, map, length, codes, Option, Some, None, refl}
use Rattle.std.specs.List.{AllByRecursion, flat_map, list_all}
use Rattle.std.specs.Option.{option_and_then}
use Rattle.std.proofs.Common.{ap, sym, ◌∙◌, subst, arith, append-nil}
use Rattle.std.proofs.lemmas.Bool.{and_parts}
use Rattle.std.proofs.lemmas.Option.{none-some}
use Rattle.pig_value.proofs.KindLaws.{rows_of_from_each}
use Rattle.pig_value.proofs.OfRead.{OfRead}
use Rattle.pig_value.proofs.list_laws.Bags.{each-sort}
use Rattle.pig_value.proofs.list_laws.Distinct.{each-distinct}
use Rattle.pig_value.proofs.list_laws.Listing.{each-append, each-map, each-take, each_of_all, each_weaker, some_same}
use Rattle.pig_value.specs.declared.inputs.Column.{Column}
use Rattle.pig_value.specs.declared.operators.Side.{Side}
use Rattle.pig_value.specs.FieldRows.{row_of}
use Rattle.pig_value.specs.Kinds.{IsOf, IsRowOf}
use Rattle.pig_value.specs.Lines.{lines}
use Rattle.pig_value.specs.Orders.{bag_of, row_cmp}
use Rattle.pig_value.specs.Trees.{Tree, k_bag, k_chars, k_long, kind_tree, kinds_of, v_chars}
use Rattle.pig_typed.proofs.Found.{found_is}
use Rattle.pig_typed.specs.Blocks.{foreach_all, keys_cmp}
use Rattle.pig_typed.specs.Premises.{FunctionsKeepKinds}
use Rattle.pig_plan.proofs.Carries.{IsEntry, each-flat_map, each_gathered}
use Rattle.pig_plan.proofs.KeyedOnce.{by_key_is}
use Rattle.pig_plan.proofs.LoadRows.{row_of_kinds}
use Rattle.pig_plan.proofs.OfKinds.{Agree, AreKeyed, Each, Entered, Entries, HaveKeys, Held, all_are, first_keys, groups_made, have_first, joins_made, keyed_entries_are, row_at, step_is}
use Rattle.pig_plan.specs.ByKey.{entries_of_input, group_of}
use Rattle.pig_plan.specs.Entries.{entries_of, from_inputs, key_entries}
use Rattle.pig_plan.specs.NodeKinds.{Before, KeyedKinds, RowKinds, all_keyed, ascend, group_kinds, is_join, is_sorting, node_gives, only_if}
use Rattle.pig_plan.specs.Nodes.{inputs_of}
use Rattle.pig_plan.specs.Operators.{Setting, filter_rows, limit_rows, load_rows, operator_rows, pieces_of, rank_of, rank_rows}
use Rattle.pig_plan.specs.Plans.{Keyed, PlanOp, p_load, p_filter, p_foreach, p_group_all, p_group, p_join, p_union, p_distinct, p_order, p_limit, p_store, p_assert, p_rank}

module _ (functions : FunctionsKeepKinds) (before : Before) (rows : ℕ → List (List Tree)) (s : Setting) (statement : ℕ) where
  abbrev pub Inputs : PlanOp → Type 0
  Inputs o = AllByRecursion (Held functions before s.width rows) (inputs_of o)

  -- what is asked besides of the rows that a bare LIMIT kept
  abbrev pub Own : PlanOp → Type 0
  Own (p_limit input count) = s.sorted input ≡ false → (ks : RowKinds) → Each ks (rows input) → Each ks (s.kept statement)
  Own o = ⊤

  abbrev Goal : PlanOp → RowKinds → Type 0
  Goal o ks = Each ks (operator_rows s statement o rows)

  sorted_each : (ks : RowKinds) (found : List (List Tree)) → Each ks found → Each ks (bag_of found)
  sorted_each ks found h = each-sort row_cmp (λ row. IsRowOf row ks) found h

  -- the rows of the one input
  held : (i : ℕ) (ks : RowKinds) → Held functions before s.width rows i → before i ≡ Some ks → Each ks (rows i)
  held i ks h e = (found_is (λ ks. Each ks (rows i) × (s.width i ≡ length ks)) (before i) ks e h).0

  -- what an operator on one input gives
  of_input : (i : ℕ) (next : RowKinds → Option (Option RowKinds)) (ks : RowKinds) → option_and_then next (before i) ≡ Some (Some ks) → (input : RowKinds) × (before i ≡ Some input) × (next input ≡ Some (Some ks))
  of_input i next ks h = by_found (before i) refl h
    where
      by_found : (o : Option RowKinds) → before i ≡ o → option_and_then next o ≡ Some (Some ks) → (input : RowKinds) × (before i ≡ Some input) × (next input ≡ Some (Some ks))
      by_found None e g = absurd (none-some (Some ks) g)
      by_found (Some input) e g = (input, e, g)

  only_same : (b : Bool) (ls ks : RowKinds) → only_if b (Some (Some ls)) ≡ Some (Some ks) → ls ≡ ks
  only_same true ls ks h = some_same ls ks (some_same (Some ls) (Some ks) h)
  only_same false ls ks h = absurd (none-some (Some ks) h)

  unread : (found : List (List Tree)) (ks : RowKinds) (o : Option (Option RowKinds)) → o ≡ Some (Some ks) → OfRead (λ given. OfRead (λ ls. Each ls found) given) o → Each ks found
  unread found ks o e h = found_is (λ ls. Each ls found) (Some ks) ks refl (found_is (λ given. OfRead (λ ls. Each ls found) given) o (Some ks) e h)

  without_nil : (ks : RowKinds) (found : List (List Tree)) (f : List (List Tree) → List (List Tree)) → Each ks (f (found ++ [])) → Each ks (f found)
  without_nil ks found f h = subst (λ rs. Each ks (f rs)) (append-nil found) h

  limit_each : (b : Bool) (ks : RowKinds) (count : ℕ) (kept found : List (List Tree)) → (b ≡ false → Each ks kept) → Each ks found → Each ks (limit_rows b count kept found)
  limit_each true ks count kept found h g = each-take (λ row. IsRowOf row ks) count found g
  limit_each false ks count kept found h g = sorted_each ks kept (h refl)

  -- ---- by key

  module _ (o : PlanOp) (inputs : List Keyed) (is : (i : ℕ) (found : List (List Tree)) → entries_of o i found ≡ entries_of (p_group inputs) i found) where
    input_entries : (fs : List KeyedKinds) → AreKeyed functions before s.width rows inputs fs → (keys : RowKinds) → HaveKeys functions before s.width rows keys fs → (m : ℕ) (more : List Keyed) (gs : List KeyedKinds)
        → AreKeyed functions before s.width rows more gs → ((j : ℕ) → row_at fs (m + j) ≡ row_at gs j)
        → AllByRecursion (Entered functions before s.width rows keys fs) (from_inputs (entries_of o) m (map (λ i. i.input) more) rows)
    input_entries fs are keys have m [] gs h at = tt
    input_entries fs are keys have m (i ∷ more) [] h at = absurd h
    input_entries fs are keys have m (i ∷ more) (g ∷ gs) h at =
        let here : row_at fs m ≡ g.row = (let e : m ≡ m + 0 = omega (arith) in ap (row_at fs) e) ∙ at 0 in
        each-append (Entered functions before s.width rows keys fs) (entries_of o m (rows i.input)) (from_inputs (entries_of o) (m + 1) (map (λ i. i.input) more) rows)
        (subst (AllByRecursion (Entered functions before s.width rows keys fs)) (sym (is m (rows i.input)))
        (keyed_entries_are functions before s.width rows keys inputs fs are have m (rows i.input) (subst (λ ks. Each ks (rows i.input)) (sym here) h.0.rows_are)))
        (input_entries fs are keys have (m + 1) more gs h.1 (λ j. (let e : m + 1 + j ≡ m + suc j = omega (arith) in ap (row_at fs) e) ∙ at (suc j)))

    all_entries : (fs : List KeyedKinds) → Agree functions before s.width rows inputs fs → Entries functions before s.width rows fs (from_inputs (entries_of o) 0 (map (λ i. i.input) inputs) rows)
    all_entries fs agree =
        input_entries fs agree.0 (first_keys functions before s.width rows fs) (have_first functions before s.width rows inputs fs agree) 0 inputs fs agree.0
        (λ j. let e : 0 + j ≡ j = omega (arith) in ap (row_at fs) e)

  agreed : (inputs : List Keyed) → AllByRecursion (Held functions before s.width rows) (map (λ i. i.input) inputs) → (fs : List KeyedKinds) → all_keyed before inputs ≡ Some fs → Agree functions before s.width rows inputs fs
  agreed inputs all fs e = found_is (Agree functions before s.width rows inputs) (all_keyed before inputs) fs e (all_are functions before s.width rows inputs all)

  group_given : (inputs : List Keyed) → Inputs (p_group inputs) → (ks : RowKinds) → node_gives before (p_group inputs) ≡ Some (Some ks) → Goal (p_group inputs) ks
  group_given inputs all ks e = by_found (all_keyed before inputs) refl e
    where
      by_found : (o : Option (List KeyedKinds)) → all_keyed before inputs ≡ o → option_and_then (λ found. Some (Some (group_kinds found))) o ≡ Some (Some ks) → Goal (p_group inputs) ks
      by_found None f g = absurd (none-some (Some ks) g)
      by_found (Some fs) f g =
          let agree = agreed inputs all fs f in
          subst (Goal (p_group inputs)) (some_same (group_kinds fs) ks (some_same (Some (group_kinds fs)) (Some ks) g))
          (subst (Each (group_kinds fs)) (sym (by_key_is s statement (p_group inputs) rows refl))
          (sorted_each (group_kinds fs) _ (groups_made functions before s.width rows inputs fs agree (key_entries (p_group inputs) rows) (all_entries (p_group inputs) inputs (λ i found. refl) fs agree))))

  join_given : (inputs : List Keyed) (sd : Side) (replicated : Bool) → Inputs (p_join inputs sd replicated) → (ks : RowKinds) → node_gives before (p_join inputs sd replicated) ≡ Some (Some ks) → Goal (p_join inputs sd replicated) ks
  join_given inputs sd replicated all ks e = by_found (all_keyed before inputs) refl e
    where
      by_test : (fs : List KeyedKinds) → all_keyed before inputs ≡ Some fs → (b : Bool) → (is_join sd replicated (length fs) && list_all (λ input. not input.inner) inputs) ≡ b
          → only_if b (Some (Some (flat_map (λ f. f.row) fs))) ≡ Some (Some ks) → Goal (p_join inputs sd replicated) ks
      by_test fs f false t g = absurd (none-some (Some ks) g)
      by_test fs f true t g =
          let agree = agreed inputs all fs f in
          subst (Goal (p_join inputs sd replicated)) (some_same (flat_map (λ f. f.row) fs) ks (some_same (Some (flat_map (λ f. f.row) fs)) (Some ks) g))
          (subst (Each (flat_map (λ f. f.row) fs)) (sym (by_key_is s statement (p_join inputs sd replicated) rows refl))
          (sorted_each (flat_map (λ f. f.row) fs) _ (joins_made functions before s.width rows sd replicated inputs fs agree
          (and_parts (is_join sd replicated (length fs)) (list_all (λ input. not input.inner) inputs) t).0
          (key_entries (p_join inputs sd replicated) rows) (all_entries (p_join inputs sd replicated) inputs (λ i found. refl) fs agree))))

      by_found : (o : Option (List KeyedKinds)) → all_keyed before inputs ≡ o
          → option_and_then (λ found. only_if (is_join sd replicated (length found) && list_all (λ input. not input.inner) inputs) (Some (Some (flat_map (λ f. f.row) found)))) o ≡ Some (Some ks)
          → Goal (p_join inputs sd replicated) ks
      by_found None f g = absurd (none-some (Some ks) g)
      by_found (Some fs) f g = by_test fs f _ refl g

  group_all_given : (i : ℕ) → Inputs (p_group_all i) → (ks : RowKinds) → node_gives before (p_group_all i) ≡ Some (Some ks) → Goal (p_group_all i) ks
  group_all_given i all ks e =
      let found = of_input i (λ row. Some (Some (k_chars ∷ k_bag (kinds_of row) ∷ []))) ks e in
      let made : RowKinds = k_chars ∷ k_bag (kinds_of found.0) ∷ [] in
      subst (Goal (p_group_all i)) (some_same made ks (some_same (Some made) (Some ks) found.2))
      (sorted_each made _
      (each_gathered (λ k. IsOf k k_chars) (λ j row. IsRowOf row found.0) (λ row. IsRowOf row made) group_of
      (λ k here bags g. ((here, (rows_of_from_each found.0 (bags 0) (g 0).each, tt)), tt)) (entries_of_input (λ row. v_chars (codes "all")) 0 (rows i))
      (each-map (IsEntry (λ k. IsOf k k_chars) (λ j row. IsRowOf row found.0)) (λ row. record { key = v_chars (codes "all"); input = 0; row = row }) (rows i)
      (each_weaker (λ row. IsRowOf row found.0) _ (λ row is. (tt, is)) (rows i) (held i found.0 all.0 found.1)))))

  -- ---- all of them

  abbrev no_rows : RowKinds → Option (Option RowKinds)
  no_rows row = Some None

  load_given : (path : List ℕ) (delim : ℕ) (columns : List Column) (ks : RowKinds) → node_gives before (p_load path delim columns) ≡ Some (Some ks) → Goal (p_load path delim columns) ks
  load_given path delim columns ks e =
      subst (Goal (p_load path delim columns)) (only_same (ascend columns) (map (λ column. kind_tree column.kind) columns) ks e)
      (sorted_each (map (λ column. kind_tree column.kind) columns) (load_rows s.inputs path delim columns)
      (each-flat_map (λ row. IsRowOf row (map (λ column. kind_tree column.kind) columns)) (λ piece. map (row_of columns delim) (lines piece)) (pieces_of s.inputs path)
      (each_of_all _ (λ piece. each-map (λ row. IsRowOf row (map (λ column. kind_tree column.kind) columns)) (row_of columns delim) (lines piece) (each_of_all _ (λ line. row_of_kinds columns delim line) (lines piece))) (pieces_of s.inputs path))))

  pub of_given : (o : PlanOp) → Own o → Inputs o → (ks : RowKinds) → node_gives before o ≡ Some (Some ks) → Each ks (operator_rows s statement o rows)
  of_given (p_load path delim columns) own all ks e = load_given path delim columns ks e
  of_given (p_filter i c) own all ks e =
      sorted_each ks _ (without_nil ks (rows i) (filter_rows c) (unread _ ks (node_gives before (p_filter i c)) e (step_is functions before s.width rows s statement (λ n. refl) (p_filter i c) refl tt all)))
  of_given (p_foreach i block) own all ks e =
      sorted_each ks _ (without_nil ks (rows i) (foreach_all block) (unread _ ks (node_gives before (p_foreach i block)) e (step_is functions before s.width rows s statement (λ n. refl) (p_foreach i block) refl tt all)))
  of_given (p_group_all i) own all ks e = group_all_given i all ks e
  of_given (p_group inputs) own all ks e = group_given inputs all ks e
  of_given (p_join inputs sd replicated) own all ks e = join_given inputs sd replicated all ks e
  of_given (p_union ns) own all ks e = sorted_each ks _ (unread _ ks (node_gives before (p_union ns)) e (step_is functions before s.width rows s statement (λ n. refl) (p_union ns) refl tt all))
  of_given (p_distinct i) own all ks e =
      let found = of_input i (λ row. Some (Some row)) ks e in
      each-distinct row_cmp (λ row. IsRowOf row ks) (rows i) (held i ks all.0 (found.1 ∙ ap Some (some_same found.0 ks (some_same (Some found.0) (Some ks) found.2))))
  of_given (p_order i keys) own all ks e =
      let found = of_input i (λ row. only_if (is_sorting row keys) (Some (Some row))) ks e in
      each-sort (keys_cmp keys) (λ row. IsRowOf row ks) (rows i) (held i ks all.0 (found.1 ∙ ap Some (only_same (is_sorting found.0 keys) found.0 ks found.2)))
  of_given (p_limit i count) own all ks e =
      let found = of_input i (λ row. Some (Some row)) ks e in
      let rows_are : Each ks (rows i) = held i ks all.0 (found.1 ∙ ap Some (some_same found.0 ks (some_same (Some found.0) (Some ks) found.2))) in
      limit_each (s.sorted i) ks count (s.kept statement) (rows i) (λ unsorted. own unsorted ks rows_are) rows_are
  of_given (p_store i path delim) own all ks e =
      let found = by_store (before i) refl e in absurd found
    where
      by_store : (o : Option RowKinds) → before i ≡ o → option_and_then no_rows o ≡ Some (Some ks) → ⊥
      by_store None f g = none-some (Some ks) g
      by_store (Some row) f g = none-some ks (some_same None (Some ks) g)
  of_given (p_assert i c message) own all ks e =
      without_nil ks (rows i) (λ found. found) (unread _ ks (node_gives before (p_assert i c message)) e (step_is functions before s.width rows s statement (λ n. refl) (p_assert i c message) refl tt all))
  of_given (p_rank i keys dense) own all ks e =
      let found = of_input i (λ row. only_if (is_sorting row keys) (Some (Some (k_long ∷ row)))) ks e in
      subst (Goal (p_rank i keys dense)) (only_same (is_sorting found.0 keys) (k_long ∷ found.0) ks found.2)
      (sorted_each (k_long ∷ found.0) (rank_rows keys dense (rows i))
      (each-map (λ row. IsRowOf row (k_long ∷ found.0)) (λ row. rank_of keys dense (rows i) row ∷ row) (rows i)
      (each_weaker (λ row. IsRowOf row found.0) _ (λ row is. (tt, is)) (rows i) (held i found.0 all.0 found.1))))
