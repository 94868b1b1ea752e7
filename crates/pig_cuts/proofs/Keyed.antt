-- GROUP ALL, GROUP, COGROUP and JOIN make of cut rows what they make of the rows, cut.
use Rattle.std.specs.Prelude.{⊤, ◌≡◌, ◌+◌, ℕ, suc, Bool, true, false, List, [], ◌∷◌, map, length, Some, None, slice_get, refl}
use Rattle.std.specs.List.{AllByRecursion, list_all}
use Rattle.std.specs.List.Sorted.{IsPermutation}
use Rattle.std.specs.Option.{option_map, option_map_or}
use Rattle.std.proofs.Common.{ap, sym, ◌∙◌, subst, arith}
use Rattle.std.proofs.lemmas.Bool.{and_parts}
use Rattle.std.proofs.lemmas.List.{length-map}
use Rattle.std.proofs.lemmas.List.FromFn.{length-map-range_with_len}
use Rattle.pig_value.proofs.OrderLaws.{row_total}
use Rattle.pig_value.proofs.list_laws.Bags.{bag_once}
use Rattle.pig_value.proofs.list_laws.Indexing.{get_map}
use Rattle.pig_value.proofs.list_laws.Listing.{each-append, each-map, each_of_all, each_weaker}
use Rattle.pig_value.proofs.list_laws.Permutations.{IsPermutation-same}
use Rattle.pig_value.specs.Orders.{bag_of, row_cmp}
use Rattle.pig_value.specs.Trees.{Tree, v_null}
use Rattle.pig_value.specs.declared.operators.Side.{Side}
use Rattle.pig_value.specs.declared.operators.Side.TheVariants as side
use Rattle.pig_typed.specs.Typed.{Typed}
use Rattle.pig_plan.proofs.KeyedOnce.{by_key_is}
use Rattle.pig_plan.proofs.Seen.{seen}
use Rattle.pig_plan.specs.ByKey.{cogroup_of, gathered, group_of, join_of, key_of, outer_of}
use Rattle.pig_plan.specs.Entries.{entries_of, from_inputs, is_by_key, key_at, key_entries, keyed_at, made_by}
use Rattle.pig_plan.specs.Laws.{hands_on}
use Rattle.pig_plan.specs.Nodes.{inputs_of}
use Rattle.pig_plan.specs.Operators.{Setting, keys_of, operator_rows}
use Rattle.pig_plan.specs.Plans.{Keyed, PlanOp, p_group_all, p_group, p_join}
use Rattle.pig_cuts.specs.declared.kept.KeptField.{KeptField}
use Rattle.pig_cuts.specs.Cuts.{NodeCut, cut_row}
use Rattle.pig_cuts.specs.Fits.{fit, sees}
use Rattle.pig_cuts.specs.Plans.{are_whole, cut_unless, fields_of_cut, fit_keyed, group_kept, keys_see, sides_kept, whole_field}
use Rattle.pig_cuts.proofs.Entries.{AreBags, AreEntries, AreRows, KeysSame, Placed, all_placed, cut_bags, entries_cut, gathered_cut, whole_at, whole_bags}
use Rattle.pig_cuts.proofs.Fields.{Rows, Unfolds, maps_in_turn}
use Rattle.pig_cuts.proofs.Fitted.{Suits, fits}
use Rattle.pig_cuts.proofs.Grouped.{cogroup_cut, group_cut}
use Rattle.pig_cuts.proofs.Joined.{IsWithin, join_cut, outer_cut}
use Rattle.pig_cuts.proofs.Rowwise.{AllSuit, cut_all, cut_of_bag, map_itself}

module _ (cutter : ℕ → List Tree → List Tree) (cuts : ℕ → NodeCut) (width : ℕ → ℕ) where
  -- ---- keys

  keys_fit : (own : NodeCut) (row : List Tree) → Suits cuts cutter own row → (keys : List Typed) → list_all (sees cuts own) keys ≡ true
      → keys_of (map (fit cuts own) keys) (cut_row cutter own row) ≡ keys_of keys row
  keys_fit own row suit [] h = refl
  keys_fit own row suit (e ∷ keys) h =
      let both = and_parts (sees cuts own e) (list_all (sees cuts own) keys) h in
      λ d. fits cuts cutter own row suit [] e both.0 d ∷ keys_fit own row suit keys both.1 d

  -- what is known of an input: its rows suit its cut, and are as wide as said
  pub record IsInput (rows : ℕ → Rows) (i : ℕ) : Type 0 where
    pub suit : AllSuit cutter cuts (cuts i) (rows i)
    pub wide : AllByRecursion (λ row. length row ≡ width i) (rows i)
    pub within : IsWithin (width i) (cuts i)
    pub unfolds : Unfolds cuts cutter i

  abbrev numbers : List Keyed → List ℕ
  numbers inputs = map (λ i. i.input) inputs

  pub same_numbers : (inputs : List Keyed) → numbers (map (fit_keyed cuts) inputs) ≡ numbers inputs
  same_numbers inputs = maps_in_turn (λ i. i.input) (fit_keyed cuts) (λ i. i.input) (λ i. refl) inputs

  module _ (rows : ℕ → Rows) where
    -- ---- any operator by key

    module _ (new old : PlanOp) where
      abbrev ins : List ℕ
      ins = inputs_of old

      abbrev AsWide : ℕ → List Tree → Type 0
      AsWide j row = length row ≡ option_map_or width (slice_get ins j) 0

      entries_wide : (m : ℕ) (more : List ℕ) → Placed cutter cuts ins m more → AllByRecursion (IsInput rows) more → AreEntries cutter cuts ins AsWide (from_inputs (entries_of old) m more rows)
      entries_wide m [] placed are = tt
      entries_wide m (i ∷ more) placed are =
          each-append (λ e. AsWide e.input e.row) (entries_of old m (rows i)) (from_inputs (entries_of old) (m + 1) more rows)
          (each-map (λ e. AsWide e.input e.row) (λ row. record { key = key_at old m row; input = m; row = row }) (rows i)
          (each_weaker (λ row. length row ≡ width i) (AsWide m) (λ row h. h ∙ sym (ap (λ o. option_map_or width o 0) placed.0)) (rows i) are.0.wide))
          (entries_wide (m + 1) more placed.1 are.1)

      abbrev MadeLaw : (ℕ → ℕ) → NodeCut → Type 0
      MadeLaw other left = (k : Tree) (bags : ℕ → Rows) → AreBags cutter cuts ins bags → AreRows cutter cuts ins AsWide bags
          → IsPermutation (made_by other new k (cut_bags cutter cuts ins bags)) (map (cut_row cutter left) (made_by width old k bags))

      pub keyed_cut : (s t : Setting) (statement : ℕ) → s.width ≡ width → is_by_key new ≡ true → is_by_key old ≡ true → hands_on t.sorted new ≡ false → inputs_of new ≡ inputs_of old
          → (given : ℕ → Rows) → AllByRecursion (λ i. given i ≡ cut_all cutter (cuts i) (rows i)) ins → AllByRecursion (IsInput rows) ins → KeysSame cutter cuts ins rows new old 0 ins
          → (left : NodeCut) → MadeLaw t.width left
          → operator_rows t statement new given ≡ cut_all cutter left (operator_rows s statement old rows)
      keyed_cut s t statement wide new_by old_by own same given are inputs keys left law =
          let mapped = λ (i : ℕ). map (cut_row cutter (cuts i)) (rows i) in
          seen given mapped t statement new own
          (subst (AllByRecursion (λ i. bag_of (given i) ≡ bag_of (mapped i))) (sym same)
          (each_weaker (λ i. given i ≡ cut_all cutter (cuts i) (rows i)) _ (λ i e. ap bag_of e ∙ as_bag_is (cuts i) (rows i)) ins are))
          ∙ by_key_is t statement new mapped new_by
          ∙ ap (λ xs. bag_of (gathered (made_by t.width new) (from_inputs (entries_of new) 0 xs mapped))) same
          ∙ ap (λ es. bag_of (gathered (made_by t.width new) es)) (entries_cut cutter cuts ins rows new old 0 ins (all_placed cutter cuts ins) keys)
          ∙ gathered_cut cutter cuts ins AsWide (made_by t.width new) (made_by width old) left law (key_entries old rows) (entries_wide 0 ins (all_placed cutter cuts ins) inputs)
          ∙ sym (cut_of_bag cutter left (gathered (made_by width old) (key_entries old rows)))
          ∙ ap (λ w. cut_all cutter left (bag_of (gathered (made_by w old) (key_entries old rows)))) (sym wide)
          ∙ ap (cut_all cutter left) (sym (by_key_is s statement old rows old_by))
        where
          as_bag_is : (own : NodeCut) (found : Rows) → bag_of (cut_all cutter own found) ≡ bag_of (map (cut_row cutter own) found)
          as_bag_is None found = ap bag_of (sym (map_itself found))
          as_bag_is (Some kept) found = bag_once row_cmp row_total (map (cut_row cutter (Some kept)) found)

    -- ---- keys of inputs

    keys_same : (whole : List Keyed) (new old : PlanOp)
        → ((m : ℕ) (row : List Tree) → key_at new m row ≡ keyed_at (map (fit_keyed cuts) whole) m row) → ((m : ℕ) (row : List Tree) → key_at old m row ≡ keyed_at whole m row)
        → (m : ℕ) (more : List Keyed) → ((j : ℕ) → slice_get whole (m + j) ≡ slice_get more j) → list_all (keys_see cuts) more ≡ true → AllByRecursion (IsInput rows) (numbers more)
        → KeysSame cutter cuts (numbers whole) rows new old m (numbers more)
    keys_same whole new old n o m [] stands h are = tt
    keys_same whole new old n o m (i ∷ more) stands h are =
        let both = and_parts (keys_see cuts i) (list_all (keys_see cuts) more) h in
        let here : slice_get whole m ≡ Some i = (let e : m ≡ m + 0 = omega arith in ap (slice_get whole) e) ∙ stands 0 in (
          each_weaker (Suits cuts cutter (cuts i.input)) _
              (λ row suit. n m (cut_row cutter (cuts i.input) row)
              ∙ ap (λ found. option_map_or (λ input. key_of (keys_of input.keys (cut_row cutter (cuts i.input) row))) found v_null) (get_map (fit_keyed cuts) whole m ∙ ap (option_map (fit_keyed cuts)) here)
              ∙ ap key_of (keys_fit (cuts i.input) row suit i.keys both.0)
              ∙ sym (ap (λ found. option_map_or (λ input. key_of (keys_of input.keys row)) found v_null) here)
              ∙ sym (o m row))
              (rows i.input) are.0.suit,
          keys_same whole new old n o (m + 1) more (λ j. let next : m + 1 + j ≡ m + suc j = omega arith in ap (slice_get whole) next ∙ stands (suc j)) both.1 are.1,
        )

    -- ---- what is made of a key

    module _ (ins : List ℕ) where
      abbrev Wide : ℕ → List Tree → Type 0
      Wide j row = length row ≡ option_map_or width (slice_get ins j) 0

      abbrev Make : Type 0
      Make = Tree → (ℕ → Rows) → Rows

      abbrev Law : NodeCut → Make → Make → Type 0
      Law left new old = (k : Tree) (bags : ℕ → Rows) → AreBags cutter cuts ins bags → AreRows cutter cuts ins Wide bags
          → IsPermutation (new k (cut_bags cutter cuts ins bags)) (map (cut_row cutter left) (old k bags))

      -- of whole inputs nothing is cut
      either_law : (kept : List KeptField) (b : Bool) → are_whole cuts ins ≡ b → (new old : Make) → (are_whole cuts ins ≡ true → (k : Tree) (bags : ℕ → Rows) → new k bags ≡ old k bags)
          → Law (Some kept) new old → Law (cut_unless b kept) new old
      either_law kept true e new old same law k bags are wide =
          IsPermutation-same (new k (cut_bags cutter cuts ins bags)) (map (λ row. row) (old k bags))
          (ap (new k) (whole_bags cutter cuts ins e bags are) ∙ same e k bags ∙ sym (map_itself (old k bags)))
      either_law kept false e new old same law k bags are wide = law k bags are wide

    -- ---- GROUP

    group_all_law : (i : ℕ) → Unfolds cuts cutter i → (w : ℕ → ℕ) → MadeLaw (p_group_all i) (p_group_all i) w (cut_unless (are_whole cuts (i ∷ [])) (group_kept cuts (i ∷ [])))
    group_all_law i u w =
        either_law (i ∷ []) (group_kept cuts (i ∷ [])) (are_whole cuts (i ∷ [])) refl group_of group_of (λ e k bags. refl)
        (λ k bags are wide. IsPermutation-same _ _ (group_cut cutter cuts (i ∷ []) (u, tt) i refl k bags are))

    pub group_all_cut : (s t : Setting) (statement i : ℕ) → s.width ≡ width → (given : ℕ → Rows) → AllByRecursion (λ n. given n ≡ cut_all cutter (cuts n) (rows n)) (i ∷ []) → AllByRecursion (IsInput rows) (i ∷ [])
        → operator_rows t statement (p_group_all i) given ≡ cut_all cutter (cut_unless (are_whole cuts (i ∷ [])) (group_kept cuts (i ∷ []))) (operator_rows s statement (p_group_all i) rows)
    group_all_cut s t statement i wide given are inputs =
        keyed_cut (p_group_all i) (p_group_all i) s t statement wide refl refl refl refl given are inputs (each_of_all _ (λ row. refl) (rows i), tt)
        (cut_unless (are_whole cuts (i ∷ [])) (group_kept cuts (i ∷ []))) (group_all_law i inputs.0.unfolds t.width)

    module _ (inputs : List Keyed) where
      abbrev fitted : List Keyed
      fitted = map (fit_keyed cuts) inputs

      as_many : length fitted ≡ length (numbers inputs)
      as_many = length-map inputs (fit_keyed cuts) ∙ sym (length-map inputs (λ i. i.input))

      inner_same : map (λ i. i.inner) fitted ≡ map (λ i. i.inner) inputs
      inner_same = maps_in_turn (λ i. i.inner) (fit_keyed cuts) (λ i. i.inner) (λ i. refl) inputs

      abbrev group_left : NodeCut
      group_left = cut_unless (are_whole cuts (numbers inputs)) (group_kept cuts (numbers inputs))

    cogroup_law : (inputs : List Keyed) → AllByRecursion (Unfolds cuts cutter) (numbers inputs)
        → Law (numbers inputs) (group_left inputs) (cogroup_of (map (λ i. i.inner) (fitted inputs)) (length (fitted inputs))) (cogroup_of (map (λ i. i.inner) inputs) (length inputs))
    cogroup_law inputs u =
        either_law (numbers inputs) (group_kept cuts (numbers inputs)) (are_whole cuts (numbers inputs)) refl _ _
        (λ e k bags d. cogroup_of (inner_same inputs d) (length-map inputs (fit_keyed cuts) d) k bags)
        (λ k bags are wide. IsPermutation-same _ _
        ((λ d. cogroup_of (inner_same inputs d) (as_many inputs d) k (cut_bags cutter cuts (numbers inputs) bags))
        ∙ cogroup_cut cutter cuts (numbers inputs) u (map (λ i. i.inner) inputs) k bags are
        ∙ ap (λ n. map (cut_row cutter (Some (group_kept cuts (numbers inputs)))) (cogroup_of (map (λ i. i.inner) inputs) n k bags)) (length-map inputs (λ i. i.input))))

    group_law : (inputs : List Keyed) → AllByRecursion (Unfolds cuts cutter) (numbers inputs) → (w : ℕ → ℕ) → MadeLaw (p_group (fitted inputs)) (p_group inputs) w (group_left inputs)
    group_law [] u w = cogroup_law [] u
    group_law (i ∷ []) u w =
        either_law (i.input ∷ []) (group_kept cuts (i.input ∷ [])) (are_whole cuts (i.input ∷ [])) refl group_of group_of (λ e k bags. refl)
        (λ k bags are wide. IsPermutation-same _ _ (group_cut cutter cuts (i.input ∷ []) u i.input refl k bags are))
    group_law (i ∷ j ∷ inputs) u w = cogroup_law (i ∷ j ∷ inputs) u

    all_unfold : (ns : List ℕ) → AllByRecursion (IsInput rows) ns → AllByRecursion (Unfolds cuts cutter) ns
    all_unfold ns are = each_weaker (IsInput rows) (Unfolds cuts cutter) (λ i is. is.unfolds) ns are

    pub groups_cut : (s t : Setting) (statement : ℕ) (inputs : List Keyed) → s.width ≡ width → list_all (keys_see cuts) inputs ≡ true
        → (given : ℕ → Rows) → AllByRecursion (λ n. given n ≡ cut_all cutter (cuts n) (rows n)) (numbers inputs) → AllByRecursion (IsInput rows) (numbers inputs)
        → operator_rows t statement (p_group (fitted inputs)) given ≡ cut_all cutter (group_left inputs) (operator_rows s statement (p_group inputs) rows)
    groups_cut s t statement inputs wide see given are known =
        keyed_cut (p_group (fitted inputs)) (p_group inputs) s t statement wide refl refl refl (same_numbers inputs) given are known
        (keys_same inputs (p_group (fitted inputs)) (p_group inputs) (λ m row. refl) (λ m row. refl) 0 inputs (λ j. let e : 0 + j ≡ j = omega arith in ap (slice_get inputs) e) see known)
        (group_left inputs) (group_law inputs (all_unfold (numbers inputs) known) t.width)

    -- ---- JOIN

    all_within : (ns : List ℕ) → AllByRecursion (IsInput rows) ns → AllByRecursion (λ i. IsWithin (width i) (cuts i)) ns
    all_within ns are = each_weaker (IsInput rows) (λ i. IsWithin (width i) (cuts i)) (λ i is. is.within) ns are

    abbrev join_left : List Keyed → NodeCut
    join_left inputs = cut_unless (are_whole cuts (numbers inputs)) (sides_kept cuts width 0 (numbers inputs))

    inner_law : (inputs : List Keyed) → AllByRecursion (IsInput rows) (numbers inputs) → Law (numbers inputs) (join_left inputs) (join_of (length (fitted inputs))) (join_of (length inputs))
    inner_law inputs known =
        either_law (numbers inputs) (sides_kept cuts width 0 (numbers inputs)) (are_whole cuts (numbers inputs)) refl _ _
        (λ e k bags d. join_of (length-map inputs (fit_keyed cuts) d) k bags)
        (λ k bags are wide.
        subst (λ n. IsPermutation (join_of (length (fitted inputs)) k (cut_bags cutter cuts (numbers inputs) bags)) (map (cut_row cutter (Some (sides_kept cuts width 0 (numbers inputs)))) (join_of n k bags)))
        (length-map inputs (λ i. i.input))
        (subst (λ n. IsPermutation (join_of n k (cut_bags cutter cuts (numbers inputs) bags)) (map (cut_row cutter (Some (sides_kept cuts width 0 (numbers inputs)))) (join_of (length (numbers inputs)) k bags)))
        (sym (as_many inputs))
        (join_cut cutter cuts (numbers inputs) width (all_within (numbers inputs) known) k bags are wide)))

    -- how many fields are left of an input
    abbrev pub IsSized : (ℕ → ℕ) → ℕ → Type 0
    IsSized w i = w i ≡ length (fields_of_cut (width i) (cuts i))

    whole_size : (i : ℕ) → cuts i ≡ None → length (fields_of_cut (width i) (cuts i)) ≡ width i
    whole_size i h = ap (λ o. length (fields_of_cut (width i) o)) h ∙ length-map-range_with_len whole_field 0 (width i)

    outer_law : (s : Side) (a b : Keyed) → AllByRecursion (IsInput rows) (a.input ∷ b.input ∷ []) → (w : ℕ → ℕ) → IsSized w a.input → IsSized w b.input
        → Law (a.input ∷ b.input ∷ []) (join_left (a ∷ b ∷ [])) (outer_of s (w a.input) (w b.input)) (outer_of s (width a.input) (width b.input))
    outer_law s a b known w left_size right_size =
        either_law (a.input ∷ b.input ∷ []) (sides_kept cuts width 0 (a.input ∷ b.input ∷ [])) (are_whole cuts (a.input ∷ b.input ∷ [])) refl _ _
        (λ e k bags.
        let first : cuts a.input ≡ None = whole_at cutter cuts (a.input ∷ b.input ∷ []) (a.input ∷ b.input ∷ []) 0 e in
        let second : cuts b.input ≡ None = whole_at cutter cuts (a.input ∷ b.input ∷ []) (a.input ∷ b.input ∷ []) 1 e in
        λ d. outer_of s ((left_size ∙ whole_size a.input first) d) ((right_size ∙ whole_size b.input second) d) k bags)
        (λ k bags are wide. outer_cut cutter cuts a.input b.input width (all_within (a.input ∷ b.input ∷ []) known) s (w a.input) (w b.input) left_size right_size k bags are wide)

    -- what is no inner JOIN has two inputs
    abbrev pub Sided : Side → List Keyed → Type 0
    Sided side.Inner inputs = ⊤
    Sided s inputs = length inputs ≡ 2

    abbrev JoinLaw : Side → Bool → (ℕ → ℕ) → List Keyed → Type 0
    JoinLaw s replicated w inputs = MadeLaw (p_join (fitted inputs) s replicated) (p_join inputs s replicated) w (join_left inputs)

    of_two : (s : Side) (replicated : Bool) (w : ℕ → ℕ) (inputs : List Keyed) → length inputs ≡ 2 → ((a b : Keyed) → inputs ≡ a ∷ b ∷ [] → JoinLaw s replicated w (a ∷ b ∷ [])) → JoinLaw s replicated w inputs
    of_two s replicated w (a ∷ b ∷ []) h law = law a b refl
    of_two s replicated w [] h law = absurd (omega (arith, h))
    of_two s replicated w (a ∷ []) h law = absurd (omega (arith, h))
    of_two s replicated w (a ∷ b ∷ c ∷ inputs) h law = absurd (omega (arith, h))

    two_of : (inputs : List Keyed) → AllByRecursion (IsInput rows) (numbers inputs) → (w : ℕ → ℕ) → AllByRecursion (IsSized w) (numbers inputs) → (s : Side) (a b : Keyed) → inputs ≡ a ∷ b ∷ []
        → Law (a.input ∷ b.input ∷ []) (join_left (a ∷ b ∷ [])) (outer_of s (w a.input) (w b.input)) (outer_of s (width a.input) (width b.input))
    two_of inputs known w sized s a b is =
        let two : AllByRecursion (IsSized w) (numbers (a ∷ b ∷ [])) = subst (λ xs. AllByRecursion (IsSized w) (numbers xs)) is sized in
        outer_law s a b (subst (λ xs. AllByRecursion (IsInput rows) (numbers xs)) is known) w two.0 two.1.0

    joins_law : (s : Side) (replicated : Bool) (w : ℕ → ℕ) (inputs : List Keyed) → Sided s inputs → AllByRecursion (IsInput rows) (numbers inputs) → AllByRecursion (IsSized w) (numbers inputs) → JoinLaw s replicated w inputs
    joins_law side.Inner replicated w inputs h known sized = inner_law inputs known
    joins_law side.Left replicated w inputs h known sized = of_two side.Left replicated w inputs h (two_of inputs known w sized side.Left)
    joins_law side.Right replicated w inputs h known sized = of_two side.Right replicated w inputs h (two_of inputs known w sized side.Right)
    joins_law side.Full replicated w inputs h known sized = of_two side.Full replicated w inputs h (two_of inputs known w sized side.Full)

    pub joins_cut : (s t : Setting) (statement : ℕ) (inputs : List Keyed) (sd : Side) (replicated : Bool) → s.width ≡ width → list_all (keys_see cuts) inputs ≡ true → Sided sd inputs
        → (given : ℕ → Rows) → AllByRecursion (λ n. given n ≡ cut_all cutter (cuts n) (rows n)) (numbers inputs) → AllByRecursion (IsInput rows) (numbers inputs) → AllByRecursion (IsSized t.width) (numbers inputs)
        → operator_rows t statement (p_join (fitted inputs) sd replicated) given ≡ cut_all cutter (join_left inputs) (operator_rows s statement (p_join inputs sd replicated) rows)
    joins_cut s t statement inputs sd replicated wide see sided given are known sized =
        keyed_cut (p_join (fitted inputs) sd replicated) (p_join inputs sd replicated) s t statement wide refl refl refl (same_numbers inputs) given are known
        (keys_same inputs (p_join (fitted inputs) sd replicated) (p_join inputs sd replicated) (λ m row. refl) (λ m row. refl) 0 inputs (λ j. let e : 0 + j ≡ j = omega arith in ap (slice_get inputs) e) see known)
        (join_left inputs) (joins_law sd replicated t.width inputs sided known sized)
