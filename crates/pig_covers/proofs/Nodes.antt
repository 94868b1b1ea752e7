-- Each node of a plan that is cut by its needs has what is needed of it, and sees what it looks at.
use Rattle.std.specs.Prelude.{⊤, ◌≡◌, ◌<◌, ◌≤◌, ◌==◌, ◌&&◌, ◌||◌, ◌+◌, ◌++◌, ℕ, suc, zero, Bool, true, false, not, List, [], ◌∷◌, map, length, nat_lt, Option, Some, None, slice_get, refl, if◌then◌else◌}
use Rattle.std.specs.List.{AllByRecursion, flat_map, list_all, list_any, range_with_len}
use Rattle.std.specs.Option.{is_some, option_and_then, option_map, option_map_or}
use Rattle.std.proofs.Common.{ap, sym, ◌∙◌, subst, arith, true≢false}
use Rattle.std.proofs.lemmas.Bool.{and_from, and_parts, eq-eqb}
use Rattle.std.proofs.lemmas.List.{length-append, length-map}
use Rattle.std.proofs.lemmas.Option.{none-some, slice_get_within}
use Rattle.pig_value.proofs.list_laws.Elementwise.{range_below}
use Rattle.pig_value.proofs.list_laws.Indexing.{some_at}
use Rattle.pig_value.proofs.list_laws.Listing.{each-append, each-map, each_weaker, some_same}
use Rattle.pig_value.specs.declared.inputs.Column.{Column}
use Rattle.pig_value.specs.FieldReader.{all_of}
use Rattle.pig_value.specs.Kinds.{has_bag_or_map, kind_eq}
use Rattle.pig_value.specs.Trees.{KindTree, k_bag, k_boolean, kind_tree, kinds_of}
use Rattle.pig_typed.specs.BlockKinds.{items_kinds, row_kinds, steps_kinds}
use Rattle.pig_typed.specs.ExprKinds.{expr_kind}
use Rattle.pig_typed.specs.Typed.{Typed, TypedBlock, TypedItem}
use Rattle.pig_plan.specs.Meaning.{width_at}
use Rattle.pig_plan.specs.NodeKinds.{Before, KeyedKinds, RowKinds, is_test, key_kind, key_kinds, keyed_kinds, kinds_at, only_if}
use Rattle.pig_plan.specs.Plans.{Keyed, Plan}
use Rattle.pig_cuts.proofs.Joined.{IsWithin}
use Rattle.pig_cuts.proofs.LeftItems.{AreItems, items_are}
use Rattle.pig_cuts.proofs.Staying.{each_staying}
use Rattle.pig_cuts.specs.declared.kept.KeptField.{KeptField}
use Rattle.pig_cuts.specs.Cuts.{NodeCut, is_whole, left_of}
use Rattle.pig_cuts.specs.Fits.{leads, sees}
use Rattle.pig_cuts.specs.Plans.{all_stay, are_whole, cut_unless, fields_of_cut, group_kept, items_kept, keys_see, load_kept, spans, staying, whole_field}
use Rattle.pig_needs.specs.declared.lists.Need.{Need}
use Rattle.pig_needs.specs.declared.lists.Part.{Part}
use Rattle.pig_needs.specs.declared.lists.Part.TheVariants as part
use Rattle.pig_needs.specs.declared.lists.Use.{Use}
use Rattle.pig_needs.specs.Needed.{all_fields, bag_names, column_marks, column_of, field, is_named, is_needed, item_marks, key_names, names_in, need_of, same_need}
use Rattle.pig_covers.proofs.Bags.{bag_column, bag_of_input, bags_within, all_are_whole, group_at, in_all, whole_bag}
use Rattle.pig_covers.proofs.Blocks.{OwnLed, begins, has, item_stays, items_led, items_stay, leads_of, load_led, no_like, all_tested, tested_stays, has_range, whole_left}
use Rattle.pig_covers.proofs.Covered.{AreCovered, CoveredBy, IsBagOf, found_first, seen, whole_covers}
use Rattle.pig_covers.proofs.Naming.{any_back, any_front, either_of, first_of, need_sound, second_of}
use Rattle.pig_covers.proofs.Sides.{IsFine, wide}

-- what is needed is named at its position
pub named_of : (need : List Need) (n : Need) → is_needed n need ≡ true → is_named need n.position ≡ true
named_of [] n h = absurd (true≢false (sym h))
named_of (m ∷ need) n h =
    either_of (same_need n m) (is_needed n need) h
    (λ e. first_of (m.position == n.position) (is_named need n.position) (ap (λ x. x.position == n.position) (sym (need_sound n m e)) ∙ itself n.position))
    (λ e. second_of (m.position == n.position) (is_named need n.position) (named_of need n e))
  where
    itself : (j : ℕ) → (j == j) ≡ true
    itself j = eq-eqb j j refl

-- a condition, and a key, is typed
pub test_typed : (ks : RowKinds) (c : Typed) → is_test ks c ≡ true → (k : KindTree) × (expr_kind c ks [] ≡ Some k)
test_typed ks c h = by_found (expr_kind c ks []) h
  where
    by_found : (o : Option KindTree) → option_map_or (kind_eq k_boolean) o false ≡ true → (k : KindTree) × (o ≡ Some k)
    by_found None g = absurd (true≢false (sym g))
    by_found (Some k) g = (k, refl)

module _ (p : Plan) (C : ℕ → NodeCut) where
  abbrev W : ℕ → ℕ
  W = width_at p

  -- from a cut that is the node's
  pub fine_by : (k : ℕ) (ks : RowKinds) (o : NodeCut) → C k ≡ o → kinds_at p k ≡ Some ks
      → ((n : Need) → is_needed n (need_of p k) ≡ true → n.position < length ks → CoveredBy C W n.part (left_of o n.position))
      → (((j : ℕ) → j < length ks → is_needed (field j) (need_of p k) ≡ true) → o ≡ None)
      → ((q m : ℕ) → left_of o q ≡ Some (Some m) → IsBagOf C W ks q m) → OwnLed o → IsWithin (length ks) o → IsFine p C k ks
  fine_by k ks o e kinds covers whole likes led inside = record {
    kinds = kinds;
    covers = λ n h low. subst (λ x. CoveredBy C W n.part (left_of x n.position)) (sym e) (covers n h low);
    whole = λ h. e ∙ whole h;
    likes = λ q m h. likes q m (ap (λ x. left_of x q) (sym e) ∙ h);
    led = subst OwnLed (sym e) led;
    within = subst (IsWithin (length ks)) (sym e) inside;
  }

  -- ---- whole nodes

  none_within : (w : ℕ) → IsWithin w None
  none_within w = each-map (λ f. f.position < w) whole_field (range_with_len 0 w) (each_weaker (λ j. j < 0 + w) (λ j. j < w) (λ j h. omega (arith, h)) (range_with_len 0 w) (range_below 0 w))

  pub whole_fine : (k : ℕ) (ks : RowKinds) → C k ≡ None → kinds_at p k ≡ Some ks → IsFine p C k ks
  whole_fine k ks e kinds =
      fine_by k ks None e kinds (λ n h low. whole_covers C W n.part (left_of None n.position) refl) (λ h. refl) (λ q m h. absurd (none-some m (some_same None (Some m) h))) tt (none_within (length ks))

  -- where all of a node is named it is whole
  pub all_named : (i : ℕ) (ks : RowKinds) → IsFine p C i ks → ((n : Need) → is_needed n (all_fields (W i)) ≡ true → is_needed n (need_of p i) ≡ true) → C i ≡ None
  all_named i ks fine h = let size = wide p C i ks fine in fine.whole (λ j low. h (field j) (in_all (W i) j (omega (arith, low, size))))

  -- ---- fields that are left whole

  unless_left : (b : Bool) (ps : List ℕ) (q : ℕ) → has q ps ≡ true → left_of (cut_unless b (map whole_field ps)) q ≡ Some None
  unless_left true ps q h = refl
  unless_left false ps q h = whole_left ps q h

  unless_like : (b : Bool) (ps : List ℕ) (q m : ℕ) → left_of (cut_unless b (map whole_field ps)) q ≡ Some (Some m) → ⊥
  unless_like true ps q m h = none-some m (some_same None (Some m) h)
  unless_like false ps q m h = no_like ps q m h

  pub unless_within : (w : ℕ) (b : Bool) (kept : List KeptField) → AllByRecursion (λ f. f.position < w) kept → IsWithin w (cut_unless b kept)
  unless_within w true kept h = none_within w
  unless_within w false kept h = h

  unless_none : (b : Bool) (kept : List KeptField) → b ≡ true → cut_unless b kept ≡ None
  unless_none true kept e = refl
  unless_none false kept e = absurd (true≢false (sym e))

  pub wholes_fine : (k : ℕ) (ks : RowKinds) (b : Bool) (ps : List ℕ) → C k ≡ cut_unless b (map whole_field ps) → kinds_at p k ≡ Some ks
      → ((q : ℕ) → q < length ks → is_named (need_of p k) q ≡ true → has q ps ≡ true) → (((q : ℕ) → q < length ks → is_named (need_of p k) q ≡ true) → b ≡ true)
      → OwnLed (cut_unless b (map whole_field ps)) → AllByRecursion (λ q. q < length ks) ps → IsFine p C k ks
  wholes_fine k ks b ps e kinds stays all led inside =
      fine_by k ks (cut_unless b (map whole_field ps)) e kinds
      (λ n h low. whole_covers C W n.part (left_of (cut_unless b (map whole_field ps)) n.position) (unless_left b ps n.position (stays n.position low (named_of (need_of p k) n h))))
      (λ h. unless_none b (map whole_field ps) (all (λ q low. named_of (need_of p k) (field q) (h q low))))
      (λ q m h. absurd (unless_like b ps q m h)) led (unless_within (length ks) b (map whole_field ps) (each-map (λ f. f.position < length ks) whole_field ps inside))

  -- ---- LOAD

  pub load_fine : (k : ℕ) (columns : List Column) (marks : List Bool) → marks ≡ column_marks (need_of p k) (length columns) → C k ≡ cut_unless (all_stay marks) (load_kept marks (length columns))
      → kinds_at p k ≡ Some (map (λ c. kind_tree c.kind) columns) → IsFine p C k (map (λ c. kind_tree c.kind) columns)
  load_fine k columns marks is e kinds =
      let ks = map (λ (c : Column). kind_tree c.kind) columns in
      let n = length columns in
      let size : length ks ≡ n = length-map columns (λ c. kind_tree c.kind) in
      let numbers = range_with_len 0 n in
      wholes_fine k ks (all_stay marks) (staying marks numbers) e kinds
      (λ q low named. subst (λ ms. has q (staying ms numbers) ≡ true) (sym is) (tested_stays (need_of p k) numbers q (has_range 0 n q (omega arith) (omega (arith, low, size))) named))
      (λ named. ap all_stay is ∙ all_tested (need_of p k) 0 n (λ q low high. named q (omega (arith, high, size))))
      (load_led marks n)
      (each_staying (λ q. q < length ks) marks numbers (each_weaker (λ q. q < 0 + n) (λ q. q < length ks) (λ q h. omega (arith, h, size)) numbers (range_below 0 n)))

  -- ---- FOREACH

  spans_within : (ks locals : RowKinds) (marks : List Bool) (first : ℕ) (items : List TypedItem) (given : RowKinds) (end : ℕ) → items_kinds items ks locals ≡ Some given → first + length given ≤ end
      → AllByRecursion (λ q. q < end) (flat_map (λ span. span) (staying marks (spans first items)))
  spans_within ks locals [] first [] given end h low = tt
  spans_within ks locals (mark ∷ marks) first [] given end h low = tt
  spans_within ks locals [] first (item ∷ items) given end h low =
      let are = items_are item items ks locals given h in
      let sizes = ap length are.are ∙ length-append are.kinds are.more in
      let width = are.wide in
      each-append (λ q. q < end) (range_with_len first item.width) (flat_map (λ span. span) (spans (first + item.width) items))
      (each_weaker (λ q. q < first + item.width) (λ q. q < end) (λ q g. omega (arith, g, sizes, width, low)) (range_with_len first item.width) (range_below first item.width))
      (spans_within ks locals [] (first + item.width) items are.more end are.others (omega (arith, sizes, width, low)))
  spans_within ks locals (true ∷ marks) first (item ∷ items) given end h low =
      let are = items_are item items ks locals given h in
      let sizes = ap length are.are ∙ length-append are.kinds are.more in
      let width = are.wide in
      each-append (λ q. q < end) (range_with_len first item.width) (flat_map (λ span. span) (staying marks (spans (first + item.width) items)))
      (each_weaker (λ q. q < first + item.width) (λ q. q < end) (λ q g. omega (arith, g, sizes, width, low)) (range_with_len first item.width) (range_below first item.width))
      (spans_within ks locals marks (first + item.width) items are.more end are.others (omega (arith, sizes, width, low)))
  spans_within ks locals (false ∷ marks) first (item ∷ items) given end h low =
      let are = items_are item items ks locals given h in
      let sizes = ap length are.are ∙ length-append are.kinds are.more in
      let width = are.wide in
      spans_within ks locals marks (first + item.width) items are.more end are.others (omega (arith, sizes, width, low))

  pub foreach_fine : (k : ℕ) (block : TypedBlock) (marks : List Bool) (ks given : RowKinds) → marks ≡ item_marks (need_of p k) 0 block.items → C k ≡ cut_unless (all_stay marks) (items_kept marks block.items)
      → row_kinds block ks ≡ Some given → kinds_at p k ≡ Some given → IsFine p C k given
  foreach_fine k block marks ks given is e typed kinds =
      let one = found_first (steps_kinds block.steps ks []) (λ locals. items_kinds block.items ks locals) given typed in
      wholes_fine k given (all_stay marks) (flat_map (λ span. span) (staying marks (spans 0 block.items))) e kinds
      (λ q low named. subst (λ ms. has q (flat_map (λ span. span) (staying ms (spans 0 block.items))) ≡ true) (sym is)
      (item_stays (need_of p k) ks one.0 block.items 0 given one.2 q (omega arith) (omega (arith, low)) named))
      (λ named. ap all_stay is ∙ items_stay (need_of p k) ks one.0 block.items 0 given one.2 (λ q low high. named q (omega (arith, high))))
      (items_led marks block.items)
      (spans_within ks one.0 marks 0 block.items given (length given) one.2 (omega arith))

  -- ---- GROUP

  -- the bag of an input
  pub record IsBagIn (own : List Need) (ks : RowKinds) (j i : ℕ) : Type 0 where
    pub row : RowKinds
    pub fine : IsFine p C i row
    pub kind : slice_get ks (suc j) ≡ Some (k_bag (kinds_of row))
    pub needed : (m : Need) → is_needed m (bag_names (W i) (1 + j) own) ≡ true → is_needed m (need_of p i) ≡ true

  module _ (own : List Need) (ins : List ℕ) (ks : RowKinds) (size : length ks ≡ suc (length ins)) (bags : (j i : ℕ) → slice_get ins j ≡ Some i → IsBagIn own ks j i) where
    bag_whole : (j i : ℕ) → slice_get ins j ≡ Some i → is_needed (field (suc j)) own ≡ true → C i ≡ None
    bag_whole j i at h =
        let b = bags j i at in
        let long = wide p C i b.row b.fine in
        let same : suc j ≡ 1 + j = omega arith in
        b.fine.whole (λ q low. b.needed (field q) (whole_bag (W i) (1 + j) own (subst (λ n. is_needed (field n) own ≡ true) same h) q (omega (arith, low, long))))

    bag_covers : (asked : Part) (j i : ℕ) → slice_get ins j ≡ Some i → is_needed (record { position = suc j; part = asked }) own ≡ true → (o : NodeCut) → C i ≡ o → CoveredBy C W asked (Some (option_map (λ kept. i) o))
    bag_covers asked j i at h None e = whole_covers C W asked (Some None) refl
    bag_covers part.Whole j i at h (Some kept) e = absurd (none-some kept (sym (bag_whole j i at h) ∙ e))
    bag_covers part.Rows j i at h (Some kept) e = refl
    bag_covers (part.Column q) j i at h (Some kept) e = λ low.
        let b = bags j i at in
        let long = wide p C i b.row b.fine in
        let same : suc j ≡ 1 + j = omega arith in
        b.fine.covers (field q) (b.needed (field q) (bag_column (W i) (1 + j) q own (subst (λ n. is_needed (column_of n q) own ≡ true) same h))) (omega (arith, low, long))

    group_covers : (b : Bool) (n : Need) → is_needed n own ≡ true → (q : ℕ) → n.position ≡ q → q < length ks → CoveredBy C W n.part (left_of (cut_unless b (group_kept C ins)) q)
    group_covers true n h q e low = whole_covers C W n.part (Some None) refl
    group_covers false n h zero e low = whole_covers C W n.part (Some None) refl
    group_covers false n h (suc j) e low =
        let found = some_at ins j (omega (arith, low, size)) in
        subst (CoveredBy C W n.part) (sym (group_at C ins j ∙ ap (option_map (bag_of_input C)) found.1))
        (bag_covers n.part j found.0 found.1 (subst (λ m. is_needed (record { position = m; part = n.part }) own ≡ true) e h) (C found.0) refl)

    like_is : (i m : ℕ) (o : NodeCut) → option_map (λ kept. i) o ≡ Some m → (i ≡ m) × (is_some o ≡ true)
    like_is i m None h = absurd (none-some m h)
    like_is i m (Some kept) h = (some_same i m h, refl)

    lead_of : (i : ℕ) (row : RowKinds) → IsFine p C i row → (w : ℕ) → W i ≡ w → (0 < W i → is_whole (left_of (C i) 0) ≡ true) → leads (C i) ≡ true
    lead_of i row fine zero e h = let long = wide p C i row fine in ap leads (fine.whole (λ j low. absurd (omega (arith, low, long, e))))
    lead_of i row fine (suc w) e h = leads_of (C i) fine.led (h (omega (arith, e)))

    found_like : (q m j i : ℕ) → q ≡ suc j → slice_get ins j ≡ Some i → bag_of_input C i ≡ Some m → IsBagOf C W ks q m
    found_like q m j i e at h =
        let like = like_is i m (C i) h in
        let b = bags j i at in
        subst (IsBagOf C W ks q) like.0
        (record { rows = b.row; kind = ap (slice_get ks) e ∙ b.kind; wide = wide p C i b.row b.fine; lead = lead_of i b.row b.fine (W i) refl })

    by_input : (q m j : ℕ) → q ≡ suc j → (o : Option ℕ) → slice_get ins j ≡ o → option_map (bag_of_input C) o ≡ Some (Some m) → IsBagOf C W ks q m
    by_input q m j e None at h = absurd (none-some (Some m) h)
    by_input q m j e (Some i) at h = found_like q m j i e at (some_same (bag_of_input C i) (Some m) h)

    group_likes : (b : Bool) (q m : ℕ) → left_of (cut_unless b (group_kept C ins)) q ≡ Some (Some m) → IsBagOf C W ks q m
    group_likes true q m h = absurd (none-some m (some_same None (Some m) h))
    group_likes false zero m h = absurd (none-some m (some_same None (Some m) h))
    group_likes false (suc j) m h = by_input (suc j) m j refl (slice_get ins j) refl (sym (group_at C ins j) ∙ h)

    group_led : (b : Bool) → OwnLed (cut_unless b (group_kept C ins))
    group_led true = tt
    group_led false = begins (whole_field 0) _ refl

    pub groups_fine : (k : ℕ) → own ≡ need_of p k → C k ≡ cut_unless (are_whole C ins) (group_kept C ins) → kinds_at p k ≡ Some ks → IsFine p C k ks
    groups_fine k is e kinds =
        fine_by k ks (cut_unless (are_whole C ins) (group_kept C ins)) e kinds
        (λ n h low. group_covers (are_whole C ins) n (subst (λ o. is_needed n o ≡ true) (sym is) h) n.position refl low)
        (λ h. unless_none (are_whole C ins) (group_kept C ins) (all_are_whole C ins (λ j i at.
        let low = slice_get_within ins j i at in bag_whole j i at (subst (λ o. is_needed (field (suc j)) o ≡ true) (sym is) (h (suc j) (omega (arith, low, size)))))))
        (group_likes (are_whole C ins)) (group_led (are_whole C ins))
        (unless_within (length ks) (are_whole C ins) (group_kept C ins) (omega (arith, size), bags_within C 1 ins (length ks) (omega (arith, size))))

  -- ---- keys

  all_typed : (ks found : RowKinds) (keys : List Typed) → all_of (key_kind ks) keys ≡ Some found → AllByRecursion (λ e. (k : KindTree) × (expr_kind e ks [] ≡ Some k)) keys
  all_typed ks found [] h = tt
  all_typed ks found (e ∷ keys) h =
      let one = found_first (key_kind ks e) (λ k. option_map (λ more. k ∷ more) (all_of (key_kind ks) keys)) found h in
      let first = found_first (expr_kind e ks []) (λ k. only_if (not (has_bag_or_map k)) (Some k)) one.0 one.1 in
      ((first.0, first.1), rest (all_of (key_kind ks) keys) refl one.0 one.2 (λ more g. all_typed ks more keys g))
    where
      rest : (o : Option RowKinds) → all_of (key_kind ks) keys ≡ o → (k : KindTree) → option_map (λ more. k ∷ more) o ≡ Some found
          → ((more : RowKinds) → all_of (key_kind ks) keys ≡ Some more → AllByRecursion (λ e. (k : KindTree) × (expr_kind e ks [] ≡ Some k)) keys) → AllByRecursion (λ e. (k : KindTree) × (expr_kind e ks [] ≡ Some k)) keys
      rest None g k m later = absurd (none-some found m)
      rest (Some more) g k m later = later more g

  keys_seen : (i : ℕ) (ks : RowKinds) → IsFine p C i ks → (keys : List Typed) → AllByRecursion (λ e. (k : KindTree) × (expr_kind e ks [] ≡ Some k)) keys
      → ((n : Need) → is_needed n (key_names keys) ≡ true → is_needed n (need_of p i) ≡ true) → list_all (sees C (C i)) keys ≡ true
  keys_seen i ks fine [] typed h = refl
  keys_seen i ks fine (e ∷ keys) typed h =
      and_from (sees C (C i) e) (list_all (sees C (C i)) keys)
      (seen C W (C i) ks [] fine.likes e typed.0.0 typed.0.1 (λ n named low. fine.covers n (h n (any_front n (names_in e) (key_names keys) named)) low))
      (keys_seen i ks fine keys typed.1 (λ n named. h n (any_back n (names_in e) (key_names keys) named)))

  -- the keys of an input
  pub keyed_seen : (before : Before) (i : Keyed) (f : KeyedKinds) → keyed_kinds before i ≡ Some f → before i.input ≡ Some f.row → IsFine p C i.input f.row
      → ((n : Need) → is_needed n (key_names i.keys) ≡ true → is_needed n (need_of p i.input) ≡ true) → keys_see C i ≡ true
  keyed_seen before i f h row fine named =
      let one = found_first (before i.input) _ f h in
      let same : one.0 ≡ f.row = some_same one.0 f.row (sym one.1 ∙ row) in
      let two = found_first (key_kinds one.0 i.keys) _ f one.2 in
      let three = found_first (all_of (key_kind one.0) i.keys) (λ found. only_if (nat_lt 0 (length found)) (Some found)) two.0 two.1 in
      keys_seen i.input f.row fine i.keys (subst (λ ks. AllByRecursion (λ e. (k : KindTree) × (expr_kind e ks [] ≡ Some k)) i.keys) same (all_typed one.0 three.0 i.keys three.1)) named
