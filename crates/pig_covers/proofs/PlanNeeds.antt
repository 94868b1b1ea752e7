-- In a plan of live nodes that is cut by its needs each operator sees what it looks at.
use Rattle.std.specs.Prelude.{⊤, ◌≡◌, ◌<◌, ◌≤◌, ◌==◌, ◌&&◌, ◌||◌, ◌+◌, ◌++◌, ℕ, suc, zero, Bool, true, false, not, List, [], ◌∷◌, map, length, Option, Some, None, slice_get, refl, if◌then◌else◌}
use Rattle.std.specs.List.{AllByRecursion, filter_map, flat_map, list_all, list_any}
use Rattle.std.specs.Option.{is_some, option_and_then, option_map}
use Rattle.std.proofs.Common.{ap, sym, ◌∙◌, subst, arith, true≢false}
use Rattle.std.proofs.lemmas.Bool.{and_from, and_parts, eqb-true}
use Rattle.std.proofs.lemmas.List.{length-map}
use Rattle.std.proofs.lemmas.Option.{none-some, slice_get_within}
use Rattle.pig_value.proofs.list_laws.Indexing.{get_map, some_at}
use Rattle.pig_value.proofs.list_laws.Listing.{each_at, some_same}
use Rattle.pig_value.specs.declared.inputs.Column.{Column}
use Rattle.pig_value.specs.declared.operators.Side.{Side}
use Rattle.pig_value.specs.FieldReader.{all_of}
use Rattle.pig_value.specs.Trees.{k_bag, k_chars, kind_tree, kinds_of}
use Rattle.pig_typed.specs.BlockKinds.{row_kinds}
use Rattle.pig_typed.specs.Typed.{Typed, TypedBlock}
use Rattle.pig_plan.proofs.Lower.{inputs_found, names_lower}
use Rattle.pig_plan.proofs.Meanings.{each_both}
use Rattle.pig_plan.specs.Meaning.{width_at}
use Rattle.pig_plan.specs.NodeKinds.{KeyedKinds, RowKinds, all_keyed, ascend, group_kinds, is_join, is_test, keyed_bags, keyed_kinds, keys_agree, kinds_at, node_gives, only_if}
use Rattle.pig_plan.specs.Nodes.{inputs_of, is_live}
use Rattle.pig_plan.specs.Plans.{Keyed, Plan, PlanNode, PlanOp, p_load, p_filter, p_foreach, p_group_all, p_group, p_join, p_union, p_distinct, p_order, p_limit, p_store, p_assert, p_rank}
use Rattle.pig_plan.specs.Valid.{IsPlan}
use Rattle.pig_cuts.proofs.PlanKinds.{gives}
use Rattle.pig_cuts.specs.Cuts.{NodeCut, cut_at}
use Rattle.pig_cuts.specs.Fits.{sees}
use Rattle.pig_cuts.specs.Plans.{are_whole, cut_unless, flattens_stay, items_see, keys_see, may_fit, own_cut, sides_kept, steps_see}
use Rattle.pig_needs.specs.declared.lists.Need.{Need}
use Rattle.pig_needs.specs.declared.lists.Use.{Use}
use Rattle.pig_needs.specs.Needed.{all_fields, bag_names, block_names, field, group_uses, is_needed, item_marks, join_uses, key_names, names_in, need_of, uses_of, whole_use, within}
use Rattle.pig_covers.specs.Laws.{AreByNeeds, NeedsAreSeen, needed_marks}
use Rattle.pig_covers.proofs.Bags.{IsAt, agreed, bags_found, found_at, found_size, group_use, use_itself}
use Rattle.pig_covers.proofs.Blocks.{OwnLed, block_seen}
use Rattle.pig_covers.proofs.Covered.{CoveredBy, IsBagOf, found_first, seen, whole_covers}
use Rattle.pig_covers.proofs.Naming.{any_back, any_front, are_uses, either_of, first_of, is_use, second_of, use_needed}
use Rattle.pig_covers.proofs.Nodes.{IsBagIn, all_named, fine_by, foreach_fine, groups_fine, keyed_seen, load_fine, test_typed, unless_within, whole_fine}
use Rattle.pig_covers.proofs.Sides.{AllFine, AreNeeded, IsFine, all_rows, all_sides, covers_sides, likes_sides, sides_led, within_sides}

all_places : {X : Type 0} (test : X → Bool) (xs : List X) → ((j : ℕ) (x : X) → slice_get xs j ≡ Some x → test x ≡ true) → list_all test xs ≡ true
all_places test [] h = refl
all_places test (x ∷ xs) h = and_from (test x) (list_all test xs) (h 0 x refl) (all_places test xs (λ j y e. h (suc j) y e))

some_of : {A : Type 0} (o : Option A) → is_some o ≡ true → (a : A) × (o ≡ Some a)
some_of None h = absurd (true≢false (sym h))
some_of (Some a) h = (a, refl)

-- ---- uses

one_use : (i : ℕ) (m : Need) (named : List Need) → is_needed m named ≡ true → are_uses i m (record { input = i; named = named } ∷ []) ≡ true
one_use i m named h = first_of (is_use i m (record { input = i; named = named })) false (use_itself i m named h)

whole_uses : (W : ℕ → ℕ) (ns : List ℕ) (j i : ℕ) (m : Need) → slice_get ns j ≡ Some i → is_needed m (all_fields (W i)) ≡ true → are_uses i m (map (whole_use W) ns) ≡ true
whole_uses W [] j i m at h = absurd (none-some i at)
whole_uses W (n ∷ ns) zero i m at h =
    let same : n ≡ i = some_same n i at in
    first_of _ (are_uses i m (map (whole_use W) ns)) (subst (λ x. is_use i m (whole_use W x) ≡ true) (sym same) (use_itself i m (all_fields (W i)) h))
whole_uses W (n ∷ ns) (suc j) i m at h = second_of (is_use i m (whole_use W n)) _ (whole_uses W ns j i m at h)

join_keys : (W : ℕ → ℕ) (own : List Need) (first : ℕ) (inputs : List Keyed) (j : ℕ) (i : Keyed) (m : Need) → slice_get inputs j ≡ Some i → is_needed m (key_names i.keys) ≡ true → are_uses i.input m (join_uses W own first inputs) ≡ true
join_keys W own first [] j i m at h = absurd (none-some i at)
join_keys W own first (x ∷ inputs) zero i m at h =
    let same : x ≡ i = some_same x i at in
    first_of _ (are_uses i.input m (join_uses W own (first + W x.input) inputs))
    (subst (λ y. is_use i.input m (record { input = y.input; named = key_names y.keys ++ filter_map (within first (W y.input)) own }) ≡ true) (sym same)
    (use_itself i.input m (key_names i.keys ++ filter_map (within first (W i.input)) own) (any_front m (key_names i.keys) (filter_map (within first (W i.input)) own) h)))
join_keys W own first (x ∷ inputs) (suc j) i m at h =
    second_of (is_use i.input m (record { input = x.input; named = key_names x.keys ++ filter_map (within first (W x.input)) own })) _ (join_keys W own (first + W x.input) inputs j i m at h)

join_low : (k : ℕ) (W : ℕ → ℕ) (own : List Need) (first : ℕ) (inputs : List Keyed) → AllByRecursion (λ i. i < k) (map (λ i. i.input) inputs) → (x : ℕ) (m : Need) → are_uses x m (join_uses W own first inputs) ≡ true → x < k
join_low k W own first [] low x m h = absurd (true≢false (sym h))
join_low k W own first (i ∷ inputs) low x m h =
    either_of (is_use x m (record { input = i.input; named = key_names i.keys ++ filter_map (within first (W i.input)) own })) _ h
    (λ e. let same = eqb-true i.input x (and_parts (i.input == x) _ e).0 in let less = low.0 in omega (arith, same, less))
    (λ e. join_low k W own (first + W i.input) inputs low.1 x m e)

-- ---- nodes

module _ (p : Plan) (valid : IsPlan p) (alive : (k : ℕ) → k < length p → is_live p k ≡ true) (marks : ℕ → List Bool) (cuts : List NodeCut) (by : AreByNeeds p marks cuts) where
  abbrev C : ℕ → NodeCut
  C = cut_at cuts

  abbrev W : ℕ → ℕ
  W = width_at p

  abbrev Fine : ℕ → Type 0
  Fine k = (ks : RowKinds) → kinds_at p k ≡ Some ks → IsFine p C k ks

  record IsFineInput (k i : ℕ) : Type 0 where
    low : i < k
    ks : RowKinds
    kinds : kinds_at p i ≡ Some ks
    fine : Fine i

  -- what the node names of lower ones is needed of them
  abbrev Names : ℕ → PlanOp → Type 0
  Names k o = (x : ℕ) (m : Need) → x < k → are_uses x m (uses_of W (need_of p k) o) ≡ true → is_needed m (need_of p x) ≡ true

  record IsSeen (k : ℕ) (o : PlanOp) : Type 0 where
    may : may_fit C (marks k) o ≡ true
    fine : Fine k

  from_given : (k : ℕ) (made : RowKinds) → kinds_at p k ≡ Some made → IsFine p C k made → Fine k
  from_given k made e fine ks h = subst (IsFine p C k) (some_same made ks (sym e ∙ h)) fine

  module _ (k : ℕ) where
    abbrev own : List Need
    own = need_of p k

    abbrev Inputs : PlanOp → Type 0
    Inputs o = AllByRecursion (IsFineInput k) (inputs_of o)

    abbrev Goal : PlanOp → Type 0
    Goal o = marks k ≡ needed_marks own o → C k ≡ own_cut C W (marks k) o → (given : Option RowKinds) → node_gives (kinds_at p) o ≡ Some given → kinds_at p k ≡ given → Inputs o → Names k o → IsSeen k o

    load_seen : (path : List ℕ) (delim : ℕ) (columns : List Column) → Goal (p_load path delim columns)
    load_seen path delim columns marked cut given e kinds ins names = record { may = refl; fine = from_given k ks is (load_fine p C k columns (marks k) marked cut is) }
      where
        ks : RowKinds
        ks = map (λ c. kind_tree c.kind) columns

        by_test : (b : Bool) → only_if b (Some (Some ks)) ≡ Some given → Some ks ≡ given
        by_test true h = some_same (Some ks) given h
        by_test false h = absurd (none-some given h)

        is : kinds_at p k ≡ Some ks
        is = kinds ∙ sym (by_test (ascend columns) e)

    -- FILTER and ASSERT
    tested : (i : ℕ) (c : Typed) (o : PlanOp) → C k ≡ C i → (given : Option RowKinds) → option_and_then (λ row. only_if (is_test row c) (Some (Some row))) (kinds_at p i) ≡ Some given → kinds_at p k ≡ given
        → IsFineInput k i → ((m : Need) → is_needed m (own ++ names_in c) ≡ true → is_needed m (need_of p i) ≡ true) → (sees C (C i) c ≡ true) × Fine k
    tested i c o cut given e kinds input names =
        let one = found_first (kinds_at p i) (λ row. only_if (is_test row c) (Some (Some row))) given e in
        by_test one.0 one.1 (is_test one.0 c) refl one.2
      where
        by_test : (row : RowKinds) → kinds_at p i ≡ Some row → (b : Bool) → is_test row c ≡ b → only_if b (Some (Some row)) ≡ Some given → (sees C (C i) c ≡ true) × Fine k
        by_test row at false t h = absurd (none-some given h)
        by_test row at true t h =
            let fine : IsFine p C i row = input.fine row at in
            let typed = test_typed row c t in (
              seen C W (C i) row [] fine.likes c typed.0 typed.1 (λ n named low. fine.covers n (names n (any_back n own (names_in c) named)) low),
              from_given k row (kinds ∙ sym (some_same (Some row) given h))
                  (fine_by p C k row (C i) cut (kinds ∙ sym (some_same (Some row) given h))
                  (λ n named low. fine.covers n (names n (any_front n own (names_in c) named)) low)
                  (λ all. fine.whole (λ j low. names (field j) (any_front (field j) own (names_in c) (all j low)))) fine.likes fine.led fine.within),
            )

    foreach_seen : (i : ℕ) (block : TypedBlock) → Goal (p_foreach i block)
    foreach_seen i block marked cut given e kinds ins names =
        let one = found_first (kinds_at p i) (λ row. option_and_then (λ made. Some (Some made)) (row_kinds block row)) given e in
        let two = found_first (row_kinds block one.0) (λ made. Some (Some made)) given one.2 in
        let fine : IsFine p C i one.0 = ins.0.fine one.0 one.1 in
        let is : kinds_at p k ≡ Some two.0 = kinds ∙ sym (some_same (Some two.0) given two.2) in
        record {
          may = subst (λ ms. (steps_see C (C i) block && (items_see C (C i) ms block && flattens_stay ms block)) ≡ true) (sym marked)
              (block_seen C W (C i) one.0 fine.likes own block two.0 two.1 (λ n named low. fine.covers n (names i n ins.0.low (one_use i n (block_names own block) named)) low));
          fine = from_given k two.0 is (foreach_fine p C k block (marks k) one.0 two.0 marked cut two.1 is);
        }

    group_all_seen : (i : ℕ) → Goal (p_group_all i)
    group_all_seen i marked cut given e kinds ins names =
        let one = found_first (kinds_at p i) (λ row. Some (Some (k_chars ∷ k_bag (kinds_of row) ∷ []))) given e in
        let made : RowKinds = k_chars ∷ k_bag (kinds_of one.0) ∷ [] in
        let is : kinds_at p k ≡ Some made = kinds ∙ sym (some_same (Some made) given one.2) in
        record { may = refl; fine = from_given k made is (groups_fine p C own (i ∷ []) made refl (λ j n at. bag j n at one.0 one.1) k refl cut is) }
      where
        bag : (j n : ℕ) → slice_get (i ∷ []) j ≡ Some n → (row : RowKinds) → kinds_at p i ≡ Some row → IsBagIn p C own (k_chars ∷ k_bag (kinds_of row) ∷ []) j n
        bag zero n at row there = subst (IsBagIn p C own (k_chars ∷ k_bag (kinds_of row) ∷ []) 0) (some_same i n at)
            (record { row = row; fine = ins.0.fine row there; kind = refl; needed = λ m h. names i m ins.0.low (one_use i m (bag_names (W i) 1 own) h) })
        bag (suc j) n at row there = absurd (none-some n at)

    -- ---- by key

    abbrev numbers : List Keyed → List ℕ
    numbers inputs = map (λ i. i.input) inputs

    input_at : (inputs : List Keyed) → AllByRecursion (IsFineInput k) (numbers inputs) → (j : ℕ) (i : Keyed) → slice_get inputs j ≡ Some i → IsFineInput k i.input
    input_at inputs ins j i at = each_at (IsFineInput k) (numbers inputs) j i.input (get_map (λ x. x.input) inputs j ∙ ap (option_map (λ x. x.input)) at) ins

    -- the inputs' keys
    keys_at : (inputs : List Keyed) (fs : List KeyedKinds) → all_of (keyed_kinds (kinds_at p)) inputs ≡ Some fs → AllByRecursion (IsFineInput k) (numbers inputs)
        → ((j : ℕ) (i : Keyed) (m : Need) → slice_get inputs j ≡ Some i → i.input < k → is_needed m (key_names i.keys) ≡ true → is_needed m (need_of p i.input) ≡ true) → list_all (keys_see C) inputs ≡ true
    keys_at inputs fs all ins names =
        all_places (keys_see C) inputs (λ j i at.
        let found : IsAt (kinds_at p) inputs fs j i = found_at (kinds_at p) inputs fs all j i at in
        let input = input_at inputs ins j i at in
        keyed_seen p C (kinds_at p) i found.found found.is found.row (input.fine found.found.row found.row) (λ n h. names j i n at input.low h))

    group_size : (fs : List KeyedKinds) → keys_agree fs ≡ true → length (group_kinds fs) ≡ suc (length fs)
    group_size [] h = absurd (true≢false (sym h))
    group_size (f ∷ fs) h = ap (λ n. suc (suc n)) (length-map fs (λ x. k_bag (kinds_of x.row)))

    bag_kind : (fs : List KeyedKinds) (j : ℕ) (f : KeyedKinds) → slice_get fs j ≡ Some f → slice_get (group_kinds fs) (suc j) ≡ Some (k_bag (kinds_of f.row))
    bag_kind [] j f h = absurd (none-some f h)
    bag_kind (g ∷ fs) j f h = bags_found (g ∷ fs) j f h

    agree_of : (inputs : List Keyed) (fs : List KeyedKinds) → all_keyed (kinds_at p) inputs ≡ Some fs → keys_agree fs ≡ true
    agree_of inputs fs h =
        let one = found_first (all_of (keyed_kinds (kinds_at p)) inputs) (λ found. only_if (keys_agree found) (Some found)) fs h in
        by_test one.0 (keys_agree one.0) refl one.2
      where
        by_test : (xs : List KeyedKinds) (b : Bool) → keys_agree xs ≡ b → only_if b (Some xs) ≡ Some fs → keys_agree fs ≡ true
        by_test xs true t g = ap keys_agree (sym (some_same xs fs g)) ∙ t
        by_test xs false t g = absurd (none-some fs g)

    group_seen : (inputs : List Keyed) → Goal (p_group inputs)
    group_seen inputs marked cut given e kinds ins names =
        let one = found_first (all_keyed (kinds_at p) inputs) (λ found. Some (Some (group_kinds found))) given e in
        let all = agreed (kinds_at p) inputs one.0 one.1 in
        let is : kinds_at p k ≡ Some (group_kinds one.0) = kinds ∙ sym (some_same (Some (group_kinds one.0)) given one.2) in
        record {
          may = keys_at inputs one.0 all ins (λ j i m at low h. names i.input m low (group_use W own 1 inputs j i m at (any_front m (key_names i.keys) (bag_names (W i.input) (1 + j) own) h)));
          fine = from_given k (group_kinds one.0) is
              (groups_fine p C own (numbers inputs) (group_kinds one.0)
              (group_size one.0 (agree_of inputs one.0 one.1) ∙ ap suc (found_size (kinds_at p) inputs one.0 all ∙ sym (length-map inputs (λ i. i.input)))) (λ j n at. bag one.0 all j n at (slice_get inputs j) refl) k refl cut is);
        }
      where
        bag : (fs : List KeyedKinds) → all_of (keyed_kinds (kinds_at p)) inputs ≡ Some fs → (j n : ℕ) → slice_get (numbers inputs) j ≡ Some n → (o : Option Keyed) → slice_get inputs j ≡ o → IsBagIn p C own (group_kinds fs) j n
        bag fs all j n at None h = absurd (none-some n (sym (get_map (λ x. x.input) inputs j ∙ ap (option_map (λ x. x.input)) h) ∙ at))
        bag fs all j n at (Some i) h =
            let same : i.input ≡ n = some_same i.input n (sym (get_map (λ x. x.input) inputs j ∙ ap (option_map (λ x. x.input)) h) ∙ at) in
            let found : IsAt (kinds_at p) inputs fs j i = found_at (kinds_at p) inputs fs all j i h in
            let input = input_at inputs ins j i h in
            subst (IsBagIn p C own (group_kinds fs) j) same (record {
              row = found.found.row;
              fine = input.fine found.found.row found.row;
              kind = bag_kind fs j found.found found.stands;
              needed = λ m g. names i.input m input.low (group_use W own 1 inputs j i m h (any_back m (key_names i.keys) (bag_names (W i.input) (1 + j) own) g));
            })

    all_fine : (inputs : List Keyed) (fs : List KeyedKinds) → all_of (keyed_kinds (kinds_at p)) inputs ≡ Some fs → AllByRecursion (IsFineInput k) (numbers inputs) → AllFine p C own inputs fs
    all_fine [] fs h ins = subst (AllFine p C own []) (some_same [] fs h) tt
    all_fine (i ∷ inputs) fs h ins =
        let one = found_first (keyed_kinds (kinds_at p) i) (λ f. option_map (λ more. f ∷ more) (all_of (keyed_kinds (kinds_at p)) inputs)) fs h in
        by_more (all_of (keyed_kinds (kinds_at p)) inputs) refl one.0 one.1 one.2 (λ more g. all_fine inputs more g ins.1)
      where
        by_more : (o : Option (List KeyedKinds)) → all_of (keyed_kinds (kinds_at p)) inputs ≡ o → (f : KeyedKinds) → keyed_kinds (kinds_at p) i ≡ Some f → option_map (λ more. f ∷ more) o ≡ Some fs
            → ((more : List KeyedKinds) → all_of (keyed_kinds (kinds_at p)) inputs ≡ Some more → AllFine p C own inputs more) → AllFine p C own (i ∷ inputs) fs
        by_more None g f at m rest = absurd (none-some fs m)
        by_more (Some more) g f at m rest =
            let found : IsAt (kinds_at p) (i ∷ inputs) (f ∷ more) 0 i = found_at (kinds_at p) (i ∷ inputs) (f ∷ more) (h ∙ sym m) 0 i refl in
            let same : found.found ≡ f = some_same found.found f (sym found.stands) in
            subst (AllFine p C own (i ∷ inputs)) (some_same (f ∷ more) fs m) (ins.0.fine f.row (found.row ∙ ap (λ x. Some x.row) same), rest more g)

    join_seen : (inputs : List Keyed) (s : Side) (replicated : Bool) → Goal (p_join inputs s replicated)
    join_seen inputs s replicated marked cut given e kinds ins names =
        let one = found_first (all_keyed (kinds_at p) inputs) (λ found. only_if (is_join s replicated (length found) && list_all (λ input. not input.inner) inputs) (Some (Some (all_rows p C own found)))) given e in
        let all = agreed (kinds_at p) inputs one.0 one.1 in
        let fine = all_fine inputs one.0 all ins in
        let is : kinds_at p k ≡ Some (all_rows p C own one.0) = kinds ∙ sym (by_test one.0 (is_join s replicated (length one.0) && list_all (λ input. not input.inner) inputs) one.2) in
        record {
          may = keys_at inputs one.0 all ins (λ j i m at low h. names i.input m low (join_keys W own 0 inputs j i m at h));
          fine = from_given k (all_rows p C own one.0) is (sides one.0 fine (are_whole C (numbers inputs)) refl is);
        }
      where
        by_test : (fs : List KeyedKinds) (b : Bool) → only_if b (Some (Some (all_rows p C own fs))) ≡ Some given → Some (all_rows p C own fs) ≡ given
        by_test fs true h = some_same (Some (all_rows p C own fs)) given h
        by_test fs false h = absurd (none-some given h)

        lower : (ns : List ℕ) → AllByRecursion (IsFineInput k) ns → AllByRecursion (λ i. i < k) ns
        lower [] h = tt
        lower (n ∷ ns) h = (h.0.low, lower ns h.1)

        needed : AreNeeded p C own 0 inputs
        needed x m h = names x m (join_low k W own 0 inputs (lower (numbers inputs) ins) x m h) h

        sides : (fs : List KeyedKinds) → AllFine p C own inputs fs → (b : Bool) → are_whole C (numbers inputs) ≡ b → kinds_at p k ≡ Some (all_rows p C own fs) → IsFine p C k (all_rows p C own fs)
        sides fs fine true t is = whole_fine p C k (all_rows p C own fs) (cut ∙ ap (λ b. cut_unless b (sides_kept C W 0 (numbers inputs))) t) is
        sides fs fine false t is =
            fine_by p C k (all_rows p C own fs) (Some (sides_kept C W 0 (numbers inputs))) (cut ∙ ap (λ b. cut_unless b (sides_kept C W 0 (numbers inputs))) t) is
            (λ n h low. covers_sides p C own 0 inputs fs fine needed n h (omega arith) (omega (arith, low)))
            (λ h. absurd (true≢false (sym (all_sides p C own 0 inputs fs fine needed (λ j low high. h j (omega (arith, high)))) ∙ t)))
            (λ q m h. likes_sides p C own (all_rows p C own fs) 0 inputs fs fine (λ j kind g. let same : 0 + j ≡ j = omega arith in ap (slice_get (all_rows p C own fs)) same ∙ g) q m (omega arith) h)
            (sides_led p C own 0 inputs fs refl fine)
            (within_sides p C own (length (all_rows p C own fs)) 0 inputs fs fine (omega arith))

    -- ---- whole inputs

    whole_input : (i : ℕ) → IsFineInput k i → ((m : Need) → is_needed m (all_fields (W i)) ≡ true → is_needed m (need_of p i) ≡ true) → C i ≡ None
    whole_input i input h = all_named p C i input.ks (input.fine input.ks input.kinds) h

    are_all_whole : (ns all : List ℕ) → AllByRecursion (IsFineInput k) ns → ((i : ℕ) (m : Need) → i < k → (j : ℕ) → slice_get ns j ≡ Some i → is_needed m (all_fields (W i)) ≡ true → is_needed m (need_of p i) ≡ true) → are_whole C ns ≡ true
    are_all_whole [] all ins h = refl
    are_all_whole (i ∷ ns) all ins h =
        and_from (not (is_some (C i))) (are_whole C ns) (ap (λ o. not (is_some o)) (whole_input i ins.0 (λ m g. h i m ins.0.low 0 refl g)))
        (are_all_whole ns all ins.1 (λ x m low j at g. h x m low (suc j) at g))

    wholes : (o : PlanOp) → (are_whole C (inputs_of o) ≡ true → may_fit C (marks k) o ≡ true) → C k ≡ None → Inputs o
        → ((i : ℕ) (m : Need) → i < k → (j : ℕ) → slice_get (inputs_of o) j ≡ Some i → is_needed m (all_fields (W i)) ≡ true → is_needed m (need_of p i) ≡ true) → IsSeen k o
    wholes o may none ins names = record { may = may (are_all_whole (inputs_of o) [] ins names); fine = λ ks e. whole_fine p C k ks none e }

    one_whole : (n : ℕ) (o : PlanOp) → Names k o → uses_of W own o ≡ whole_use W n ∷ [] → (i : ℕ) (m : Need) → i < k → (j : ℕ) → slice_get (n ∷ []) j ≡ Some i → is_needed m (all_fields (W i)) ≡ true → is_needed m (need_of p i) ≡ true
    one_whole n o names is i m low j at h = names i m low (ap (are_uses i m) is ∙ whole_uses W (n ∷ []) j i m at h)

    op_seen : (o : PlanOp) → Goal o
    op_seen (p_load path delim columns) marked cut given e kinds ins names = load_seen path delim columns marked cut given e kinds ins names
    op_seen (p_filter i c) marked cut given e kinds ins names =
        let both = tested i c (p_filter i c) cut given e kinds ins.0 (λ m h. names i m ins.0.low (one_use i m (own ++ names_in c) h)) in record { may = both.0; fine = both.1 }
    op_seen (p_foreach i block) marked cut given e kinds ins names = foreach_seen i block marked cut given e kinds ins names
    op_seen (p_group_all i) marked cut given e kinds ins names = group_all_seen i marked cut given e kinds ins names
    op_seen (p_group inputs) marked cut given e kinds ins names = group_seen inputs marked cut given e kinds ins names
    op_seen (p_join inputs s replicated) marked cut given e kinds ins names = join_seen inputs s replicated marked cut given e kinds ins names
    op_seen (p_union ns) marked cut given e kinds ins names = wholes (p_union ns) (λ h. h) cut ins (λ i m low j at h. names i m low (whole_uses W ns j i m at h))
    op_seen (p_distinct i) marked cut given e kinds ins names = wholes (p_distinct i) (λ h. h) cut ins (one_whole i (p_distinct i) names refl)
    op_seen (p_order i keys) marked cut given e kinds ins names = wholes (p_order i keys) (λ h. h) cut ins (one_whole i (p_order i keys) names refl)
    op_seen (p_limit i count) marked cut given e kinds ins names = wholes (p_limit i count) (λ h. h) cut ins (one_whole i (p_limit i count) names refl)
    op_seen (p_store i path delim) marked cut given e kinds ins names = wholes (p_store i path delim) (λ h. h) cut ins (one_whole i (p_store i path delim) names refl)
    op_seen (p_assert i c message) marked cut given e kinds ins names =
        let both = tested i c (p_assert i c message) cut given e kinds ins.0 (λ m h. names i m ins.0.low (one_use i m (own ++ names_in c) h)) in record { may = both.0; fine = both.1 }
    op_seen (p_rank i keys dense) marked cut given e kinds ins names = wholes (p_rank i keys dense) (λ h. h) cut ins (one_whole i (p_rank i keys dense) names refl)

  -- ---- all nodes

  node_seen : (k : ℕ) (v : PlanNode) → slice_get p k ≡ Some v → ((i : ℕ) → i < k → Fine i) → IsSeen k v.op
  node_seen k v stands lower =
      let given = gives p valid k v stands in
      let within : k < length p = slice_get_within p k v stands in
      op_seen k v.op (by.marked k v stands) (by.own k v stands) given.given given.is given.kinds
      (each_both (λ i. i < k) (λ i. is_some (kinds_at p i) ≡ true) (IsFineInput k) (λ i low there. let found = some_of (kinds_at p i) there in record { low = low; ks = found.0; kinds = found.1; fine = lower i low }) (inputs_of v.op)
      (names_lower p valid k v stands) (inputs_found (kinds_at p) v.op given.given given.is))
      (λ x m low h. use_needed p x k v m low stands (alive k within) h)

  -- a node with kinds stands in the plan
  fine_up_to : (fuel k : ℕ) → k < fuel → k < length p → Fine k
  fine_up_to zero k low within = absurd (omega (arith, low))
  fine_up_to (suc fuel) k low within =
      let found = some_at p k within in
      (node_seen k found.0 found.1 (λ i less. fine_up_to fuel i (omega (arith, less, low)) (omega (arith, less, within)))).fine

  pub all_seen : (k : ℕ) (v : PlanNode) → slice_get p k ≡ Some v → may_fit C (marks k) v.op ≡ true
  all_seen k v stands =
      let within : k < length p = slice_get_within p k v stands in
      (node_seen k v stands (λ i less. fine_up_to (suc i) i (omega arith) (omega (arith, less, within)))).may

pub needs_are_seen : NeedsAreSeen
needs_are_seen p valid alive marks cuts by k v stands = all_seen p valid alive marks cuts by k v stands
