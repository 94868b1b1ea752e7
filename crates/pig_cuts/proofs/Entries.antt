-- Entries of cut rows are the entries of the rows, cut; and what is made of each key and its bags, of cut bags.
use Rattle.std.specs.Prelude.{⊤, ◌≡◌, ◌==◌, ◌+◌, ℕ, suc, Bool, true, false, not, ◌&&◌, List, [], ◌∷◌, ◌++◌, map, Some, None, slice_get, refl, if◌then◌else◌}
use Rattle.std.specs.List.{AllByRecursion, filter, flat_map}
use Rattle.std.specs.List.Sorted.{IsPermutation}
use Rattle.std.specs.Option.{is_some, option_map_or}
use Rattle.std.specs.Ordering.{is_eq, is_gt}
use Rattle.std.proofs.Common.{ap, sym, ◌∙◌, subst, arith, cond, true≢false, zero}
use Rattle.std.proofs.lemmas.Bool.{and_parts, eqb-true}
use Rattle.std.proofs.lemmas.List.{map-append}
use Rattle.std.proofs.lemmas.List.Sorted.{IsPermutation-append, IsPermutation-refl}
use Rattle.pig_value.proofs.OrderLaws.{row_same, row_total}
use Rattle.pig_value.proofs.list_laws.Bags.{bag_from_permutation, bag_once, each-sort}
use Rattle.pig_value.proofs.list_laws.Listing.{each-filter, each-map, each_filtered, each_of_all, each_weaker, filter-map, map-flat_map, map_each}
use Rattle.pig_value.specs.Gathering.{Entry, with_key}
use Rattle.pig_value.specs.Orders.{bag_of, row_cmp, tree_cmp}
use Rattle.pig_value.specs.Sorts.{distinct, put}
use Rattle.pig_value.specs.Trees.{Tree}
use Rattle.pig_plan.specs.ByKey.{all_there, alone, gathered, is_empty, rows_of}
use Rattle.pig_plan.specs.Entries.{entries_of, from_inputs, key_at}
use Rattle.pig_plan.specs.Plans.{PlanOp}
use Rattle.pig_cuts.specs.Cuts.{NodeCut, cut_row}
use Rattle.pig_cuts.specs.Plans.{are_whole}
use Rattle.pig_cuts.proofs.Fields.{Rows, bag_under, maps_in_turn}
use Rattle.pig_cuts.proofs.Rowwise.{map_itself}

pub flat_permuted : {X Y : Type 0} (f g : X → List Y) (xs : List X) → AllByRecursion (λ x. IsPermutation (f x) (g x)) xs → IsPermutation (flat_map f xs) (flat_map g xs)
flat_permuted f g [] h = IsPermutation-refl []
flat_permuted f g (x ∷ xs) h = IsPermutation-append (f x) (g x) (flat_map f xs) (flat_map g xs) h.0 (flat_permuted f g xs h.1)

-- ---- no row, or some

put_some : (x : List Tree) (ys : Rows) → is_empty (put row_cmp x ys) ≡ false
put_some x [] = refl
put_some x (y ∷ ys) = by_test (is_gt (row_cmp x y))
  where
    by_test : (b : Bool) → is_empty (if b then y ∷ put row_cmp x ys else x ∷ y ∷ ys) ≡ false
    by_test true = refl
    by_test false = refl

pub cut_empty : (f : List Tree → List Tree) (rows : Rows) → is_empty (bag_of (map f rows)) ≡ is_empty rows
cut_empty f [] = refl
cut_empty f (row ∷ rows) = put_some (f row) (bag_of (map f rows))

module _ (cutter : ℕ → List Tree → List Tree) (cuts : ℕ → NodeCut) (ins : List ℕ) where
  -- the cut of the input at a place
  abbrev pub owns : ℕ → NodeCut
  owns j = option_map_or cuts (slice_get ins j) None

  -- inputs from a place on
  abbrev pub Placed : ℕ → List ℕ → Type 0
  Placed m [] = ⊤
  Placed m (i ∷ more) = (slice_get ins m ≡ Some i) × Placed (m + 1) more

  placed_from : (m : ℕ) (more : List ℕ) → ((j : ℕ) → slice_get ins (m + j) ≡ slice_get more j) → Placed m more
  placed_from m [] h = tt
  placed_from m (i ∷ more) h =
      let here : m ≡ m + 0 = omega arith in
      (ap (slice_get ins) here ∙ h 0, placed_from (m + 1) more (λ j. let next : m + 1 + j ≡ m + suc j = omega arith in ap (slice_get ins) next ∙ h (suc j)))

  pub all_placed : Placed 0 ins
  all_placed = placed_from 0 ins (λ j. let e : 0 + j ≡ j = omega arith in ap (slice_get ins) e)

  pub owned : (m i : ℕ) → slice_get ins m ≡ Some i → owns m ≡ cuts i
  owned m i h = ap (λ o. option_map_or cuts o None) h

  none_is : (o : NodeCut) → not (is_some o) ≡ true → o ≡ None
  none_is None h = refl
  none_is (Some kept) h = absurd (true≢false (sym h))

  pub whole_at : (more : List ℕ) (j : ℕ) → are_whole cuts more ≡ true → option_map_or cuts (slice_get more j) None ≡ None
  whole_at [] j h = refl
  whole_at (i ∷ more) zero h = none_is (cuts i) (and_parts (not (is_some (cuts i))) (are_whole cuts more) h).0
  whole_at (i ∷ more) (suc j) h = whole_at more j (and_parts (not (is_some (cuts i))) (are_whole cuts more) h).1

  -- ---- bags

  -- the bags of the inputs, cut
  abbrev pub cut_bags : (ℕ → Rows) → ℕ → Rows
  cut_bags bags j = bag_of (map (cut_row cutter (owns j)) (bags j))

  abbrev pub AreBags : (ℕ → Rows) → Type 0
  AreBags bags = (j : ℕ) → bag_of (bags j) ≡ bags j

  pub alone_bags : (i : ℕ) (bags : ℕ → Rows) → AreBags bags → AreBags (alone i bags)
  alone_bags i bags h j = by_test (j == i)
    where
      by_test : (b : Bool) → bag_of (if b then bags j else []) ≡ (if b then bags j else [])
      by_test true = h j
      by_test false = refl

  pub whole_bags : are_whole cuts ins ≡ true → (bags : ℕ → Rows) → AreBags bags → cut_bags bags ≡ bags
  whole_bags h bags are = λ i j. (ap (λ own. bag_of (map (cut_row cutter own) (bags j))) (whole_at ins j h) ∙ ap bag_of (map_itself (bags j)) ∙ are j) i

  pub alone_cut : (i : ℕ) (bags : ℕ → Rows) → alone i (cut_bags bags) ≡ cut_bags (alone i bags)
  alone_cut i bags = λ d j. by_test j (j == i) d
    where
      by_test : (j : ℕ) (b : Bool) → (if b then cut_bags bags j else []) ≡ bag_of (map (cut_row cutter (owns j)) (if b then bags j else []))
      by_test j true = refl
      by_test j false = refl

  pub there_cut : (inner : List Bool) (m : ℕ) (bags : ℕ → Rows) → all_there inner m (cut_bags bags) ≡ all_there inner m bags
  there_cut [] m bags = refl
  there_cut (b ∷ inner) m bags = λ i. not (b && cut_empty (cut_row cutter (owns m)) (bags m) i) && there_cut inner (m + 1) bags i

  -- ---- entries

  abbrev pub cut_entry : Entry → Entry
  cut_entry e = record { key = e.key; input = e.input; row = cut_row cutter (owns e.input) e.row }

  module _ (rows : ℕ → Rows) (new old : PlanOp) where
    abbrev pub KeysSame : ℕ → List ℕ → Type 0
    KeysSame m [] = ⊤
    KeysSame m (i ∷ more) = AllByRecursion (λ row. key_at new m (cut_row cutter (cuts i) row) ≡ key_at old m row) (rows i) × KeysSame (m + 1) more

    one_entry : (m i : ℕ) → owns m ≡ cuts i → (found : Rows) → AllByRecursion (λ row. key_at new m (cut_row cutter (cuts i) row) ≡ key_at old m row) found
        → entries_of new m (map (cut_row cutter (cuts i)) found) ≡ map cut_entry (entries_of old m found)
    one_entry m i here [] h = refl
    one_entry m i here (row ∷ found) h =
        λ d. record { key = h.0 d; input = m; row = cut_row cutter (sym here d) row } ∷ one_entry m i here found h.1 d

    pub entries_cut : (m : ℕ) (more : List ℕ) → Placed m more → KeysSame m more
        → from_inputs (entries_of new) m more (λ i. map (cut_row cutter (cuts i)) (rows i)) ≡ map cut_entry (from_inputs (entries_of old) m more rows)
    entries_cut m [] p h = refl
    entries_cut m (i ∷ more) p h =
        (λ d. one_entry m i (owned m i p.0) (rows i) h.0 d ++ entries_cut (m + 1) more p.1 h.1 d)
        ∙ sym (map-append cut_entry (entries_of old m (rows i)) (from_inputs (entries_of old) (m + 1) more rows))

  -- ---- by key

  rows_cut : (entries : List Entry) (j : ℕ) → rows_of (map cut_entry entries) j ≡ cut_bags (rows_of entries) j
  rows_cut entries j =
      let found = filter (λ e. e.input == j) entries in
      ap (λ es. bag_of (map (λ e. e.row) es)) (filter-map (λ e. e.input == j) cut_entry entries)
      ∙ ap bag_of (maps_in_turn (λ e. e.row) cut_entry (λ e. cut_row cutter (owns e.input) e.row) (λ e. refl) found
      ∙ map_each (λ e. cut_row cutter (owns e.input) e.row) (λ e. cut_row cutter (owns j) e.row) found
      (each_weaker (λ e. (e.input == j) ≡ true) _ (λ e t. ap (λ n. cut_row cutter (owns n) e.row) (eqb-true e.input j t)) found (each_filtered (λ e. e.input == j) entries))
      ∙ sym (maps_in_turn (cut_row cutter (owns j)) (λ e. e.row) (λ e. cut_row cutter (owns j) e.row) (λ e. refl) found))
      ∙ sym (bag_under (cut_row cutter (owns j)) (map (λ e. e.row) found))

  -- the rows of entries, by their inputs
  module _ (P : ℕ → List Tree → Type 0) where
    abbrev pub AreEntries : List Entry → Type 0
    AreEntries entries = AllByRecursion (λ e. P e.input e.row) entries

    abbrev pub AreRows : (ℕ → Rows) → Type 0
    AreRows bags = (j : ℕ) → AllByRecursion (P j) (bags j)

    of_input : (j : ℕ) (entries : List Entry) → AreEntries entries → AllByRecursion (λ e. P j e.row) (filter (λ e. e.input == j) entries)
    of_input j [] h = tt
    of_input j (e ∷ entries) h = by_test (e.input == j) (λ t. subst (λ n. P n e.row) (eqb-true e.input j t) h.0) (of_input j entries h.1)
      where
        by_test : (b : Bool) → (b ≡ true → P j e.row) → AllByRecursion (λ d. P j d.row) (filter (λ d. d.input == j) entries)
            → AllByRecursion (λ d. P j d.row) (cond b (e ∷ filter (λ d. d.input == j) entries) (filter (λ d. d.input == j) entries))
        by_test true here more = (here refl, more)
        by_test false here more = more

    rows_are : (entries : List Entry) → AreEntries entries → AreRows (rows_of entries)
    rows_are entries h j =
        each-sort row_cmp (P j) (map (λ e. e.row) (filter (λ e. e.input == j) entries)) (each-map (P j) (λ e. e.row) (filter (λ e. e.input == j) entries) (of_input j entries h))

    abbrev with : Tree → List Entry → List Entry
    with k entries = with_key tree_cmp (λ e. e.key) k entries

    -- what is made of each key and the cut bags, where that is what is made of the bags, cut
    pub gathered_cut : (new old : Tree → (ℕ → Rows) → Rows) (left : NodeCut)
        → ((k : Tree) (bags : ℕ → Rows) → AreBags bags → AreRows bags → IsPermutation (new k (cut_bags bags)) (map (cut_row cutter left) (old k bags)))
        → (entries : List Entry) → AreEntries entries → bag_of (gathered new (map cut_entry entries)) ≡ bag_of (map (cut_row cutter left) (gathered old entries))
    gathered_cut new old left law entries h =
        let keys = distinct tree_cmp (map (λ e. e.key) entries) in
        ap bag_of (ap (λ ks. flat_map (λ k. new k (rows_of (with k (map cut_entry entries)))) (distinct tree_cmp ks)) (maps_in_turn (λ e. e.key) cut_entry (λ e. e.key) (λ e. refl) entries)
        ∙ (λ d. flat_map (λ k. new k (rows_of (filter-map (λ e. is_eq (tree_cmp e.key k)) cut_entry entries d))) keys)
        ∙ (λ d. flat_map (λ k. new k (λ j. rows_cut (with k entries) j d)) keys))
        ∙ bag_from_permutation row_cmp row_total row_same (flat_map (λ k. new k (cut_bags (rows_of (with k entries)))) keys) (flat_map (λ k. map (cut_row cutter left) (old k (rows_of (with k entries)))) keys)
        (flat_permuted _ _ keys (each_of_all _ (λ k. law k (rows_of (with k entries))
        (λ j. bag_once row_cmp row_total (map (λ e. e.row) (filter (λ e. e.input == j) (with k entries))))
        (rows_are (with k entries) (each-filter _ (λ e. P e.input e.row) entries h))) keys))
        ∙ ap bag_of (sym (map-flat_map (cut_row cutter left) (λ k. old k (rows_of (with k entries))) keys))
