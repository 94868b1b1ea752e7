-- JOIN makes of cut bags its rows, cut: the fields of each side stand beside each other.
use Rattle.std.specs.Prelude.{◌≡◌, ◌<◌, ◌+◌, ℕ, suc, zero, Bool, true, false, ◌||◌, List, [], ◌∷◌, ◌++◌, map, length, Option, Some, None, slice_get, refl, if◌then◌else◌}
use Rattle.std.specs.List.{AllByRecursion, flat_map, range_with_len}
use Rattle.std.specs.List.Sorted.{IsPermutation}
use Rattle.std.specs.Option.{option_map_or}
use Rattle.std.proofs.Common.{ap, sym, ◌∙◌, subst, arith, append_assoc, append-nil}
use Rattle.std.proofs.lemmas.List.{length-append, length-replicate, map-append}
use Rattle.std.proofs.lemmas.List.Folds.{flat_map-map}
use Rattle.std.proofs.lemmas.List.Sorted.{IsPermutation-append, IsPermutation-map, IsPermutation-refl, IsPermutation-sym, IsPermutation-trans}
use Rattle.pig_value.proofs.list_laws.Bags.{sort_permutes}
use Rattle.pig_value.proofs.list_laws.Listing.{each_weaker, map-flat_map, map_each}
use Rattle.pig_value.proofs.list_laws.Permutations.{IsPermutation-flat_map, IsPermutation-same}
use Rattle.pig_value.specs.Orders.{bag_of, row_cmp}
use Rattle.pig_value.specs.Trees.{Tree, at, or_null, v_null}
use Rattle.pig_value.specs.declared.operators.Side.{Side}
use Rattle.pig_typed.specs.Operators.{pick}
use Rattle.pig_typed.specs.Products.{joined, product}
use Rattle.pig_plan.proofs.Unfolds.{get-front}
use Rattle.pig_plan.specs.ByKey.{holds_null, is_empty, join_of, keeps_left, keeps_right, nulls, outer_of}
use Rattle.pig_cuts.specs.declared.kept.KeptField.{KeptField}
use Rattle.pig_cuts.specs.Cuts.{NodeCut, cut_field, cut_row}
use Rattle.pig_cuts.specs.Plans.{behind, fields_of_cut, sides_kept}
use Rattle.pig_cuts.proofs.Entries.{AreBags, AreRows, Placed, all_placed, cut_bags, cut_empty, flat_permuted, owned, owns}
use Rattle.pig_cuts.proofs.Fields.{Rows, maps_in_turn}
use Rattle.pig_cuts.proofs.Staying.{at_behind, pick_all, whole_is_pick}

-- all fields, as what is left of a node that is whole
abbrev pub IsWithin : ℕ → NodeCut → Type 0
IsWithin width own = AllByRecursion (λ f. f.position < width) (fields_of_cut width own)

module _ (cutter : ℕ → List Tree → List Tree) where
  abbrev pub left_fields : List KeptField → List Tree → List Tree
  left_fields kept row = map (λ f. cut_field cutter f.like (at f.position row)) kept

  -- the fields that are left of a row as wide as said
  pub fields_left : (width : ℕ) (own : NodeCut) (row : List Tree) → length row ≡ width → left_fields (fields_of_cut width own) row ≡ cut_row cutter own row
  fields_left width None row h = whole_is_pick cutter (range_with_len 0 width) row ∙ ap (λ n. pick (range_with_len 0 n) row) (sym h) ∙ pick_all row
  fields_left width (Some kept) row h = refl

  -- of a row that stands between others
  between : (width : ℕ) (kept : List KeptField) → AllByRecursion (λ f. f.position < width) kept → (front row rest : List Tree) (first : ℕ) → length front ≡ first → length row ≡ width
      → left_fields (map (behind first) kept) (front ++ (row ++ rest)) ≡ left_fields kept row
  between width [] within front row rest first h g = refl
  between width (f ∷ kept) within front row rest first h g =
      let low = within.0 in
      λ d. ap (cut_field cutter f.like) (at_behind front (row ++ rest) first f.position h ∙ ap or_null (get-front row rest f.position (omega (arith, low, g)))) d
      ∷ between width kept within.1 front row rest first h g d

  nulls_left : (n : ℕ) (kept : List KeptField) → left_fields kept (nulls n) ≡ nulls (length kept)
  nulls_left n [] = refl
  nulls_left n (f ∷ kept) = λ d. (ap (cut_field cutter f.like) (at_null f.position n) ∙ null_left f.like) d ∷ nulls_left n kept d
    where
      at_null : (p n : ℕ) → at p (nulls n) ≡ v_null
      at_null p zero = refl
      at_null zero (suc n) = refl
      at_null (suc p) (suc n) = at_null p n

      null_left : (like : Option ℕ) → cut_field cutter like v_null ≡ v_null
      null_left None = refl
      null_left (Some m) = refl

  module _ (cuts : ℕ → NodeCut) (ins : List ℕ) (width : ℕ → ℕ) (within : AllByRecursion (λ i. IsWithin (width i) (cuts i)) ins) where
    abbrev cut : (ℕ → Rows) → ℕ → Rows
    cut bags = cut_bags cutter cuts ins bags

    -- the rows of the input at a place are as wide as said
    abbrev pub AreWide : ℕ → List Tree → Type 0
    AreWide j row = length row ≡ option_map_or width (slice_get ins j) 0

    abbrev sides : ℕ → List ℕ → List Tree → List Tree
    sides first more = left_fields (sides_kept cuts width first more)

    one_side : (i : ℕ) (more : List ℕ) → IsWithin (width i) (cuts i) → (front row rest : List Tree) (first : ℕ) → length front ≡ first → length row ≡ width i
        → sides first (i ∷ more) (front ++ (row ++ rest)) ≡ cut_row cutter (cuts i) row ++ sides (first + width i) more ((front ++ row) ++ rest)
    one_side i more low front row rest first h g =
        map-append _ (map (behind first) (fields_of_cut (width i) (cuts i))) (sides_kept cuts width (first + width i) more)
        ∙ (λ d. (between (width i) (fields_of_cut (width i) (cuts i)) low front row rest first h g ∙ fields_left (width i) (cuts i) row g) d
        ++ ap (sides (first + width i) more) (sym (append_assoc front row rest)) d)

    products : (bags : ℕ → Rows) → AreRows cutter cuts ins AreWide bags → (m : ℕ) (more : List ℕ) → Placed cutter cuts ins m more → AllByRecursion (λ i. IsWithin (width i) (cuts i)) more
        → (front : List Tree) (first : ℕ) → length front ≡ first
        → IsPermutation (product (map (cut bags) (range_with_len m (length more)))) (map (λ y. sides first more (front ++ y)) (product (map bags (range_with_len m (length more)))))
    products bags wide m [] placed low front first h = IsPermutation-refl ([] ∷ [])
    products bags wide m (i ∷ more) placed low front first h =
        let others = product (map bags (range_with_len (m + 1) (length more))) in
        let left = product (map (cut bags) (range_with_len (m + 1) (length more))) in
        let c = cut_row cutter (owns cutter cuts ins m) in
        let beside = λ (x : List Tree). map (λ y. x ++ y) left in
        let whole = λ (y : List Tree). sides first (i ∷ more) (front ++ y) in
        let own : owns cutter cuts ins m ≡ cuts i = owned cutter cuts ins m i placed.0 in
        let as_wide : option_map_or width (slice_get ins m) 0 ≡ width i = ap (λ o. option_map_or width o 0) placed.0 in
        IsPermutation-trans (flat_map beside (bag_of (map c (bags m)))) (flat_map beside (map c (bags m))) (map whole (joined (bags m) others))
        (IsPermutation-flat_map beside (bag_of (map c (bags m))) (map c (bags m)) (IsPermutation-sym (map c (bags m)) (bag_of (map c (bags m))) (sort_permutes row_cmp (map c (bags m)))))
        (subst (λ rows. IsPermutation rows (map whole (joined (bags m) others))) (sym (flat_map-map beside c (bags m)))
        (subst (IsPermutation (flat_map (λ x. beside (c x)) (bags m))) (sym (map-flat_map whole (λ x. map (λ y. x ++ y) others) (bags m)))
        (flat_permuted (λ x. beside (c x)) (λ x. map whole (map (λ y. x ++ y) others)) (bags m)
        (each_weaker (AreWide m) _
        (λ x w.
        let size : length x ≡ width i = w ∙ as_wide in
        let longer : length (front ++ x) ≡ first + width i = length-append front x ∙ (λ d. h d + size d) in
        IsPermutation-trans (beside (c x)) (map (λ y. c x ++ y) (map (λ y. sides (first + width i) more ((front ++ x) ++ y)) others)) (map whole (map (λ y. x ++ y) others))
        (IsPermutation-map (λ y. c x ++ y) left (map (λ y. sides (first + width i) more ((front ++ x) ++ y)) others)
        (products bags wide (m + 1) more placed.1 low.1 (front ++ x) (first + width i) longer))
        (IsPermutation-same _ _
        (maps_in_turn (λ y. c x ++ y) (λ y. sides (first + width i) more ((front ++ x) ++ y)) (λ y. whole (x ++ y))
        (λ y. ap (λ o. cut_row cutter o x ++ sides (first + width i) more ((front ++ x) ++ y)) own ∙ sym (one_side i more low.0 front x y first h size)) others
        ∙ sym (maps_in_turn whole (λ y. x ++ y) (λ y. whole (x ++ y)) (λ y. refl) others))))
        (bags m) (wide m)))))

    abbrev left_row : List Tree → List Tree
    left_row = cut_row cutter (Some (sides_kept cuts width 0 ins))

    pub all_joined : (bags : ℕ → Rows) → AreRows cutter cuts ins AreWide bags
        → IsPermutation (product (map (cut bags) (range_with_len 0 (length ins)))) (map left_row (product (map bags (range_with_len 0 (length ins)))))
    all_joined bags wide = products bags wide 0 ins (all_placed cutter cuts ins) within [] 0 refl

    pub join_cut : (k : Tree) (bags : ℕ → Rows) → AreBags cutter cuts ins bags → AreRows cutter cuts ins AreWide bags
        → IsPermutation (join_of (length ins) k (cut bags)) (map left_row (join_of (length ins) k bags))
    join_cut k bags are wide = by_null (holds_null k)
      where
        by_null : (b : Bool) → IsPermutation (if b then [] else product (map (cut bags) (range_with_len 0 (length ins)))) (map left_row (if b then [] else product (map bags (range_with_len 0 (length ins)))))
        by_null true = IsPermutation-refl []
        by_null false = all_joined bags wide

-- ---- LEFT, RIGHT and FULL

module _ (cutter : ℕ → List Tree → List Tree) (cuts : ℕ → NodeCut) (a b : ℕ) (width : ℕ → ℕ) (within : AllByRecursion (λ i. IsWithin (width i) (cuts i)) (a ∷ b ∷ [])) where
  abbrev two : List ℕ
  two = a ∷ b ∷ []

  abbrev both_row : List Tree → List Tree
  both_row = cut_row cutter (Some (sides_kept cuts width 0 two))

  abbrev cut_two : (ℕ → Rows) → ℕ → Rows
  cut_two bags = cut_bags cutter cuts two bags

  -- how many fields are left of an input
  abbrev pub size_left : ℕ → ℕ
  size_left i = length (fields_of_cut (width i) (cuts i))

  two_sides : (x y : List Tree) → length x ≡ width a → length y ≡ width b → both_row (x ++ y) ≡ cut_row cutter (cuts a) x ++ cut_row cutter (cuts b) y
  two_sides x y h g =
      let wide : length x ≡ 0 + width a = h ∙ (let e : width a ≡ 0 + width a = omega arith in e) in
      one_side cutter cuts two width within a (b ∷ []) within.0 [] x y 0 refl h
      ∙ ap (λ more. cut_row cutter (cuts a) x ++ more)
      (ap (λ z. left_fields cutter (sides_kept cuts width (0 + width a) (b ∷ [])) (x ++ z)) (sym (append-nil y))
      ∙ one_side cutter cuts two width within b [] within.1.0 x y [] (0 + width a) wide g ∙ append-nil (cut_row cutter (cuts b) y))

  null_side : (i : ℕ) → cut_row cutter (cuts i) (nulls (width i)) ≡ nulls (size_left i)
  null_side i = sym (fields_left cutter (width i) (cuts i) (nulls (width i)) (length-replicate (width i) v_null)) ∙ nulls_left cutter (width i) (fields_of_cut (width i) (cuts i))

  -- rows without a partner
  alone_left : (new old c : List Tree → List Tree) (rows : Rows) → AllByRecursion (λ row. new (c row) ≡ both_row (old row)) rows
      → IsPermutation (map new (bag_of (map c rows))) (map both_row (map old rows))
  alone_left new old c rows h =
      IsPermutation-trans (map new (bag_of (map c rows))) (map new (map c rows)) (map both_row (map old rows))
      (IsPermutation-map new (bag_of (map c rows)) (map c rows) (IsPermutation-sym (map c rows) (bag_of (map c rows)) (sort_permutes row_cmp (map c rows))))
      (IsPermutation-same (map new (map c rows)) (map both_row (map old rows))
      (maps_in_turn new c (λ row. new (c row)) (λ row. refl) rows ∙ map_each (λ row. new (c row)) (λ row. both_row (old row)) rows h
      ∙ sym (maps_in_turn both_row old (λ row. both_row (old row)) (λ row. refl) rows)))

  kept_alone : (keep : Bool) (new old : Rows) → IsPermutation new (map both_row old) → IsPermutation (if keep then new else []) (map both_row (if keep then old else []))
  kept_alone true new old h = h
  kept_alone false new old h = IsPermutation-refl []

  outer_either : (c d : Bool) (new old joined_new joined_old : Rows) → c ≡ d → IsPermutation new (map both_row old) → IsPermutation joined_new (map both_row joined_old)
      → IsPermutation (if c then new else joined_new) (map both_row (if d then old else joined_old))
  outer_either c true new old joined_new joined_old e h g = subst (λ t. IsPermutation (if t then new else joined_new) (map both_row old)) (sym e) h
  outer_either c false new old joined_new joined_old e h g = subst (λ t. IsPermutation (if t then new else joined_new) (map both_row joined_old)) (sym e) g

  pub outer_cut : (s : Side) (m n : ℕ) → m ≡ size_left a → n ≡ size_left b → (k : Tree) (bags : ℕ → Rows) → AreBags cutter cuts two bags → AreRows cutter cuts two (AreWide cutter cuts two width within) bags
      → IsPermutation (outer_of s m n k (cut_two bags)) (map both_row (outer_of s (width a) (width b) k bags))
  outer_cut s m n left_size right_size k bags are wide =
      let left_new = map (λ row. row ++ nulls n) (cut_two bags 0) in
      let right_new = map (λ row. nulls m ++ row) (cut_two bags 1) in
      let left_old = map (λ row. row ++ nulls (width b)) (bags 0) in
      let right_old = map (λ row. nulls (width a) ++ row) (bags 1) in
      let sides_new = λ (l r : Rows). (if keeps_left s then l else []) ++ (if keeps_right s then r else []) in
      outer_either (holds_null k || is_empty (cut_two bags 0) || is_empty (cut_two bags 1)) (holds_null k || is_empty (bags 0) || is_empty (bags 1))
      (sides_new left_new right_new) (sides_new left_old right_old) (product (cut_two bags 0 ∷ cut_two bags 1 ∷ [])) (product (bags 0 ∷ bags 1 ∷ []))
      (λ d. holds_null k || cut_empty (cut_row cutter (cuts a)) (bags 0) d || cut_empty (cut_row cutter (cuts b)) (bags 1) d)
      (subst (IsPermutation (sides_new left_new right_new)) (sym (map-append both_row (if keeps_left s then left_old else []) (if keeps_right s then right_old else [])))
      (IsPermutation-append (if keeps_left s then left_new else []) (map both_row (if keeps_left s then left_old else [])) (if keeps_right s then right_new else []) (map both_row (if keeps_right s then right_old else []))
      (kept_alone (keeps_left s) left_new left_old
      (alone_left (λ row. row ++ nulls n) (λ row. row ++ nulls (width b)) (cut_row cutter (cuts a)) (bags 0)
      (each_weaker (λ row. length row ≡ width a) _ (λ row h. ap (λ more. cut_row cutter (cuts a) row ++ more) (ap nulls right_size ∙ sym (null_side b)) ∙ sym (two_sides row (nulls (width b)) h (length-replicate (width b) v_null))) (bags 0) (wide 0))))
      (kept_alone (keeps_right s) right_new right_old
      (alone_left (λ row. nulls m ++ row) (λ row. nulls (width a) ++ row) (cut_row cutter (cuts b)) (bags 1)
      (each_weaker (λ row. length row ≡ width b) _ (λ row h. ap (λ more. more ++ cut_row cutter (cuts b) row) (ap nulls left_size ∙ sym (null_side a)) ∙ sym (two_sides (nulls (width a)) row (length-replicate (width a) v_null) h)) (bags 1) (wide 1))))))
      (all_joined cutter cuts two width within bags wide)
