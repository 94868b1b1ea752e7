-- What stays of a list by marks, and the product of the items that stay: the rows that all items make, at the positions that are left.
use Rattle.std.specs.Prelude.{◌≡◌, ◌+◌, ℕ, Bool, true, false, not, List, [], ◌∷◌, ◌++◌, map, length, Some, refl}
use Rattle.std.specs.List.{AllByRecursion, flat_map, list_all, range_with_len}
use Rattle.std.proofs.Common.{ap, sym, ◌∙◌, subst, arith, true≢false, append_assoc, append-nil}
use Rattle.std.proofs.lemmas.Bool.{and_parts}
use Rattle.std.proofs.lemmas.List.{length-append, map-append}
use Rattle.pig_value.proofs.list_laws.Elementwise.{get-behind}
use Rattle.pig_value.proofs.list_laws.Listing.{each_weaker, flat_map_each, map-flat_map}
use Rattle.pig_value.specs.Trees.{Tree, at, or_null}
use Rattle.pig_typed.specs.Operators.{pick}
use Rattle.pig_typed.specs.Products.{joined, product}
use Rattle.pig_typed.specs.Typed.{TypedItem}
use Rattle.pig_cuts.specs.Cuts.{cut_row}
use Rattle.pig_cuts.specs.Plans.{all_stay, going, items_kept, spans, staying, whole_field}
use Rattle.pig_cuts.proofs.Fields.{Rows, maps_in_turn}

module _ {X : Type 0} where
  pub staying_all : (marks : List Bool) (xs : List X) → all_stay marks ≡ true → staying marks xs ≡ xs
  staying_all [] xs h = refl
  staying_all (true ∷ marks) [] h = refl
  staying_all (true ∷ marks) (x ∷ xs) h = ap (λ more. x ∷ more) (staying_all marks xs h)
  staying_all (false ∷ marks) xs h = absurd (true≢false (sym h))

  pub each_staying : (P : X → Type 0) (marks : List Bool) (xs : List X) → AllByRecursion P xs → AllByRecursion P (staying marks xs)
  each_staying P [] xs h = h
  each_staying P (mark ∷ marks) [] h = tt
  each_staying P (true ∷ marks) (x ∷ xs) h = (h.0, each_staying P marks xs h.1)
  each_staying P (false ∷ marks) (x ∷ xs) h = each_staying P marks xs h.1

pub staying_map : {X Y : Type 0} (f : X → Y) (marks : List Bool) (xs : List X) → staying marks (map f xs) ≡ map f (staying marks xs)
staying_map f [] xs = refl
staying_map f (mark ∷ marks) [] = refl
staying_map f (true ∷ marks) (x ∷ xs) = ap (λ more. f x ∷ more) (staying_map f marks xs)
staying_map f (false ∷ marks) (x ∷ xs) = staying_map f marks xs

-- ---- positions

pub at_behind : (before row : List Tree) (first p : ℕ) → length before ≡ first → at (first + p) (before ++ row) ≡ at p row
at_behind before row first p h = ap (λ n. at (n + p) (before ++ row)) (sym h) ∙ ap or_null (get-behind before row p)

pub pick_range : (before x y : List Tree) (first : ℕ) → length before ≡ first → pick (range_with_len first (length x)) (before ++ (x ++ y)) ≡ x
pick_range before [] y first h = refl
pick_range before (v ∷ x) y first h =
    let zero_more : first ≡ first + 0 = omega arith in
    let longer : length (before ++ v ∷ []) ≡ first + 1 = length-append before (v ∷ []) ∙ ap (λ n. n + 1) h in
    λ i. (ap (λ n. at n (before ++ (v ∷ (x ++ y)))) zero_more ∙ at_behind before (v ∷ (x ++ y)) first 0 h) i
    ∷ (ap (pick (range_with_len (first + 1) (length x))) (sym (append_assoc before (v ∷ []) (x ++ y))) ∙ pick_range (before ++ v ∷ []) x y (first + 1) longer) i

pub pick_all : (row : List Tree) → pick (range_with_len 0 (length row)) row ≡ row
pick_all row = ap (pick (range_with_len 0 (length row))) (sym (append-nil row)) ∙ pick_range [] row [] 0 refl

pub whole_is_pick : (cutter : ℕ → List Tree → List Tree) (ps : List ℕ) (row : List Tree) → cut_row cutter (Some (map whole_field ps)) row ≡ pick ps row
whole_is_pick cutter ps row = maps_in_turn _ whole_field (λ n. at n row) (λ n. refl) ps

-- ---- products

not_true : (b : Bool) → not b ≡ true → b ≡ false
not_true true h = absurd (true≢false (sym h))
not_true false h = refl

abbrev flat : List (List ℕ) → List ℕ
flat = flat_map (λ span. span)

module _ (L : TypedItem → Rows) where
  -- what an item gives is as wide as it says, and one field where it stands under no FLATTEN
  pub record IsWide (item : TypedItem) : Type 0 where
    pub wide : AllByRecursion (λ x. length x ≡ item.width) (L item)
    pub plain : item.flatten ≡ false → (v : Tree) × (L item ≡ (v ∷ []) ∷ [])

  abbrev made : List TypedItem → Rows
  made items = product (map L items)

  abbrev Left : List Bool → List TypedItem → Type 0
  Left marks items = (before : List Tree) (first : ℕ) → length before ≡ first
      → made (staying marks items) ≡ map (λ y. pick (flat (staying marks (spans first items))) (before ++ y)) (made items)

  stays : (marks : List Bool) (item : TypedItem) (items : List TypedItem) → AllByRecursion (λ x. length x ≡ item.width) (L item) → Left marks items
      → (before : List Tree) (first : ℕ) → length before ≡ first
      → joined (L item) (made (staying marks items)) ≡ map (λ y. pick (range_with_len first item.width ++ flat (staying marks (spans (first + item.width) items))) (before ++ y)) (joined (L item) (made items))
  stays marks item items wide left before first h =
      let S = flat (staying marks (spans (first + item.width) items)) in
      let whole = range_with_len first item.width ++ S in
      flat_map_each (λ x. map (λ y. x ++ y) (made (staying marks items))) (λ x. map (λ y. pick whole (before ++ y)) (map (λ y. x ++ y) (made items))) (L item)
      (each_weaker (λ x. length x ≡ item.width) _
      (λ x w.
      let longer : length (before ++ x) ≡ first + item.width = length-append before x ∙ (λ i. h i + w i) in
      ap (map (λ y. x ++ y)) (left (before ++ x) (first + item.width) longer)
      ∙ maps_in_turn (λ y. x ++ y) (λ y. pick S ((before ++ x) ++ y)) (λ y. x ++ pick S ((before ++ x) ++ y)) (λ y. refl) (made items)
      ∙ sym (maps_in_turn (λ y. pick whole (before ++ y)) (λ y. x ++ y) (λ y. x ++ pick S ((before ++ x) ++ y))
      (λ y. map-append (λ n. at n (before ++ (x ++ y))) (range_with_len first item.width) S
      ∙ (λ i. (ap (λ n. pick (range_with_len first n) (before ++ (x ++ y))) (sym w) ∙ pick_range before x y first h) i ++ ap (pick S) (sym (append_assoc before x y)) i)) (made items)))
      (L item) wide)
      ∙ sym (map-flat_map (λ y. pick whole (before ++ y)) (λ x. map (λ y. x ++ y) (made items)) (L item))

  goes : (marks : List Bool) (item : TypedItem) (items : List TypedItem) → AllByRecursion (λ x. length x ≡ item.width) (L item) → ((v : Tree) × (L item ≡ (v ∷ []) ∷ [])) → Left marks items
      → (before : List Tree) (first : ℕ) → length before ≡ first
      → made (staying marks items) ≡ map (λ y. pick (flat (staying marks (spans (first + item.width) items))) (before ++ y)) (joined (L item) (made items))
  goes marks item items wide plain left before first h =
      let S = flat (staying marks (spans (first + item.width) items)) in
      let v : Tree = plain.0 in
      let one : length (v ∷ []) ≡ item.width = (subst (AllByRecursion (λ x. length x ≡ item.width)) plain.1 wide).0 in
      let longer : length (before ++ v ∷ []) ≡ first + item.width = length-append before (v ∷ []) ∙ (λ i. h i + one i) in
      left (before ++ v ∷ []) (first + item.width) longer
      ∙ sym (maps_in_turn (λ y. pick S (before ++ y)) (λ y. (v ∷ []) ++ y) (λ y. pick S ((before ++ v ∷ []) ++ y)) (λ y. ap (pick S) (sym (append_assoc before (v ∷ []) y))) (made items))
      ∙ ap (map (λ y. pick S (before ++ y))) (sym (append-nil (map (λ y. (v ∷ []) ++ y) (made items))))
      ∙ ap (λ rows. map (λ y. pick S (before ++ y)) (joined rows (made items))) (sym plain.1)

  left_is : (marks : List Bool) (items : List TypedItem) → AllByRecursion IsWide items → list_all (λ item. not item.flatten) (going marks items) ≡ true → Left marks items
  left_is [] [] wide h before first e = refl
  left_is (mark ∷ marks) [] wide h before first e = refl
  left_is [] (item ∷ items) wide h before first e = stays [] item items wide.0.wide (left_is [] items wide.1 h) before first e
  left_is (true ∷ marks) (item ∷ items) wide h before first e = stays marks item items wide.0.wide (left_is marks items wide.1 h) before first e
  left_is (false ∷ marks) (item ∷ items) wide h before first e =
      let both = and_parts (not item.flatten) (list_all (λ item. not item.flatten) (going marks items)) h in
      goes marks item items wide.0.wide (wide.0.plain (not_true item.flatten both.0)) (left_is marks items wide.1 both.1) before first e

  -- what the items that stay make is what all make, at the positions that are left
  pub product_left : (cutter : ℕ → List Tree → List Tree) (marks : List Bool) (items : List TypedItem) → AllByRecursion IsWide items → list_all (λ item. not item.flatten) (going marks items) ≡ true
      → made (staying marks items) ≡ map (cut_row cutter (Some (items_kept marks items))) (made items)
  product_left cutter marks items wide h =
      left_is marks items wide h [] 0 refl
      ∙ (λ i. map (λ y. sym (whole_is_pick cutter (flat (staying marks (spans 0 items))) y) i) (made items))
