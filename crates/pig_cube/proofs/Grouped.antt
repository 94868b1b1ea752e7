-- GROUP by the first fields of rows is what is made of each distinct list of these.
use Rattle.std.specs.Prelude.{◌≡◌, ◌≤◌, ◌==◌, ℕ, zero, suc, Bool, true, false, not, List, [], ◌∷◌, ◌++◌, length, map, take, refl}
use Rattle.std.proofs.Common.{ap, sym, ◌∙◌, arith, cond}
use Rattle.std.specs.List.{AllByRecursion, filter, flat_map, range_with_len}
use Rattle.std.specs.Ordering.{is_eq, is_gt, ordering_then}
use Rattle.std.specs.declared.cmp.Ordering.{Ordering}
use Rattle.std.specs.declared.cmp.Ordering.TheVariants.{Less, Equal, Greater}
use Rattle.std.proofs.lemmas.List.{length-take}
use Rattle.std.proofs.lemmas.Simd.{map-map}
use Rattle.pig_value.specs.Gathering.{Entry, with_key}
use Rattle.pig_value.specs.Orders.{bag_of, row_cmp, tree_cmp}
use Rattle.pig_value.specs.Sorts.{distinct, put}
use Rattle.pig_value.specs.Trees.{at, Tree}
use Rattle.pig_value.proofs.OrderLaws.{fields_are}
use Rattle.pig_value.proofs.list_laws.Bags.{either_way, put_here, put_on}
use Rattle.pig_value.proofs.list_laws.Distinct.{each-distinct}
use Rattle.pig_value.proofs.list_laws.Elementwise.{range_up}
use Rattle.pig_value.proofs.list_laws.Listing.{each-filter, each-map, each_weaker, map_each}
use Rattle.pig_typed.specs.Evaluation.{ev}
use Rattle.pig_typed.specs.Typed.{Typed, x_field}
use Rattle.pig_plan.specs.ByKey.{as_bag, entries_of_input, gathered, group_of, key_of, rows_of}
use Rattle.pig_plan.specs.Operators.{keys_of}
use Rattle.pig_cube.specs.Cubes.{grouped, with_dimensions}

-- ---- the place of a key among keys

then_equal : (order : Ordering) → ordering_then order Equal ≡ order
then_equal Less = refl
then_equal Equal = refl
then_equal Greater = refl

-- keys of as many values stand as the lists of these do
key_place : (xs ys : List Tree) → length xs ≡ length ys → tree_cmp (key_of xs) (key_of ys) ≡ row_cmp xs ys
key_place [] [] h = refl
key_place [] (y ∷ ys) h = absurd (omega (arith, h))
key_place (x ∷ xs) [] h = absurd (omega (arith, h))
key_place (x ∷ []) (y ∷ []) h = sym (then_equal (tree_cmp x y))
key_place (x ∷ []) (y ∷ w ∷ ys) h = absurd (omega (arith, h))
key_place (x ∷ v ∷ xs) (y ∷ []) h = absurd (omega (arith, h))
key_place (x ∷ v ∷ xs) (y ∷ w ∷ ys) h = fields_are (x ∷ v ∷ xs) (y ∷ w ∷ ys)

-- each element once, mapped by what keeps the order of elements that are as one asks
module _ {X Y : Type 0} (R : X → X → Ordering) (S : Y → Y → Ordering) (f : X → Y) (P : X → Type 0) (keeps : (x y : X) → P x → P y → S (f x) (f y) ≡ R x y) where
  map_put : (x : X) (ys : List X) → P x → AllByRecursion P ys → map f (put R x ys) ≡ put S (f x) (map f ys)
  map_put x [] h k = refl
  map_put x (y ∷ ys) h k = either_way (is_gt (R x y))
      (λ e. ap (map f) (put_on R x y ys e) ∙ ap (λ zs. f y ∷ zs) (map_put x ys h k.1) ∙ sym (put_on S (f x) (f y) (map f ys) (ap is_gt (keeps x y h k.0) ∙ e)))
      (λ e. ap (map f) (put_here R x y ys e) ∙ sym (put_here S (f x) (f y) (map f ys) (ap is_gt (keeps x y h k.0) ∙ e)))

  kept : (b : Bool) (y : X) (ys : List X) (zs : List Y) → zs ≡ map f ys → cond b (f y ∷ zs) zs ≡ map f (cond b (y ∷ ys) ys)
  kept true y ys zs h = ap (λ more. f y ∷ more) h
  kept false y ys zs h = h

  others_map : (x : X) (ys : List X) → P x → AllByRecursion P ys → filter (λ z. not (is_eq (S (f x) z))) (map f ys) ≡ map f (filter (λ y. not (is_eq (R x y))) ys)
  others_map x [] h k = refl
  others_map x (y ∷ ys) h k =
      let rest = filter (λ z. not (is_eq (S (f x) z))) (map f ys) in
      ap (λ order. cond (not (is_eq order)) (f y ∷ rest) rest) (keeps x y h k.0)
      ∙ kept (not (is_eq (R x y))) y (filter (λ z. not (is_eq (R x z))) ys) rest (others_map x ys h k.1)

  distinct_where : (xs : List X) → AllByRecursion P xs → distinct S (map f xs) ≡ map f (distinct R xs)
  distinct_where [] h = refl
  distinct_where (x ∷ xs) h =
      let each = each-distinct R P xs h.1 in
      ap (λ ys. put S (f x) (filter (λ y. not (is_eq (S (f x) y))) ys)) (distinct_where xs h.1)
      ∙ ap (put S (f x)) (others_map x (distinct R xs) h.0 each)
      ∙ sym (map_put x (filter (λ y. not (is_eq (R x y))) (distinct R xs)) h.0 (each-filter (λ y. not (is_eq (R x y))) P (distinct R xs) each))

-- ---- rows by their first fields

fields_first : (n : ℕ) (row : List Tree) → n ≤ length row → map (λ i. at i row) (range_with_len 0 n) ≡ take n row
fields_first zero row h = refl
fields_first (suc n) [] h = absurd (omega (arith, h))
fields_first (suc n) (v ∷ row) h = ap (λ more. v ∷ more) (range_up (λ i. at i (v ∷ row)) 0 n ∙ fields_first n row (omega (arith, h)))

module _ (n : ℕ) where
  abbrev pub IsLong : List Tree → Type 0
  IsLong row = n ≤ length row

  abbrev HasAll : List Tree → Type 0
  HasAll values = length values ≡ n

  abbrev pub first_keys : List Typed
  first_keys = map x_field (range_with_len 0 n)

  abbrev pub row_key : List Tree → Tree
  row_key row = key_of (keys_of first_keys row)

  key_is : (row : List Tree) → IsLong row → row_key row ≡ key_of (take n row)
  key_is row h = ap key_of (map-map (λ e. ev e row []) x_field (range_with_len 0 n) ∙ fields_first n row h)

  first_has : (row : List Tree) → IsLong row → HasAll (take n row)
  first_has row h = let cut = length-take n row in omega (arith, cut, h)

  abbrev entry : List Tree → Entry
  entry row = record { key = row_key row; input = 0; row = row }

  -- the keys of the entries, each once
  firsts_have : (rows : List (List Tree)) → AllByRecursion IsLong rows → AllByRecursion HasAll (map (take n) rows)
  firsts_have rows long = each-map HasAll (take n) rows (each_weaker IsLong (λ row. HasAll (take n row)) first_has rows long)

  keys_are : (rows : List (List Tree)) → AllByRecursion IsLong rows → map (λ e. e.key) (entries_of_input row_key 0 rows) ≡ map key_of (map (take n) rows)
  keys_are rows long =
      map-map (λ e. e.key) entry rows
      ∙ map_each row_key (λ row. key_of (take n row)) rows (each_weaker IsLong (λ row. row_key row ≡ key_of (take n row)) key_is rows long)
      ∙ sym (map-map key_of (take n) rows)

  distinct_keys : (rows : List (List Tree)) → AllByRecursion IsLong rows → distinct tree_cmp (map (λ e. e.key) (entries_of_input row_key 0 rows)) ≡ map key_of (distinct row_cmp (map (take n) rows))
  distinct_keys rows long =
      ap (distinct tree_cmp) (keys_are rows long)
      ∙ distinct_where row_cmp tree_cmp key_of HasAll (λ xs ys h k. key_place xs ys (h ∙ sym k)) (map (take n) rows) (firsts_have rows long)

  -- the rows of a key
  module _ (values : List Tree) (has : HasAll values) where
    abbrev chosen_rows : List Entry → List (List Tree)
    chosen_rows entries = map (λ e. e.row) (filter (λ e. e.input == 0) entries)

    same_test : (row : List Tree) → IsLong row → is_eq (tree_cmp (row_key row) (key_of values)) ≡ is_eq (row_cmp (take (length values) row) values)
    same_test row h =
        ap (λ k. is_eq (tree_cmp k (key_of values))) (key_is row h)
        ∙ ap is_eq (key_place (take n row) values (first_has row h ∙ sym has))
        ∙ ap (λ m. is_eq (row_cmp (take m row) values)) (sym has)

    one_row : (b : Bool) (row : List Tree) (rest : List Entry) (more : List (List Tree)) → chosen_rows rest ≡ more → chosen_rows (cond b (entry row ∷ rest) rest) ≡ cond b (row ∷ more) more
    one_row true row rest more h = ap (λ rows. row ∷ rows) h
    one_row false row rest more h = h

    rows_are : (rows : List (List Tree)) → AllByRecursion IsLong rows → chosen_rows (with_key tree_cmp (λ e. e.key) (key_of values) (entries_of_input row_key 0 rows)) ≡ with_dimensions values rows
    rows_are [] long = refl
    rows_are (row ∷ rows) long =
        let more = with_dimensions values rows in
        one_row (is_eq (tree_cmp (row_key row) (key_of values))) row (with_key tree_cmp (λ e. e.key) (key_of values) (entries_of_input row_key 0 rows)) more (rows_are rows long.1)
        ∙ ap (λ b. cond b (row ∷ more) more) (same_test row long.0)

  -- what is made of each key
  made_of_keys : (F : Tree → List (List Tree)) (G : List Tree → List Tree) (keys : List (List Tree)) → AllByRecursion (λ values. F (key_of values) ≡ G values ∷ []) keys → flat_map F (map key_of keys) ≡ map G keys
  made_of_keys F G [] h = refl
  made_of_keys F G (values ∷ keys) h = λ i. h.0 i ++ made_of_keys F G keys h.1 i

  pub by_first_fields : (rows : List (List Tree)) → AllByRecursion IsLong rows → gathered group_of (entries_of_input row_key 0 rows) ≡ grouped n rows
  by_first_fields rows long =
      let entries = entries_of_input row_key 0 rows in
      let keys = distinct row_cmp (map (take n) rows) in
      ap (flat_map (λ k. group_of k (rows_of (with_key tree_cmp (λ e. e.key) k entries)))) (distinct_keys rows long)
      ∙ made_of_keys (λ k. group_of k (rows_of (with_key tree_cmp (λ e. e.key) k entries))) (λ values. key_of values ∷ as_bag (bag_of (with_dimensions values rows)) ∷ []) keys
      (each_weaker HasAll _ (λ values has. ap (λ found. (key_of values ∷ as_bag (bag_of found) ∷ []) ∷ []) (rows_are values has rows long)) keys
      (each-distinct row_cmp HasAll (map (take n) rows) (firsts_have rows long)))
