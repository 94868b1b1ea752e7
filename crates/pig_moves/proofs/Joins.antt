-- A FILTER on a JOIN whose condition names columns of one input alone keeps what the JOIN makes of the rows that a FILTER on this input keeps.
use Rattle.std.specs.Prelude.{◌≡◌, ◌<◌, ◌≤◌, ◌+◌, ◌-◌, ◌==◌, ◌&&◌, ◌||◌, ℕ, zero, suc, Bool, true, false, List, [], ◌∷◌, ◌++◌, map, length, min, nat_lt, ⊤, refl, if◌then◌else◌}
use Rattle.std.proofs.Common.{ap, sym, ◌∙◌, arith, cond, true≢false, append_assoc, append-nil}
use Rattle.std.specs.List.{AllByRecursion, filter, flat_map, range_with_len}
use Rattle.std.specs.Ordering.{is_eq}
use Rattle.std.proofs.lemmas.Bool.{eq-eqb, eqb-true, ltb-false, ltb-true}
use Rattle.std.proofs.lemmas.Cmp.{tied_itself}
use Rattle.std.proofs.lemmas.List.{length-append, length-replicate}
use Rattle.std.proofs.lemmas.List.Elements.{filter-append}
use Rattle.pig_value.proofs.OrderLaws.{row_same, row_total, tree_same, tree_total}
use Rattle.pig_value.proofs.list_laws.Bags.{bag_once, each-sort, either_way, eq_is, sort-filter, times-cons, times-filter}
use Rattle.pig_value.proofs.list_laws.Distinct.{distinct_same, filter-distinct}
use Rattle.pig_value.proofs.list_laws.Listing.{each-append, each-filter, each-map, each_of_all, each_weaker, filter-filter, filter-flat_map, filter-map, filter_all, flat_map_each}
use Rattle.pig_value.specs.declared.operators.Side.{Side}
use Rattle.pig_value.specs.declared.operators.Side.TheVariants as side
use Rattle.pig_value.specs.Gathering.{Entry}
use Rattle.pig_value.specs.Orders.{bag_of, row_cmp, tree_cmp}
use Rattle.pig_value.specs.Sorts.{distinct, times}
use Rattle.pig_value.specs.Trees.{Tree, at}
use Rattle.pig_typed.specs.Evaluation.{ev, passes}
use Rattle.pig_typed.specs.Operators.{is_true}
use Rattle.pig_typed.specs.Products.{joined, product}
use Rattle.pig_typed.specs.Typed.{Typed, x_field}
use Rattle.pig_plan.proofs.Moved.{puts}
use Rattle.pig_plan.proofs.Seen.{seen}
use Rattle.pig_plan.specs.ByKey.{entries_of_input, gathered, holds_null, is_empty, join_of, key_of, nulls, outer_of, rows_of}
use Rattle.pig_plan.specs.Moves.{fields_in, put}
use Rattle.pig_plan.specs.Operators.{filter_rows, join_rows, keyed_entries, keys_of}
use Rattle.pig_plan.specs.Plans.{Keyed, p_join}
use Rattle.pig_moves.specs.Pushed.{on_input, opens}
use Rattle.pig_moves.proofs.Passing.{Rows, at_after, filter_goes_within, filter_sorted}

abbrev Row : Type 0
Row = List Tree

-- ---- columns of joined rows

at_within : (a b : Row) (n : ℕ) → n < length a → at n (a ++ b) ≡ at n a
at_within [] b n h = absurd (omega (arith, h))
at_within (v ∷ a) b zero h = refl
at_within (v ∷ a) b (suc n) h = at_within a b n (omega (arith, h))

nulls_long : (n : ℕ) → length (nulls n) ≡ n
nulls_long n = length-replicate n _

-- the columns of the inputs before a place, and of the one at it
abbrev pub Spans : Typed → ℕ → ℕ → Type 0
Spans c first size = AllByRecursion (λ n. (first ≤ n) × (n < first + size)) (fields_in c)

module _ (c : Typed) where
  same_columns : (r s : Row) → AllByRecursion (λ n. at n r ≡ at n s) (fields_in c) → passes c r ≡ passes c s
  same_columns r s h = ap is_true (sym (puts x_field r r [] c (each_of_all (λ n. ev (x_field n) r [] ≡ at n r) (λ n. refl) (fields_in c))) ∙ puts x_field r s [] c h)

  -- what the condition says of a row behind so many columns
  abbrev pub tells : ℕ → Row → Bool
  tells s row = passes c (nulls s ++ row)

  abbrev Behind : ℕ → Type 0
  Behind s = AllByRecursion (λ n. s ≤ n) (fields_in c)

  abbrev Before : ℕ → Type 0
  Before s = AllByRecursion (λ n. n < s) (fields_in c)

  tells_behind : (s w : ℕ) (x y : Row) → length x ≡ w → Behind (s + w) → tells s (x ++ y) ≡ tells (s + w) y
  tells_behind s w x y long h =
      let whole : length (nulls s ++ x) ≡ s + w = length-append (nulls s) x ∙ (λ i. nulls_long s i + long i) in
      let other : length (nulls (s + w)) ≡ s + w = nulls_long (s + w) in
      same_columns (nulls s ++ (x ++ y)) (nulls (s + w) ++ y)
      (each_weaker (λ n. s + w ≤ n) (λ n. at n (nulls s ++ (x ++ y)) ≡ at n (nulls (s + w) ++ y))
      (λ n le.
      ap (at n) (sym (append_assoc (nulls s) x y))
      ∙ at_after (nulls s ++ x) y n (omega (arith, whole, le))
      ∙ ap (λ m. at (n - m) y) (whole ∙ sym other)
      ∙ sym (at_after (nulls (s + w)) y n (omega (arith, other, le))))
      (fields_in c) h)

  tells_front : (s w : ℕ) (x y : Row) → length x ≡ w → Before (s + w) → tells s (x ++ y) ≡ tells s x
  tells_front s w x y long h =
      let whole : length (nulls s ++ x) ≡ s + w = length-append (nulls s) x ∙ (λ i. nulls_long s i + long i) in
      same_columns (nulls s ++ (x ++ y)) (nulls s ++ x)
      (each_weaker (λ n. n < s + w) (λ n. at n (nulls s ++ (x ++ y)) ≡ at n (nulls s ++ x))
      (λ n lt. ap (at n) (sym (append_assoc (nulls s) x y)) ∙ at_within (nulls s ++ x) y n (omega (arith, whole, lt)))
      (fields_in c) h)

  tells_moved : (s : ℕ) (x : Row) → Behind s → passes (put (λ n. x_field (n - s)) c) x ≡ tells s x
  tells_moved s x h =
      let long : length (nulls s) ≡ s = nulls_long s in
      ap is_true (puts (λ n. x_field (n - s)) x (nulls s ++ x) [] c
      (each_weaker (λ n. s ≤ n) (λ n. ev (x_field (n - s)) x [] ≡ at n (nulls s ++ x))
      (λ n le. ap (λ m. at (n - m) x) (sym long) ∙ sym (at_after (nulls s) x n (omega (arith, long, le))))
      (fields_in c) h))

  -- ---- joined rows

  abbrev Wide : ℕ → Rows → Type 0
  Wide w rows = AllByRecursion (λ row. length row ≡ w) rows

  joined_at : (s w : ℕ) (xs ys : Rows) → Wide w xs → Before (s + w) → filter (tells s) (joined xs ys) ≡ joined (filter (tells s) xs) ys
  joined_at s w xs ys wide h =
      filter_goes_within (λ x. map (λ y. x ++ y) ys) (tells s) (tells s) xs
      (each_weaker (λ x. length x ≡ w) (λ x. AllByRecursion (λ r. tells s r ≡ tells s x) (map (λ y. x ++ y) ys))
      (λ x long. each-map (λ r. tells s r ≡ tells s x) (λ y. x ++ y) ys (each_of_all (λ y. tells s (x ++ y) ≡ tells s x) (λ y. tells_front s w x y long h) ys))
      xs wide)

  joined_behind : (s w : ℕ) (xs ys : Rows) → Wide w xs → Behind (s + w) → filter (tells s) (joined xs ys) ≡ joined xs (filter (tells (s + w)) ys)
  joined_behind s w xs ys wide h =
      filter-flat_map (tells s) (λ x. map (λ y. x ++ y) ys) xs
      ∙ flat_map_each (λ x. filter (tells s) (map (λ y. x ++ y) ys)) (λ x. map (λ y. x ++ y) (filter (tells (s + w)) ys)) xs
      (each_weaker (λ x. length x ≡ w) (λ x. filter (tells s) (map (λ y. x ++ y) ys) ≡ map (λ y. x ++ y) (filter (tells (s + w)) ys))
      (λ x long. filter-map (tells s) (λ y. x ++ y) ys ∙ ap (map (λ y. x ++ y)) (λ i. filter (λ y. tells_behind s w x y long h i) ys))
      xs wide)

-- ---- the place whose rows are filtered

-- The inputs of a JOIN behind so many columns, the first of them at the place a; and those with the node numbered i at one place, which reads
-- the node numbered x, where its first column stands, and the place.
pub data Place (width : ℕ → ℕ) (c : Typed) (i : ℕ) : ℕ → ℕ → List Keyed → List Keyed → ℕ → ℕ → ℕ → Type 0 where
  here : (s a : ℕ) (k : Keyed) (ks : List Keyed) → Spans c s (width k.input) → Place width c i s a (k ∷ ks) (on_input i k ∷ ks) k.input s a
  later : (s a : ℕ) (k : Keyed) (ks ls : List Keyed) (x first j : ℕ) → Place width c i (s + width k.input) (a + 1) ks ls x first j → Place width c i s a (k ∷ ks) (k ∷ ls) x first j

module _ (width : ℕ → ℕ) (c : Typed) (i : ℕ) where
  abbrev At : ℕ → ℕ → List Keyed → List Keyed → ℕ → ℕ → ℕ → Type 0
  At s a ks ls x first j = Place width c i s a ks ls x first j

  first_behind : (s a : ℕ) (ks ls : List Keyed) (x first j : ℕ) → At s a ks ls x first j → s ≤ first
  first_behind _ _ _ _ _ _ _ (here s a k ks h) = omega arith
  first_behind _ _ _ _ _ _ _ (later s a k ks ls x first j p) = let le = first_behind (s + width k.input) (a + 1) ks ls x first j p in omega (arith, le)

  pub place_behind : (s a : ℕ) (ks ls : List Keyed) (x first j : ℕ) → At s a ks ls x first j → a ≤ j
  place_behind _ _ _ _ _ _ _ (here s a k ks h) = omega arith
  place_behind _ _ _ _ _ _ _ (later s a k ks ls x first j p) = let le = place_behind (s + width k.input) (a + 1) ks ls x first j p in omega (arith, le)

  fields_behind : (s a : ℕ) (ks ls : List Keyed) (x first j : ℕ) → At s a ks ls x first j → AllByRecursion (λ n. first ≤ n) (fields_in c)
  fields_behind _ _ _ _ _ _ _ (here s a k ks h) = each_weaker (λ n. (s ≤ n) × (n < s + width k.input)) (λ n. s ≤ n) (λ n b. b.0) (fields_in c) h
  fields_behind _ _ _ _ _ _ _ (later s a k ks ls x first j p) = fields_behind (s + width k.input) (a + 1) ks ls x first j p

  -- ---- products

  -- the rows of each place, of which one is filtered
  abbrev pub narrow : (Row → Bool) → ℕ → (ℕ → Rows) → ℕ → Rows
  narrow t j rows m = if m == j then filter t (rows m) else rows m

  narrow_at : (t : Row → Bool) (j m : ℕ) (rows : ℕ → Rows) → m ≡ j → narrow t j rows m ≡ filter t (rows m)
  narrow_at t j m rows e = ap (λ b. if b then filter t (rows m) else rows m) (eq-eqb m j e)

  narrow_other : (t : Row → Bool) (j m : ℕ) (rows : ℕ → Rows) → (m ≡ j → ⊥) → narrow t j rows m ≡ rows m
  narrow_other t j m rows h = either_way (m == j) (λ e. absurd (h (eqb-true m j e))) (λ e. ap (λ b. if b then filter t (rows m) else rows m) e)

  narrow_rest : (t : Row → Bool) (j : ℕ) (rows : ℕ → Rows) (b n : ℕ) → j < b → map (narrow t j rows) (range_with_len b n) ≡ map rows (range_with_len b n)
  narrow_rest t j rows b zero h = refl
  narrow_rest t j rows b (suc n) h = λ z. narrow_other t j b rows (λ e. omega (arith, e, h)) z ∷ narrow_rest t j rows (b + 1) n (omega (arith, h)) z

  -- the widths of the places
  abbrev Widths : (ℕ → ℕ) → ℕ → List Keyed → Type 0
  Widths wp a [] = ⊤
  Widths wp a (k ∷ ks) = (wp a ≡ width k.input) × Widths wp (a + 1) ks

  abbrev AreWide : (ℕ → ℕ) → (ℕ → Rows) → Type 0
  AreWide wp rows = (m : ℕ) → AllByRecursion (λ row. length row ≡ wp m) (rows m)

  product_goes : (wp : ℕ → ℕ) (rows : ℕ → Rows) → AreWide wp rows → (s a : ℕ) (ks ls : List Keyed) (x first j : ℕ) → At s a ks ls x first j → Widths wp a ks
      → filter (tells c s) (product (map rows (range_with_len a (length ks)))) ≡ product (map (narrow (tells c first) j rows) (range_with_len a (length ks)))
  product_goes wp rows wide _ _ _ _ _ _ _ (here s a k ks h) widths =
      joined_at c s (width k.input) (rows a) (product (map rows (range_with_len (a + 1) (length ks))))
      (each_weaker (λ row. length row ≡ wp a) (λ row. length row ≡ width k.input) (λ row e. e ∙ widths.0) (rows a) (wide a))
      (each_weaker (λ n. (s ≤ n) × (n < s + width k.input)) (λ n. n < s + width k.input) (λ n b. b.1) (fields_in c) h)
      ∙ (λ z. joined (sym (narrow_at (tells c s) a a rows refl) z) (product (sym (narrow_rest (tells c s) a rows (a + 1) (length ks) (omega arith)) z)))
  product_goes wp rows wide _ _ _ _ _ _ _ (later s a k ks ls x first j p) widths =
      let le = place_behind (s + width k.input) (a + 1) ks ls x first j p in
      let low = first_behind (s + width k.input) (a + 1) ks ls x first j p in
      joined_behind c s (width k.input) (rows a) (product (map rows (range_with_len (a + 1) (length ks))))
      (each_weaker (λ row. length row ≡ wp a) (λ row. length row ≡ width k.input) (λ row e. e ∙ widths.0) (rows a) (wide a))
      (each_weaker (λ n. first ≤ n) (λ n. s + width k.input ≤ n) (λ n b. omega (arith, b, low)) (fields_in c) (fields_behind (s + width k.input) (a + 1) ks ls x first j p))
      ∙ (λ z. joined (sym (narrow_other (tells c first) j a rows (λ e. omega (arith, e, le))) z) (product_goes wp rows wide (s + width k.input) (a + 1) ks ls x first j p widths.1 z))

  -- ---- entries

  abbrev pub is_kept : (Row → Bool) → ℕ → Entry → Bool
  is_kept t j e = if e.input == j then t e.row else true

  abbrev pub kept : (Row → Bool) → ℕ → List Entry → List Entry
  kept t j es = filter (is_kept t j) es

  kept_at : (t : Row → Bool) (j : ℕ) (key : Row → Tree) (rows : Rows) → kept t j (entries_of_input key j rows) ≡ entries_of_input key j (filter t rows)
  kept_at t j key rows =
      filter-map (is_kept t j) (λ row. record { key = key row; input = j; row = row }) rows
      ∙ ap (λ b. map (λ row. record { key = key row; input = j; row = row }) (filter (λ row. if b then t row else true) rows)) (eq-eqb j j refl)

  is_kept_other : (t : Row → Bool) (j : ℕ) (e : Entry) → (e.input ≡ j → ⊥) → is_kept t j e ≡ true
  is_kept_other t j e h = either_way (e.input == j) (λ is. absurd (h (eqb-true e.input j is))) (λ is. ap (λ b. if b then t e.row else true) is)

  kept_other : (t : Row → Bool) (j m : ℕ) (key : Row → Tree) (rows : Rows) → (m ≡ j → ⊥) → kept t j (entries_of_input key m rows) ≡ entries_of_input key m rows
  kept_other t j m key rows h =
      filter_all (is_kept t j) (entries_of_input key m rows)
      (each-map (λ e. is_kept t j e ≡ true) (λ row. record { key = key row; input = m; row = row }) rows
      (each_of_all (λ row. is_kept t j (record { key = key row; input = m; row = row }) ≡ true) (λ row. is_kept_other t j (record { key = key row; input = m; row = row }) h) rows))

  kept_rest : (t : Row → Bool) (j : ℕ) (f : ℕ → Rows) (b : ℕ) (ks : List Keyed) → j < b → kept t j (keyed_entries b ks f) ≡ keyed_entries b ks f
  kept_rest t j f b [] h = refl
  kept_rest t j f b (k ∷ ks) h =
      filter-append (is_kept t j) (entries_of_input (λ row. key_of (keys_of k.keys row)) b (f k.input)) (keyed_entries (b + 1) ks f)
      ∙ (λ z. kept_other t j b (λ row. key_of (keys_of k.keys row)) (f k.input) (λ e. omega (arith, e, h)) z ++ kept_rest t j f (b + 1) ks (omega (arith, h)) z)

  entries_same : (f g : ℕ → Rows) (b : ℕ) (ks : List Keyed) → AllByRecursion (λ k. g k.input ≡ f k.input) ks → keyed_entries b ks g ≡ keyed_entries b ks f
  entries_same f g b [] h = refl
  entries_same f g b (k ∷ ks) h = λ z. entries_of_input (λ row. key_of (keys_of k.keys row)) b (h.0 z) ++ entries_same f g (b + 1) ks h.1 z

  entries_go : (t : Row → Bool) (f g : ℕ → Rows) (s a : ℕ) (ks ls : List Keyed) (x first j : ℕ) → At s a ks ls x first j → g i ≡ filter t (f x)
      → AllByRecursion (λ k. g k.input ≡ f k.input) ks → keyed_entries a ls g ≡ kept t j (keyed_entries a ks f)
  entries_go t f g _ _ _ _ _ _ _ (here s a k ks h) is same =
      (λ z. entries_of_input (λ row. key_of (keys_of k.keys row)) a (is z) ++ entries_same f g (a + 1) ks same.1 z)
      ∙ (λ z. sym (kept_at t a (λ row. key_of (keys_of k.keys row)) (f k.input)) z ++ sym (kept_rest t a f (a + 1) ks (omega arith)) z)
      ∙ sym (filter-append (is_kept t a) (entries_of_input (λ row. key_of (keys_of k.keys row)) a (f k.input)) (keyed_entries (a + 1) ks f))
  entries_go t f g _ _ _ _ _ _ _ (later s a k ks ls x first j p) is same =
      let le = place_behind (s + width k.input) (a + 1) ks ls x first j p in
      (λ z. entries_of_input (λ row. key_of (keys_of k.keys row)) a (same.0 z) ++ entries_go t f g (s + width k.input) (a + 1) ks ls x first j p is same.1 z)
      ∙ ap (λ es. es ++ kept t j (keyed_entries (a + 1) ks f)) (sym (kept_other t j a (λ row. key_of (keys_of k.keys row)) (f k.input) (λ e. omega (arith, e, le))))
      ∙ sym (filter-append (is_kept t j) (entries_of_input (λ row. key_of (keys_of k.keys row)) a (f k.input)) (keyed_entries (a + 1) ks f))

  entries_wide : (wp : ℕ → ℕ) (f : ℕ → Rows) (a : ℕ) (ks : List Keyed) → Widths wp a ks → AllByRecursion (λ k. AllByRecursion (λ row. length row ≡ width k.input) (f k.input)) ks
      → AllByRecursion (λ e. length e.row ≡ wp e.input) (keyed_entries a ks f)
  entries_wide wp f a [] widths wide = tt
  entries_wide wp f a (k ∷ ks) widths wide =
      each-append (λ e. length e.row ≡ wp e.input) (entries_of_input (λ row. key_of (keys_of k.keys row)) a (f k.input)) (keyed_entries (a + 1) ks f)
      (each-map (λ e. length e.row ≡ wp e.input) (λ row. record { key = key_of (keys_of k.keys row); input = a; row = row }) (f k.input)
      (each_weaker (λ row. length row ≡ width k.input) (λ row. length row ≡ wp a) (λ row e. e ∙ sym widths.0) (f k.input) wide.0))
      (entries_wide wp f (a + 1) ks widths.1 wide.1)

  -- such widths by places
  abbrev place_width : ℕ → List Keyed → ℕ → ℕ
  place_width a [] m = 0
  place_width a (k ∷ ks) m = if m == a then width k.input else place_width (a + 1) ks m

  widths_alike : (wp wq : ℕ → ℕ) (b : ℕ) (ks : List Keyed) → ((m : ℕ) → b ≤ m → wq m ≡ wp m) → Widths wp b ks → Widths wq b ks
  widths_alike wp wq b [] same h = tt
  widths_alike wp wq b (k ∷ ks) same h = (same b (omega arith) ∙ h.0, widths_alike wp wq (b + 1) ks (λ m le. same m (omega (arith, le))) h.1)

  widths_are : (a : ℕ) (ks : List Keyed) → Widths (place_width a ks) a ks
  widths_are a [] = tt
  widths_are a (k ∷ ks) = (
    ap (λ b. if b then width k.input else place_width (a + 1) ks a) (eq-eqb a a refl),
    widths_alike (place_width (a + 1) ks) (place_width a (k ∷ ks)) (a + 1) ks
        (λ m le. either_way (m == a) (λ e. let is = eqb-true m a e in absurd (omega (arith, is, le))) (λ e. ap (λ b. if b then width k.input else place_width (a + 1) ks m) e))
        (widths_are (a + 1) ks),
  )

  -- ---- the rows of each key

  module _ (t : Row → Bool) (j : ℕ) where
    test_at : (e : Entry) (m : ℕ) → m ≡ j → (is_kept t j e && (e.input == m)) ≡ ((e.input == m) && t e.row)
    test_at e m is = ap (λ n. is_kept t j e && (e.input == n)) is ∙ by_test (e.input == j) ∙ ap (λ n. (e.input == n) && t e.row) (sym is)
      where
        by_test : (b : Bool) → ((if b then t e.row else true) && b) ≡ (b && t e.row)
        by_test true = turned (t e.row)
          where
            turned : (d : Bool) → (d && true) ≡ d
            turned true = refl
            turned false = refl
        by_test false = refl

    test_other : (e : Entry) (m : ℕ) → (m ≡ j → ⊥) → (is_kept t j e && (e.input == m)) ≡ (e.input == m)
    test_other e m h = either_way (e.input == m)
        (λ is. ap (λ b. b && (e.input == m)) (is_kept_other t j e (λ same. h (sym (eqb-true e.input m is) ∙ same))))
        (λ is. ap (λ b. is_kept t j e && b) is ∙ neither (is_kept t j e) ∙ sym is)
      where
        neither : (b : Bool) → (b && false) ≡ false
        neither true = refl
        neither false = refl

    rows_kept : (es : List Entry) (m : ℕ) → rows_of (kept t j es) m ≡ narrow t j (rows_of es) m
    rows_kept es m = either_way (m == j)
        (λ e.
        let is : m ≡ j = eqb-true m j e in
        ap (λ xs. bag_of (map (λ x. x.row) xs)) (filter-filter (λ x. x.input == m) (is_kept t j) es)
        ∙ ap (λ xs. bag_of (map (λ x. x.row) xs)) (λ z. filter (λ x. test_at x m is z) es)
        ∙ ap (λ xs. bag_of (map (λ x. x.row) xs)) (sym (filter-filter (λ x. t x.row) (λ x. x.input == m) es))
        ∙ ap bag_of (sym (filter-map t (λ x. x.row) (filter (λ x. x.input == m) es)))
        ∙ sort-filter row_cmp row_total t row_same (map (λ x. x.row) (filter (λ x. x.input == m) es))
        ∙ sym (narrow_at t j m (rows_of es) is))
        (λ e.
        let differ : m ≡ j → ⊥ = λ is. true≢false (sym (eq-eqb m j is) ∙ e) in
        ap (λ xs. bag_of (map (λ x. x.row) xs)) (filter-filter (λ x. x.input == m) (is_kept t j) es)
        ∙ ap (λ xs. bag_of (map (λ x. x.row) xs)) (λ z. filter (λ x. test_other x m differ z) es)
        ∙ sym (narrow_other t j m (rows_of es) differ))

    turned : (a b : Bool) → (a && b) ≡ (b && a)
    turned true true = refl
    turned true false = refl
    turned false true = refl
    turned false false = refl

    abbrev has_key : Tree → Entry → Bool
    has_key k x = is_eq (tree_cmp x.key k)

    with_kept : (k : Tree) (es : List Entry) → filter (has_key k) (kept t j es) ≡ kept t j (filter (has_key k) es)
    with_kept k es =
        filter-filter (has_key k) (is_kept t j) es ∙ (λ z. filter (λ x. turned (is_kept t j x) (has_key k x) z) es) ∙ sym (filter-filter (is_kept t j) (has_key k) es)

    -- ---- keys

    no_key : (k : Tree) (es : List Entry) → times tree_cmp k (map (λ x. x.key) es) ≡ 0 → filter (has_key k) es ≡ []
    no_key k [] h = refl
    no_key k (e ∷ es) h = by_test (has_key k e) refl
        (no_key k es (let counted = times-cons tree_cmp k e.key (map (λ x. x.key) es) in omega (arith, counted, h)))
      where
        by_test : (b : Bool) → has_key k e ≡ b → filter (has_key k) es ≡ [] → cond b (e ∷ filter (has_key k) es) (filter (has_key k) es) ≡ []
        by_test false is rest = rest
        by_test true is rest =
            let same : e.key ≡ k = tree_same e.key k (eq_is (tree_cmp e.key k) is) in
            let one : is_eq (tree_cmp k e.key) ≡ true = ap (λ y. is_eq (tree_cmp k y)) same ∙ ap is_eq (tied_itself tree_total k) in
            let counted = times-cons tree_cmp k e.key (map (λ x. x.key) es) in
            let here : ◌≡◌ {A = ℕ} (cond (is_eq (tree_cmp k e.key)) 1 0) 1 = ap (λ b. cond b 1 0) one in
            absurd (omega (arith, counted, here, h))

    fewer : (q : Entry → Bool) (k : Tree) (es : List Entry) → times tree_cmp k (map (λ x. x.key) (filter q es)) ≤ times tree_cmp k (map (λ x. x.key) es)
    fewer q k [] = omega arith
    fewer q k (e ∷ es) = by_test (q e) (fewer q k es)
      where
        by_test : (b : Bool) → times tree_cmp k (map (λ x. x.key) (filter q es)) ≤ times tree_cmp k (map (λ x. x.key) es)
            → times tree_cmp k (map (λ x. x.key) (cond b (e ∷ filter q es) (filter q es))) ≤ times tree_cmp k (map (λ x. x.key) (e ∷ es))
        by_test true le =
            let one = times-cons tree_cmp k e.key (map (λ x. x.key) (filter q es)) in
            let all = times-cons tree_cmp k e.key (map (λ x. x.key) es) in
            omega (arith, one, all, le)
        by_test false le = let all = times-cons tree_cmp k e.key (map (λ x. x.key) es) in omega (arith, all, le)

    flat_where : (g : Tree → Rows) (r : Tree → Bool) → ((k : Tree) → r k ≡ false → g k ≡ []) → (ks : List Tree) → flat_map g ks ≡ flat_map g (filter r ks)
    flat_where g r none [] = refl
    flat_where g r none (k ∷ ks) = by_test (r k) refl (flat_where g r none ks)
      where
        by_test : (b : Bool) → r k ≡ b → flat_map g ks ≡ flat_map g (filter r ks) → flat_map g (k ∷ ks) ≡ flat_map g (cond b (k ∷ filter r ks) (filter r ks))
        by_test true e rest = ap (λ more. g k ++ more) rest
        by_test false e rest = ap (λ more. more ++ flat_map g ks) (none k e) ∙ rest

    module _ (make : Tree → (ℕ → Rows) → Rows) (p : Row → Bool) (wp : ℕ → ℕ)
        (goes : (k : Tree) (rows : ℕ → Rows) → AreWide wp rows → filter p (make k rows) ≡ make k (narrow t j rows))
        (none : (k : Tree) → make k (λ m. []) ≡ []) (es : List Entry) (wide : AllByRecursion (λ e. length e.row ≡ wp e.input) es) where
      left : List Entry
      left = kept t j es

      abbrev made : List Entry → Tree → Rows
      made xs k = make k (rows_of (filter (has_key k) xs))

      rows_wide : (xs : List Entry) → AllByRecursion (λ e. length e.row ≡ wp e.input) xs → AreWide wp (rows_of xs)
      rows_wide xs h m =
          each-sort row_cmp (λ row. length row ≡ wp m) (map (λ x. x.row) (filter (λ x. x.input == m) xs))
          (each-map (λ row. length row ≡ wp m) (λ x. x.row) (filter (λ x. x.input == m) xs) (only xs h))
        where
          only : (ys : List Entry) → AllByRecursion (λ e. length e.row ≡ wp e.input) ys → AllByRecursion (λ x. length x.row ≡ wp m) (filter (λ x. x.input == m) ys)
          only [] g = tt
          only (y ∷ ys) g = by_test (y.input == m) refl (only ys g.1)
            where
              by_test : (b : Bool) → (y.input == m) ≡ b → AllByRecursion (λ x. length x.row ≡ wp m) (filter (λ x. x.input == m) ys)
                  → AllByRecursion (λ x. length x.row ≡ wp m) (cond b (y ∷ filter (λ x. x.input == m) ys) (filter (λ x. x.input == m) ys))
              by_test true e rest = (g.0 ∙ ap wp (eqb-true y.input m e), rest)
              by_test false e rest = rest

      one_key : (k : Tree) → filter p (made es k) ≡ made (kept t j es) k
      one_key k =
          goes k (rows_of (filter (has_key k) es)) (rows_wide (filter (has_key k) es) (each-filter (has_key k) (λ e. length e.row ≡ wp e.input) es wide))
          ∙ ap (make k) (λ z m. sym (rows_kept (filter (has_key k) es) m) z)
          ∙ ap (λ xs. make k (rows_of xs)) (sym (with_kept k es))

      abbrev stays : Tree → Bool
      stays k = nat_lt 0 (times tree_cmp k (map (λ x. x.key) (kept t j es)))

      gone : (k : Tree) → stays k ≡ false → made (kept t j es) k ≡ []
      gone k e =
          let low = ltb-false 0 (times tree_cmp k (map (λ x. x.key) (kept t j es))) e in
          ap (λ xs. make k (rows_of xs)) (no_key k (kept t j es) (omega (arith, low))) ∙ none k

      same_keys : filter stays (distinct tree_cmp (map (λ x. x.key) es)) ≡ distinct tree_cmp (map (λ x. x.key) (kept t j es))
      same_keys =
          filter-distinct tree_cmp tree_total tree_same stays (map (λ x. x.key) es)
          ∙ distinct_same tree_cmp tree_total tree_same (filter stays (map (λ x. x.key) es)) (map (λ x. x.key) (kept t j es))
          (λ z. ap (min 1) (times-filter tree_cmp tree_total tree_same stays z (map (λ x. x.key) es)) ∙ by_test z (stays z) refl)
        where
          by_test : (z : Tree) (b : Bool) → nat_lt 0 (times tree_cmp z (map (λ x. x.key) (filter (is_kept t j) es))) ≡ b
              → min 1 (cond b (times tree_cmp z (map (λ x. x.key) es)) 0) ≡ min 1 (times tree_cmp z (map (λ x. x.key) (filter (is_kept t j) es)))
          by_test z true e =
              let low = ltb-true 0 (times tree_cmp z (map (λ x. x.key) (filter (is_kept t j) es))) e in
              let le = fewer (is_kept t j) z es in
              omega (arith, low, le)
          by_test z false e =
              let low = ltb-false 0 (times tree_cmp z (map (λ x. x.key) (filter (is_kept t j) es))) e in
              omega (arith, low)

      pub gathered_goes : filter p (gathered make es) ≡ gathered make (kept t j es)
      gathered_goes =
          filter-flat_map p (made es) (distinct tree_cmp (map (λ x. x.key) es))
          ∙ flat_map_each (λ k. filter p (made es k)) (made (kept t j es)) (distinct tree_cmp (map (λ x. x.key) es)) (each_of_all (λ k. filter p (made es k) ≡ made (kept t j es) k) one_key (distinct tree_cmp (map (λ x. x.key) es)))
          ∙ flat_where (made (kept t j es)) stays gone (distinct tree_cmp (map (λ x. x.key) es))
          ∙ ap (flat_map (made (kept t j es))) same_keys

  -- ---- what the joins make of a key

  inner_goes : (ks ls : List Keyed) (x first j : ℕ) → At 0 0 ks ls x first j → (k : Tree) (rows : ℕ → Rows) → AreWide (place_width 0 ks) rows
      → filter (tells c 0) (join_of (length ks) k rows) ≡ join_of (length ks) k (narrow (tells c first) j rows)
  inner_goes ks ls x first j p k rows wide = by_null (holds_null k)
    where
      by_null : (b : Bool) → filter (tells c 0) (if b then [] else product (map rows (range_with_len 0 (length ks))))
          ≡ (if b then [] else product (map (narrow (tells c first) j rows) (range_with_len 0 (length ks))))
      by_null true = refl
      by_null false = product_goes (place_width 0 ks) rows wide 0 0 ks ls x first j p (widths_are 0 ks)

  inner_none : (ks ls : List Keyed) (x first j s a : ℕ) → At s a ks ls x first j → (k : Tree) → join_of (length ks) k (λ m. []) ≡ []
  inner_none _ _ _ _ _ _ _ (here s a l ks h) k = by_null (holds_null k)
    where
      by_null : (b : Bool) → ◌≡◌ {A = Rows} (if b then [] else product (map (λ m. []) (range_with_len 0 (length (l ∷ ks))))) []
      by_null true = refl
      by_null false = refl
  inner_none _ _ _ _ _ _ _ (later s a l ks ls x first j p) k = by_null (holds_null k)
    where
      by_null : (b : Bool) → ◌≡◌ {A = Rows} (if b then [] else product (map (λ m. []) (range_with_len 0 (length (l ∷ ks))))) []
      by_null true = refl
      by_null false = refl

  joined_none : (xs : Rows) → joined xs [] ≡ []
  joined_none [] = refl
  joined_none (x ∷ xs) = joined_none xs

  -- LEFT, at the first input
  module _ (m n : ℕ) (h : Spans c 0 m) where
    abbrev left_of : Bool → Rows → Rows → Rows
    left_of null xs ys = if null || is_empty xs || is_empty ys then map (λ row. row ++ nulls n) xs ++ [] else product (xs ∷ ys ∷ [])

    before_m : AllByRecursion (λ f. f < 0 + m) (fields_in c)
    before_m = each_weaker (λ f. (0 ≤ f) × (f < 0 + m)) (λ f. f < 0 + m) (λ f b. b.1) (fields_in c) h

    left_padded : (xs : Rows) → AllByRecursion (λ row. length row ≡ m) xs
        → filter (tells c 0) (map (λ row. row ++ nulls n) xs ++ []) ≡ map (λ row. row ++ nulls n) (filter (tells c 0) xs) ++ []
    left_padded xs wide =
        ap (filter (tells c 0)) (append-nil (map (λ row. row ++ nulls n) xs))
        ∙ filter-map (tells c 0) (λ row. row ++ nulls n) xs
        ∙ ap (map (λ row. row ++ nulls n)) (same_where xs wide)
        ∙ sym (append-nil (map (λ row. row ++ nulls n) (filter (tells c 0) xs)))
      where
        same_where : (ys : Rows) → AllByRecursion (λ row. length row ≡ m) ys → filter (λ row. tells c 0 (row ++ nulls n)) ys ≡ filter (tells c 0) ys
        same_where [] g = refl
        same_where (y ∷ ys) g = λ z. cond (tells_front c 0 m y (nulls n) g.0 before_m z) (y ∷ same_where ys g.1 z) (same_where ys g.1 z)

    left_goes : (null : Bool) (xs ys : Rows) → AllByRecursion (λ row. length row ≡ m) xs → filter (tells c 0) (left_of null xs ys) ≡ left_of null (filter (tells c 0) xs) ys
    left_goes true xs ys wide = left_padded xs wide
    left_goes false [] ys wide = refl
    left_goes false (x ∷ xs) [] wide = left_padded (x ∷ xs) wide ∙ unmatched (filter (tells c 0) (x ∷ xs))
      where
        unmatched : (zs : Rows) → map (λ row. row ++ nulls n) zs ++ [] ≡ left_of false zs []
        unmatched [] = refl
        unmatched (z ∷ zs) = refl
    left_goes false (x ∷ xs) (y ∷ ys) wide =
        joined_at c 0 m (x ∷ xs) (product ((y ∷ ys) ∷ [])) wide before_m ∙ matched (filter (tells c 0) (x ∷ xs))
      where
        matched : (zs : Rows) → joined zs (product ((y ∷ ys) ∷ [])) ≡ left_of false zs (y ∷ ys)
        matched [] = refl
        matched (z ∷ zs) = refl

  -- RIGHT, at the second
  module _ (m n : ℕ) (h : Spans c (0 + m) n) where
    abbrev right_of : Bool → Rows → Rows → Rows
    right_of null xs ys = if null || is_empty xs || is_empty ys then map (λ row. nulls m ++ row) ys else product (xs ∷ ys ∷ [])

    right_padded : (ys : Rows) → filter (tells c 0) (map (λ row. nulls m ++ row) ys) ≡ map (λ row. nulls m ++ row) (filter (tells c (0 + m)) ys)
    right_padded ys =
        filter-map (tells c 0) (λ row. nulls m ++ row) ys
        ∙ (let e : m ≡ 0 + m = omega arith in ap (λ s. map (λ row. nulls m ++ row) (filter (tells c s) ys)) e)

    behind_m : AllByRecursion (λ f. 0 + m ≤ f) (fields_in c)
    behind_m = each_weaker (λ f. (0 + m ≤ f) × (f < 0 + m + n)) (λ f. 0 + m ≤ f) (λ f b. b.0) (fields_in c) h

    before_n : AllByRecursion (λ f. f < 0 + m + n) (fields_in c)
    before_n = each_weaker (λ f. (0 + m ≤ f) × (f < 0 + m + n)) (λ f. f < 0 + m + n) (λ f b. b.1) (fields_in c) h

    right_goes : (null : Bool) (xs ys : Rows) → AllByRecursion (λ row. length row ≡ m) xs → AllByRecursion (λ row. length row ≡ n) ys
        → filter (tells c 0) (right_of null xs ys) ≡ right_of null xs (filter (tells c (0 + m)) ys)
    right_goes true xs ys wide long = right_padded ys
    right_goes false [] ys wide long = right_padded ys
    right_goes false (x ∷ xs) [] wide long = refl
    right_goes false (x ∷ xs) (y ∷ ys) wide long =
        joined_behind c 0 m (x ∷ xs) (product ((y ∷ ys) ∷ [])) wide behind_m
        ∙ ap (joined (x ∷ xs)) (joined_at c (0 + m) n (y ∷ ys) ([] ∷ []) long before_n)
        ∙ matched (filter (tells c (0 + m)) (y ∷ ys))
      where
        matched : (zs : Rows) → joined (x ∷ xs) (joined zs ([] ∷ [])) ≡ right_of false (x ∷ xs) zs
        matched [] = joined_none (x ∷ xs)
        matched (z ∷ zs) = refl

  -- ---- the whole operator

  -- the inputs but for the one that is filtered are what they were
  others : (P : ℕ → Type 0) (s a : ℕ) (ks ls : List Keyed) (x first j : ℕ) → At s a ks ls x first j → P i → AllByRecursion (λ k. P k.input) ks → AllByRecursion P (map (λ k. k.input) ls)
  others P _ _ _ _ _ _ _ (here s a k ks h) own all = (own, each-map P (λ l. l.input) ks all.1)
  others P _ _ _ _ _ _ _ (later s a k ks ls x first j p) own all = (all.0, others P (s + width k.input) (a + 1) ks ls x first j p own all.1)

  same_size : (s a : ℕ) (ks ls : List Keyed) (x first j : ℕ) → At s a ks ls x first j → length ls ≡ length ks
  same_size _ _ _ _ _ _ _ (here s a k ks h) = refl
  same_size _ _ _ _ _ _ _ (later s a k ks ls x first j p) = ap (λ n. suc n) (same_size (s + width k.input) (a + 1) ks ls x first j p)

  module _ (f : ℕ → Rows) (widened : ℕ → ℕ) where
    -- the rows that are read, of which those of one node are filtered
    abbrev after : ℕ → ℕ → ℕ → Rows
    after x first n = if n == i then filter (tells c first) (f x) else f n

    after_own : (x first : ℕ) → after x first i ≡ filter (tells c first) (f x)
    after_own x first = ap (λ b. if b then filter (tells c first) (f x) else f i) (eq-eqb i i refl)

    after_other : (x first n : ℕ) → (n ≡ i → ⊥) → after x first n ≡ f n
    after_other x first n h = either_way (n == i) (λ e. absurd (h (eqb-true n i e))) (λ e. ap (λ b. if b then filter (tells c first) (f x) else f n) e)

    abbrev AllWide : List Keyed → Type 0
    AllWide ks = AllByRecursion (λ k. AllByRecursion (λ row. length row ≡ width k.input) (f k.input)) ks

    abbrev NoneIs : List Keyed → Type 0
    NoneIs ks = AllByRecursion (λ k. k.input ≡ i → ⊥) ks

    unchanged : (x first : ℕ) (ks : List Keyed) → NoneIs ks → AllByRecursion (λ k. after x first k.input ≡ f k.input) ks
    unchanged x first ks h = each_weaker (λ k. k.input ≡ i → ⊥) (λ k. after x first k.input ≡ f k.input) (λ k other. after_other x first k.input other) ks h

    abbrev Goes : Side → List Keyed → List Keyed → ℕ → ℕ → Type 0
    Goes s ks ls x first = join_rows s widened ls (after x first) ≡ filter (tells c 0) (join_rows s width ks f)

    module _ (make : List Keyed → Tree → (ℕ → Rows) → Rows) (ks ls : List Keyed) (x first j : ℕ) (p : At 0 0 ks ls x first j) (wide : AllWide ks) (none : NoneIs ks) where
      gathered_of_goes : ((k : Tree) (rows : ℕ → Rows) → AreWide (place_width 0 ks) rows → filter (tells c 0) (make ks k rows) ≡ make ks k (narrow (tells c first) j rows))
          → ((k : Tree) → make ks k (λ m. []) ≡ []) → gathered (make ks) (keyed_entries 0 ls (after x first)) ≡ filter (tells c 0) (gathered (make ks) (keyed_entries 0 ks f))
      gathered_of_goes goes nothing =
          ap (gathered (make ks)) (entries_go (tells c first) f (after x first) 0 0 ks ls x first j p (after_own x first) (unchanged x first ks none))
          ∙ sym (gathered_goes (tells c first) j (make ks) (tells c 0) (place_width 0 ks) goes nothing (keyed_entries 0 ks f)
          (entries_wide (place_width 0 ks) f 0 ks (widths_are 0 ks) wide))

    join_goes : (s : Side) (ks ls : List Keyed) (x first j : ℕ) → At 0 0 ks ls x first j → opens s j ≡ true → AllWide ks → NoneIs ks → widened i ≡ width x
        → AllByRecursion (λ k. widened k.input ≡ width k.input) ks → Goes s ks ls x first
    join_goes side.Inner ks ls x first j p opened wide none own same =
        ap (λ n. gathered (join_of n) (keyed_entries 0 ls (after x first))) (same_size 0 0 ks ls x first j p)
        ∙ gathered_of_goes (λ ms. join_of (length ms)) ks ls x first j p wide none (inner_goes ks ls x first j p) (λ k. inner_none ks ls x first j 0 0 p k)
    join_goes side.Full ks ls x first j p opened wide none own same = absurd (true≢false (sym opened))
    join_goes side.Left _ _ _ _ _ (here s a k [] h) opened wide none own same = refl
    join_goes side.Left _ _ _ _ _ (here s a k (b ∷ ks) h) opened wide none own same =
        (λ z. gathered (outer_of side.Left (own z) (same.1.0 z)) (keyed_entries 0 (on_input i k ∷ b ∷ ks) (after k.input 0)))
        ∙ gathered_of_goes (λ ms. outer_of side.Left (width k.input) (width b.input)) (k ∷ b ∷ ks) (on_input i k ∷ b ∷ ks) k.input 0 0 (here 0 0 k (b ∷ ks) h) wide none
        (λ key rows long. left_goes (width k.input) (width b.input) h (holds_null key) (rows 0) (rows 1) (long 0))
        (λ key. nothing (holds_null key))
      where
        nothing : (b : Bool) → ◌≡◌ {A = Rows} (if b || true || true then [] else []) []
        nothing true = refl
        nothing false = refl
    join_goes side.Left _ _ _ _ _ (later s a k ks ls x first j p) opened wide none own same =
        let le = place_behind (s + width k.input) (a + 1) ks ls x first j p in
        let is = eqb-true j 0 opened in
        absurd (omega (arith, le, is))
    join_goes side.Right _ _ _ _ _ (here s a k ks h) opened wide none own same = absurd (omega (arith, eqb-true 0 1 opened))
    join_goes side.Right _ _ _ _ _ (later s a k _ _ _ _ _ (here s2 b l ks h)) opened wide none own same =
        (λ z. gathered (outer_of side.Right (same.0 z) (own z)) (keyed_entries 0 (k ∷ on_input i l ∷ ks) (after l.input (0 + width k.input))))
        ∙ gathered_of_goes (λ ms. outer_of side.Right (width k.input) (width l.input)) (k ∷ l ∷ ks) (k ∷ on_input i l ∷ ks) l.input (0 + width k.input) 1 (later 0 0 k (l ∷ ks) (on_input i l ∷ ks) l.input (0 + width k.input) 1 (here (0 + width k.input) 1 l ks h)) wide none
        (λ key rows long. right_goes (width k.input) (width l.input) h (holds_null key) (rows 0) (rows 1) (long 0) (long 1))
        (λ key. nothing (holds_null key))
      where
        nothing : (b : Bool) → ◌≡◌ {A = Rows} (if b || true || true then [] else []) []
        nothing true = refl
        nothing false = refl
    join_goes side.Right _ _ _ _ _ (later s a k _ _ _ _ _ (later s2 b l ks ls x first j p)) opened wide none own same =
        let le = place_behind (s2 + width l.input) (b + 1) ks ls x first j p in
        let is = eqb-true j 1 opened in
        absurd (omega (arith, le, is))

    abbrev goes_as : ℕ → Typed
    goes_as first = put (λ n. x_field (n - first)) c

    pub filter_below_join : (g : ℕ → Rows) (s : Side) (ks ls : List Keyed) (x first j : ℕ) → At 0 0 ks ls x first j → opens s j ≡ true → AllWide ks → NoneIs ks → widened i ≡ width x
        → AllByRecursion (λ k. widened k.input ≡ width k.input) ks → g i ≡ bag_of (filter_rows (put (λ n. x_field (n - first)) c) (f x)) → AllByRecursion (λ k. g k.input ≡ f k.input) ks
        → bag_of (join_rows s widened ls g) ≡ bag_of (filter_rows c (bag_of (join_rows s width ks f)))
    filter_below_join g s ks ls x first j p opened wide none own same filtered kept_same =
        let moved : filter_rows (goes_as first) (f x) ≡ filter (tells c first) (f x) = λ z. filter (λ row. tells_moved c first row (fields_behind 0 0 ks ls x first j p) z) (f x) in
        let at_own : bag_of (g i) ≡ bag_of (after x first i) =
        ap bag_of filtered ∙ bag_once row_cmp row_total (filter_rows (goes_as first) (f x)) ∙ ap bag_of moved ∙ ap bag_of (sym (after_own x first)) in
        let at_others : AllByRecursion (λ k. bag_of (g k.input) ≡ bag_of (after x first k.input)) ks =
        each_two ks kept_same (unchanged x first ks none) in
        seen g (after x first) (record { inputs = []; kept = λ n. []; width = widened; sorted = λ n. false }) 0 (p_join ls s false) refl
        (others (λ n. bag_of (g n) ≡ bag_of (after x first n)) 0 0 ks ls x first j p at_own at_others)
        ∙ ap bag_of (join_goes s ks ls x first j p opened wide none own same)
        ∙ sym (filter_sorted (passes c) (join_rows s width ks f))
      where
        each_two : (ms : List Keyed) → AllByRecursion (λ k. g k.input ≡ f k.input) ms → AllByRecursion (λ k. after x first k.input ≡ f k.input) ms
            → AllByRecursion (λ k. bag_of (g k.input) ≡ bag_of (after x first k.input)) ms
        each_two [] a b = tt
        each_two (m ∷ ms) a b = (ap bag_of (a.0 ∙ sym b.0), each_two ms a.1 b.1)
