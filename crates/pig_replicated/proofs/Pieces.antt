-- What the probes of any rows of the first input give is the JOIN of just these rows with the other inputs; and so, over the pieces
-- of the first input, what is the JOIN of each piece is together the JOIN of the whole.
use Rattle.std.specs.Prelude.{◌≡◌, ◌+◌, ℕ, zero, suc, List, [], ◌∷◌, ◌++◌, map, length, Option, None, Some, slice_get, refl}
use Rattle.std.proofs.Common.{ap, sym, ◌∙◌, arith, append-nil}
use Rattle.std.specs.List.{flat_map}
use Rattle.std.specs.Option.{option_map_or}
use Rattle.std.proofs.lemmas.List.Folds.{flat_map-map}
use Rattle.pig_value.specs.declared.operators.Side.TheVariants as side
use Rattle.pig_value.specs.Gathering.{Entry}
use Rattle.pig_value.specs.Orders.{bag_of, row_cmp}
use Rattle.pig_value.specs.Trees.{Tree, v_null}
use Rattle.pig_value.proofs.OrderLaws.{row_same, row_total}
use Rattle.pig_value.proofs.list_laws.Bags.{sort-append}
use Rattle.pig_plan.specs.ByKey.{entries_of_input, gathered, join_of, key_of, outer_of}
use Rattle.pig_plan.specs.Entries.{from_inputs, keyed_at}
use Rattle.pig_plan.specs.Operators.{join_rows, keyed_entries, keys_of}
use Rattle.pig_plan.specs.Plans.{Keyed}
use Rattle.pig_replicated.specs.Holding.{key_in, lookup_of}
use Rattle.pig_replicated.specs.Joining.{probed, sides_of}
use Rattle.pig_replicated.proofs.Probed.{inner_joins, left_joins}

abbrev Rows : Type 0
Rows = List (List Tree)

-- ---- inputs by their places

abbrev numbered : ℕ → Keyed → Keyed
numbered j input = record { input = j; keys = input.keys; inner = input.inner }

abbrev placed : ℕ → List Keyed → List Keyed
placed j [] = []
placed j (input ∷ inputs) = numbered j input ∷ placed (suc j) inputs

placed_size : (j : ℕ) (inputs : List Keyed) → length (placed j inputs) ≡ length inputs
placed_size j [] = refl
placed_size j (input ∷ inputs) = ap suc (placed_size (suc j) inputs)

module _ (places rows : ℕ → Rows) where
  -- at each place the rows of the input there
  abbrev AreThere : ℕ → List Keyed → Type 0
  AreThere j inputs = (n : ℕ) (input : Keyed) → slice_get inputs n ≡ Some input → places (j + n) ≡ rows input.input

  here : (j : ℕ) (input : Keyed) (inputs : List Keyed) → AreThere j (input ∷ inputs) → places j ≡ rows input.input
  here j input inputs there = (let e : j ≡ j + 0 = omega arith in ap places e) ∙ there 0 input refl

  behind : (j : ℕ) (input : Keyed) (inputs : List Keyed) → AreThere j (input ∷ inputs) → AreThere (suc j) inputs
  behind j input inputs there n other at = (let e : suc j + n ≡ j + suc n = omega arith in ap places e) ∙ there (suc n) other at

  placed_sides : (j : ℕ) (inputs : List Keyed) → AreThere j inputs → sides_of (placed j inputs) places ≡ sides_of inputs rows
  placed_sides j [] there = refl
  placed_sides j (input ∷ inputs) there =
      λ i. lookup_of input.keys (here j input inputs there i) ∷ placed_sides (suc j) inputs (behind j input inputs there) i

  placed_entries : (i j : ℕ) (inputs : List Keyed) → AreThere j inputs → keyed_entries i (placed j inputs) places ≡ keyed_entries i inputs rows
  placed_entries i j [] there = refl
  placed_entries i j (input ∷ inputs) there =
      λ l. entries_of_input (key_in input.keys) i (here j input inputs there l) ++ placed_entries (i + 1) (suc j) inputs (behind j input inputs there) l

-- the entries of inputs from a place on, by their keys among all
pub entries_in_turn : (whole : List Keyed) (rows : ℕ → Rows) (i : ℕ) (inputs : List Keyed) → ((j : ℕ) → slice_get whole (i + j) ≡ slice_get inputs j)
    → from_inputs (λ n found. entries_of_input (keyed_at whole n) n found) i (map (λ input. input.input) inputs) rows ≡ keyed_entries i inputs rows
entries_in_turn whole rows i [] at = refl
entries_in_turn whole rows i (input ∷ inputs) at =
    let own : slice_get whole i ≡ Some input = (let e : i ≡ i + 0 = omega arith in ap (slice_get whole) e) ∙ at 0 in
    let later = entries_in_turn whole rows (i + 1) inputs (λ j. (let e : i + 1 + j ≡ i + suc j = omega arith in ap (slice_get whole) e) ∙ at (suc j)) in
    λ l. entries_of_input (λ row. option_map_or (λ found. key_of (keys_of found.keys row)) (own l) v_null) i (rows input.input) ++ later l

-- ---- any pieces

-- what is the same as a bag of each is so of all
bags_each : {T : Type 0} (f g : T → Rows) → ((t : T) → bag_of (f t) ≡ bag_of (g t)) → (ts : List T) → bag_of (flat_map f ts) ≡ bag_of (flat_map g ts)
bags_each f g same [] = refl
bags_each f g same (t ∷ ts) = sort-append row_cmp row_total row_same (f t) (g t) (flat_map f ts) (flat_map g ts) (same t) (bags_each f g same ts)

module _ (first second : Keyed) (others : List Keyed) (rows : ℕ → Rows) where
  abbrev rest : List Keyed
  rest = second ∷ others

  -- the entries of rows of the first input, and behind them those of the others
  abbrev pub piece_entries : Rows → List Entry
  piece_entries piece = entries_of_input (key_in first.keys) 0 piece ++ keyed_entries 1 rest rows

  abbrev by_place : Rows → ℕ → Rows
  by_place piece zero = piece
  by_place piece (suc n) = option_map_or (λ input. rows input.input) (slice_get rest n) []

  are_there : (piece : Rows) → AreThere (by_place piece) rows 1 rest
  are_there piece n input at = (let e : 1 + n ≡ suc n = omega arith in ap (by_place piece) e) ∙ ap (λ found. option_map_or {T = Keyed} (λ i. rows i.input) found []) at

  module _ (fill : Option ℕ) where
    abbrev pub probe : Rows → Rows
    probe piece = probed (sides_of rest rows) fill first.keys piece

    -- by the law over inputs that are numbered by their places
    from_law : (made : Rows) (piece : Rows) → bag_of (flat_map (probed (sides_of (placed 1 rest) (by_place piece)) fill first.keys) (piece ∷ [])) ≡ bag_of made → bag_of (probe piece) ≡ bag_of made
    from_law made piece law =
        ap bag_of (sym (append-nil (probe piece)))
        ∙ ap (λ sides. bag_of (probed sides fill first.keys piece ++ [])) (sym (placed_sides (by_place piece) rows 1 rest (are_there piece)))
        ∙ law

    -- where each of some things is made of a piece
    module _ {T : Type 0} (piece made : T → Rows) (make : Tree → (ℕ → Rows) → Rows) (one : (found : Rows) → bag_of (probe found) ≡ bag_of (gathered make (piece_entries found)))
        (each : (t : T) → bag_of (made t) ≡ bag_of (gathered make (piece_entries (piece t)))) (ts : List T) where
      together : (joined : Rows) → bag_of (flat_map probe (map piece ts)) ≡ bag_of joined → bag_of (flat_map made ts) ≡ bag_of joined
      together joined law =
          bags_each made (λ t. probe (piece t)) (λ t. each t ∙ sym (one (piece t))) ts
          ∙ ap bag_of (sym (flat_map-map probe piece ts))
          ∙ law

  cut_once : (piece : Rows) → bag_of (flat_map (λ found. found) (piece ∷ [])) ≡ bag_of piece
  cut_once piece = ap bag_of (append-nil piece)

  pub one_inner : (piece : Rows) → bag_of (probe None piece) ≡ bag_of (gathered (join_of (length (first ∷ rest))) (piece_entries piece))
  one_inner piece =
      from_law None (gathered (join_of (length (first ∷ rest))) (piece_entries piece)) piece
      (inner_joins (numbered 0 first) (numbered 1 second) (placed 2 others) (λ n. 0) (by_place piece) (piece ∷ []) (cut_once piece)
      ∙ (λ l. bag_of (gathered (join_of (suc (suc (placed_size 2 others l)))) (entries_of_input (key_in first.keys) 0 piece ++ placed_entries (by_place piece) rows 1 1 rest (are_there piece) l))))

  -- what is the inner JOIN of each piece is together the JOIN of the whole
  pub inner_together : (width : ℕ → ℕ) {T : Type 0} (piece made : T → Rows)
      → ((t : T) → bag_of (made t) ≡ bag_of (gathered (join_of (length (first ∷ rest))) (piece_entries (piece t))))
      → (ts : List T) → bag_of (flat_map piece ts) ≡ bag_of (rows first.input) → bag_of (flat_map made ts) ≡ bag_of (join_rows side.Inner width (first ∷ rest) rows)
  inner_together width piece made each ts cut =
      together None piece made (join_of (length (first ∷ rest))) one_inner each ts (join_rows side.Inner width (first ∷ rest) rows)
      (inner_joins first second others width rows (map piece ts) (ap bag_of (flat_map-map (λ found. found) piece ts) ∙ cut))

module _ (first second : Keyed) (rows : ℕ → Rows) (width : ℕ → ℕ) where
  abbrev widths : ℕ → ℕ
  widths zero = width first.input
  widths (suc n) = width second.input

  abbrev make : Tree → (ℕ → Rows) → Rows
  make = outer_of side.Left (width first.input) (width second.input)

  pub one_left : (piece : Rows) → bag_of (probe first second [] rows (Some (width second.input)) piece) ≡ bag_of (gathered make (piece_entries first second [] rows piece))
  one_left piece =
      from_law first second [] rows (Some (width second.input)) (gathered make (piece_entries first second [] rows piece)) piece
      (left_joins (numbered 0 first) (numbered 1 second) widths (by_place first second [] rows piece) (piece ∷ []) (cut_once first second [] rows piece)
      ∙ (λ l. bag_of (gathered make (entries_of_input (key_in first.keys) 0 piece ++ placed_entries (by_place first second [] rows piece) rows 1 1 (second ∷ []) (are_there first second [] rows piece) l))))

  -- and so with LEFT
  pub left_together : {T : Type 0} (piece made : T → Rows)
      → ((t : T) → bag_of (made t) ≡ bag_of (gathered make (piece_entries first second [] rows (piece t))))
      → (ts : List T) → bag_of (flat_map piece ts) ≡ bag_of (rows first.input) → bag_of (flat_map made ts) ≡ bag_of (join_rows side.Left width (first ∷ second ∷ []) rows)
  left_together piece made each ts cut =
      together first second [] rows (Some (width second.input)) piece made make one_left each ts (join_rows side.Left width (first ∷ second ∷ []) rows)
      (left_joins first second width rows (map piece ts) (ap bag_of (flat_map-map (λ found. found) piece ts) ∙ cut))
