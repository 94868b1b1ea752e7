-- The rows of a key among the entries of all inputs: those of each input in turn.
use Rattle.std.specs.Prelude.{◌≡◌, ◌<◌, ◌≤◌, ◌+◌, ◌==◌, ℕ, true, false, List, [], ◌∷◌, ◌++◌, map, length, refl}
use Rattle.std.proofs.Common.{ap, sym, ◌∙◌, arith, append-nil, append_assoc}
use Rattle.std.specs.List.{filter, range_with_len}
use Rattle.std.specs.Ordering.{is_eq}
use Rattle.std.proofs.lemmas.Bool.{eq-eqb, ne_eqb}
use Rattle.std.proofs.lemmas.List.{map-append, map-id}
use Rattle.std.proofs.lemmas.List.Elements.{filter-append}
use Rattle.std.proofs.lemmas.Simd.{map-map}
use Rattle.pig_value.specs.Gathering.{Entry, with_key}
use Rattle.pig_value.specs.Orders.{bag_of, tree_cmp}
use Rattle.pig_value.specs.Trees.{Tree}
use Rattle.pig_value.proofs.list_laws.Listing.{each_of_all, filter-map, filter_all, filter_none}
use Rattle.pig_plan.specs.ByKey.{entries_of_input, rows_of}
use Rattle.pig_plan.specs.Operators.{keyed_entries}
use Rattle.pig_plan.specs.Plans.{Keyed}
use Rattle.pig_replicated.specs.Holding.{key_in}

abbrev Row : Type 0
Row = List Tree

abbrev pub of_key : (Row → Tree) → Tree → List Row → List Row
of_key key k rows = filter (λ x. is_eq (tree_cmp (key x) k)) rows

module _ (k : Tree) where
  -- the rows of the input numbered i with the key, among entries
  abbrev these : ℕ → List Entry → List Row
  these i entries = map (λ e. e.row) (filter (λ e. e.input == i) (with_key tree_cmp (λ e. e.key) k entries))

  these-append : (i : ℕ) (us vs : List Entry) → these i (us ++ vs) ≡ these i us ++ these i vs
  these-append i us vs =
      let kept_us = with_key tree_cmp (λ e. e.key) k us in
      let kept_vs = with_key tree_cmp (λ e. e.key) k vs in
      ap (λ ws. map (λ e. e.row) (filter (λ e. e.input == i) ws)) (filter-append (λ e. is_eq (tree_cmp e.key k)) us vs)
      ∙ ap (map (λ e. e.row)) (filter-append (λ e. e.input == i) kept_us kept_vs)
      ∙ map-append (λ e. e.row) (filter (λ e. e.input == i) kept_us) (filter (λ e. e.input == i) kept_vs)

  module _ (key : Row → Tree) (j : ℕ) (rows : List Row) where
    abbrev entry : Row → Entry
    entry row = record { key = key row; input = j; row = row }

    -- those of one input's entries
    these_of : (i : ℕ) → these i (entries_of_input key j rows) ≡ filter (λ row. j == i) (of_key key k rows)
    these_of i =
        let found = filter (λ row. j == i) (of_key key k rows) in
        ap (λ ws. map (λ e. e.row) (filter (λ e. e.input == i) ws)) (filter-map (λ e. is_eq (tree_cmp e.key k)) entry rows)
        ∙ ap (map (λ e. e.row)) (filter-map (λ e. e.input == i) entry (of_key key k rows))
        ∙ map-map (λ e. e.row) entry found
        ∙ map-id found

    these_own : these j (entries_of_input key j rows) ≡ of_key key k rows
    these_own = these_of j ∙ filter_all (λ row. j == j) (of_key key k rows) (each_of_all (λ row. (j == j) ≡ true) (λ row. eq-eqb j j refl) (of_key key k rows))

    these_other : (i : ℕ) → (j ≡ i → ⊥) → these i (entries_of_input key j rows) ≡ []
    these_other i other = these_of i ∙ filter_none (λ row. j == i) (of_key key k rows) (each_of_all (λ row. (j == i) ≡ false) (λ row. ne_eqb j i other) (of_key key k rows))

  module _ (rows : ℕ → List Row) where
    abbrev of_input : Keyed → List Row
    of_input input = of_key (key_in input.keys) k (rows input.input)

    -- the entries from the input numbered m on hold none of an earlier one
    these_later : (i m : ℕ) (inputs : List Keyed) → i < m → these i (keyed_entries m inputs rows) ≡ []
    these_later i m [] low = refl
    these_later i m (input ∷ inputs) low =
        let front = entries_of_input (key_in input.keys) m (rows input.input) in
        these-append i front (keyed_entries (m + 1) inputs rows)
        ∙ (λ n. these_other (key_in input.keys) m (rows input.input) i (λ same. omega (arith, low, same)) n ++ these_later i (m + 1) inputs (omega (arith, low)) n)

    -- behind entries that hold none of these inputs, each input's rows
    in_turn : (m : ℕ) (inputs : List Keyed) (front : List Entry) → ((j : ℕ) → m ≤ j → these j front ≡ [])
        → map (λ j. these j (front ++ keyed_entries m inputs rows)) (range_with_len m (length inputs)) ≡ map of_input inputs
    in_turn m [] front none = refl
    in_turn m (input ∷ inputs) front none =
        let own = entries_of_input (key_in input.keys) m (rows input.input) in
        let later = keyed_entries (m + 1) inputs rows in
        let here : these m (front ++ (own ++ later)) ≡ of_input input =
        these-append m front (own ++ later)
        ∙ (λ n. none m (omega arith) n ++ these-append m own later n)
        ∙ (λ n. these_own (key_in input.keys) m (rows input.input) n ++ these_later m (m + 1) inputs (omega arith) n)
        ∙ append-nil (of_input input)
        in
        let others : map (λ j. these j (front ++ (own ++ later))) (range_with_len (m + 1) (length inputs)) ≡ map of_input inputs =
        ap (λ es. map (λ j. these j es) (range_with_len (m + 1) (length inputs))) (sym (append_assoc front own later))
        ∙ in_turn (m + 1) inputs (front ++ own)
        (λ j high. these-append j front own
        ∙ (λ n. none j (omega (arith, high)) n ++ these_other (key_in input.keys) m (rows input.input) j (λ same. omega (arith, high, same)) n))
        in
        λ n. here n ∷ others n

    -- the bag of each input's rows
    pub bags_in_turn : (inputs : List Keyed)
        → map (rows_of (with_key tree_cmp (λ e. e.key) k (keyed_entries 0 inputs rows))) (range_with_len 0 (length inputs)) ≡ map (λ input. bag_of (of_input input)) inputs
    bags_in_turn inputs =
        sym (map-map bag_of (λ j. these j (keyed_entries 0 inputs rows)) (range_with_len 0 (length inputs)))
        ∙ ap (map bag_of) (in_turn 0 inputs [] (λ j low. refl))
        ∙ map-map bag_of of_input inputs
