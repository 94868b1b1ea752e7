-- The probes of all rows of the first input give what the JOIN of the inputs gives, as a bag.
use Rattle.std.specs.Prelude.{◌≡◌, ◌≤◌, ℕ, List, [], ◌∷◌, ◌++◌, map, length, Some, None}
use Rattle.std.proofs.Common.{ap, sym, ◌∙◌, subst, arith}
use Rattle.std.specs.List.{flat_map}
use Rattle.std.specs.List.Sorted.{IsPermutation}
use Rattle.std.specs.Ordering.{is_eq}
use Rattle.std.proofs.lemmas.List.{map-append}
use Rattle.std.proofs.lemmas.Simd.{map-map}
use Rattle.std.proofs.lemmas.List.Sorted.{IsPermutation-sym, IsPermutation-trans}
use Rattle.pig_value.specs.declared.operators.Side.TheVariants as side
use Rattle.pig_value.specs.Gathering.{Entry, with_key}
use Rattle.pig_value.specs.Orders.{bag_of, row_cmp, tree_cmp}
use Rattle.pig_value.specs.Sorts.{distinct, times}
use Rattle.pig_value.specs.Trees.{Tree}
use Rattle.pig_value.proofs.OrderLaws.{row_same, row_total, tree_same, tree_total}
use Rattle.pig_value.proofs.list_laws.Bags.{bag_from_permutation, eq_is, permutation_from_bag, sort_permutes, times-append}
use Rattle.pig_value.proofs.list_laws.Distinct.{times-distinct}
use Rattle.pig_value.proofs.list_laws.Listing.{each_of_all, flat_map-flat_map, flat_map_each, flat_map_where}
use Rattle.pig_value.proofs.list_laws.Permutations.{IsPermutation-flat_map, IsPermutation-flat_map_each, IsPermutation-same}
use Rattle.pig_plan.specs.ByKey.{entries_of_input, gathered, join_of, outer_of, rows_of}
use Rattle.pig_plan.specs.Operators.{keyed_entries}
use Rattle.pig_plan.specs.Plans.{Keyed}
use Rattle.pig_replicated.specs.Holding.{key_in}
use Rattle.pig_replicated.specs.Joining.{probe_rows, sides_of}
use Rattle.pig_replicated.specs.Laws.{AreCutFrom, ProbesGiveInnerJoins, ProbesGiveLeftJoins}
use Rattle.pig_replicated.proofs.ByKeys.{by_keys_are, key_there}
use Rattle.pig_replicated.proofs.Joined.{inner_of_key, left_of_key}
use Rattle.pig_replicated.proofs.Sides.{of_key}

abbrev Row : Type 0
Row = List Tree

module _ (first : Keyed) (others : List Keyed) (rows : ℕ → List Row) where
  abbrev key : Row → Tree
  key = key_in first.keys

  abbrev all : List Entry
  all = keyed_entries 0 (first ∷ others) rows

  abbrev keys : List Tree
  keys = distinct tree_cmp (map (λ e. e.key) all)

  abbrev firsts : Tree → List Row
  firsts k = of_key key k (rows first.input)

  keys_once : (z : Row) → 1 ≤ times row_cmp z (rows first.input) → times tree_cmp (key z) keys ≡ 1
  keys_once z h =
      let own = entries_of_input key 0 (rows first.input) in
      let later = keyed_entries 1 others rows in
      let counted = times-distinct tree_cmp tree_total tree_same (key z) (map (λ e. e.key) all) in
      let both : map (λ e. e.key) all ≡ map key (rows first.input) ++ map (λ e. e.key) later =
      map-append (λ e. e.key) own later ∙ ap (λ ks. ks ++ map (λ e. e.key) later) (map-map (λ e. e.key) (λ row. record { key = key row; input = 0; row = row }) (rows first.input))
      in
      let there = key_there key z (rows first.input) h in
      let more = times-append tree_cmp (key z) (map key (rows first.input)) (map (λ e. e.key) later) in
      let many : 1 ≤ times tree_cmp (key z) (map (λ e. e.key) all) = subst (λ ks. 1 ≤ times tree_cmp (key z) ks) (sym both) (omega (arith, more, there)) in
      omega (arith, counted, many)

  module _ (make : Tree → (ℕ → List Row) → List Row) (gives : Tree → Row → List Row)
      (made : (k : Tree) → make k (rows_of (with_key tree_cmp (λ e. e.key) k all)) ≡ flat_map (gives k) (bag_of (firsts k))) where
    abbrev of_row : Row → List Row
    of_row x = gives (key x) x

    -- of each key what its rows give
    by_key_gives : IsPermutation (gathered make all) (flat_map (λ k. flat_map (gives k) (firsts k)) keys)
    by_key_gives =
        IsPermutation-flat_map_each (λ k. make k (rows_of (with_key tree_cmp (λ e. e.key) k all))) (λ k. flat_map (gives k) (firsts k))
        (λ k. IsPermutation-trans (make k (rows_of (with_key tree_cmp (λ e. e.key) k all))) (flat_map (gives k) (bag_of (firsts k))) (flat_map (gives k) (firsts k))
        (IsPermutation-same _ _ (made k))
        (IsPermutation-flat_map (gives k) (bag_of (firsts k)) (firsts k) (IsPermutation-sym (firsts k) (bag_of (firsts k)) (sort_permutes row_cmp (firsts k))))) keys

    own_keys : flat_map (λ k. flat_map (gives k) (firsts k)) keys ≡ flat_map of_row (flat_map firsts keys)
    own_keys =
        flat_map_each (λ k. flat_map (gives k) (firsts k)) (λ k. flat_map of_row (firsts k)) keys
        (each_of_all (λ k. flat_map (gives k) (firsts k) ≡ flat_map of_row (firsts k))
        (λ k. flat_map_where (λ x. is_eq (tree_cmp (key x) k)) (gives k) of_row (λ x e. ap (λ l. gives l x) (sym (tree_same (key x) k (eq_is (tree_cmp (key x) k) e)))) (rows first.input)) keys)
        ∙ sym (flat_map-flat_map of_row firsts keys)

    -- and so of each row
    pub by_rows : IsPermutation (gathered make all) (flat_map of_row (rows first.input))
    by_rows =
        IsPermutation-trans (gathered make all) (flat_map (λ k. flat_map (gives k) (firsts k)) keys) (flat_map of_row (rows first.input)) by_key_gives
        (IsPermutation-trans (flat_map (λ k. flat_map (gives k) (firsts k)) keys) (flat_map of_row (flat_map firsts keys)) (flat_map of_row (rows first.input))
        (IsPermutation-same _ _ own_keys)
        (IsPermutation-flat_map of_row (flat_map firsts keys) (rows first.input) (by_keys_are key keys (rows first.input) keys_once)))

    -- in whatever lists they come
    pub by_pieces : (pieces : List (List Row)) → AreCutFrom (rows first.input) pieces → bag_of (flat_map (flat_map of_row) pieces) ≡ bag_of (gathered make all)
    by_pieces pieces cut =
        let whole = flat_map (λ piece. piece) pieces in
        ap bag_of (sym (flat_map-flat_map of_row (λ piece. piece) pieces))
        ∙ bag_from_permutation row_cmp row_total row_same (flat_map of_row whole) (flat_map of_row (rows first.input))
        (IsPermutation-flat_map of_row whole (rows first.input) (permutation_from_bag row_cmp whole (rows first.input) cut))
        ∙ sym (bag_from_permutation row_cmp row_total row_same (gathered make all) (flat_map of_row (rows first.input)) by_rows)

pub inner_joins : ProbesGiveInnerJoins
inner_joins first second others width rows pieces cut =
    by_pieces first (second ∷ others) rows (join_of (length (first ∷ second ∷ others))) (probe_rows (sides_of (second ∷ others) rows) None)
    (λ k. inner_of_key rows k first second others) pieces cut

pub left_joins : ProbesGiveLeftJoins
left_joins first second width rows pieces cut =
    by_pieces first (second ∷ []) rows (outer_of side.Left (width first.input) (width second.input)) (probe_rows (sides_of (second ∷ []) rows) (Some (width second.input)))
    (λ k. left_of_key rows k (width first.input) (width second.input) first second) pieces cut
