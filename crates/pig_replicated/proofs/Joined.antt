-- What a JOIN by key makes of one key: what the probes of the first input's rows with this key give.
use Rattle.std.specs.Prelude.{◌≡◌, ◌||◌, ℕ, Bool, true, false, List, [], ◌∷◌, ◌++◌, map, length, Some, None, get_or, refl, if◌then◌else◌}
use Rattle.std.proofs.Common.{ap, sym, ◌∙◌}
use Rattle.std.specs.List.{flat_map}
use Rattle.std.proofs.lemmas.Simd.{map-map}
use Rattle.pig_value.specs.declared.operators.Side.TheVariants as side
use Rattle.pig_value.specs.Gathering.{with_key}
use Rattle.pig_value.specs.Orders.{bag_of, tree_cmp}
use Rattle.pig_value.specs.Trees.{Tree}
use Rattle.pig_value.proofs.list_laws.Listing.{each_of_all, flat_map_none, map_each}
use Rattle.pig_typed.specs.Products.{joined, product}
use Rattle.pig_plan.specs.ByKey.{holds_null, is_empty, join_of, nulls, outer_of, rows_of}
use Rattle.pig_plan.specs.Operators.{keyed_entries}
use Rattle.pig_plan.specs.Plans.{Keyed}
use Rattle.pig_replicated.specs.Holding.{key_in, lookup_of, matches_in}
use Rattle.pig_replicated.specs.Joining.{or_alone, probe_rows, sides_of}
use Rattle.pig_replicated.proofs.Held.{found_rows}
use Rattle.pig_replicated.proofs.Sides.{bags_in_turn, of_key}

abbrev Row : Type 0
Row = List Tree

-- ---- of lists

-- with no rows at a second part there are no joinings
abbrev behind : Row → List Row → List Row
behind x rows = map (λ more. x ++ more) rows

inner_made : (null : Bool) (first second : List Row) (others : List (List Row))
    → (if null then [] else product (first ∷ second ∷ others))
    ≡ flat_map (λ x. behind x (product ((if null then [] else second) ∷ map (λ rows. if null then [] else rows) others))) first
inner_made true first second others = sym (flat_map_none (λ x. []) first (each_of_all (λ x. ◌≡◌ {A = List Row} [] []) (λ x. refl) first))
inner_made false first second others = ap (λ rest. joined first (joined second (product rest))) (same others)
  where
    same : (ls : List (List Row)) → ls ≡ map (λ rows. if false then [] else rows) ls
    same [] = refl
    same (l ∷ ls) = ap (λ more. l ∷ more) (same ls)

alone_each : (n : ℕ) (rows : List Row) → map (λ row. row ++ nulls n) rows ++ [] ≡ flat_map (λ x. (x ++ nulls n) ∷ []) rows
alone_each n [] = refl
alone_each n (x ∷ rows) = ap (λ more. (x ++ nulls n) ∷ more) (alone_each n rows)

left_made : (null : Bool) (n : ℕ) (first second : List Row)
    → (if null || is_empty first || is_empty second then map (λ row. row ++ nulls n) first ++ [] else product (first ∷ second ∷ []))
    ≡ flat_map (λ x. or_alone (Some n) x (behind x (product ((if null then [] else second) ∷ [])))) first
left_made true n first second = alone_each n first
left_made false n [] second = refl
left_made false n (x ∷ first) [] = alone_each n (x ∷ first)
left_made false n (x ∷ first) (y ∷ second) = refl

-- ---- of a key

module _ (rows : ℕ → List Row) (k : Tree) where
  abbrev of_input : Keyed → List Row
  of_input input = bag_of (of_key (key_in input.keys) k (rows input.input))

  abbrev bags : List Keyed → ℕ → List Row
  bags inputs = rows_of (with_key tree_cmp (λ e. e.key) k (keyed_entries 0 inputs rows))

  -- what the sides of inputs have for the key
  found_in_sides : (inputs : List Keyed) → map (λ s. matches_in s k) (sides_of inputs rows) ≡ map (λ input. if holds_null k then [] else of_input input) inputs
  found_in_sides inputs =
      map-map (λ s. matches_in s k) (λ input. lookup_of input.keys (rows input.input)) inputs
      ∙ map_each (λ input. matches_in (lookup_of input.keys (rows input.input)) k) (λ input. if holds_null k then [] else of_input input) inputs
      (each_of_all (λ input. matches_in (lookup_of input.keys (rows input.input)) k ≡ (if holds_null k then [] else of_input input)) (λ input. found_rows input.keys (rows input.input) k) inputs)

  pub inner_of_key : (first second : Keyed) (others : List Keyed)
      → join_of (length (first ∷ second ∷ others)) k (bags (first ∷ second ∷ others))
      ≡ flat_map (probe_rows (sides_of (second ∷ others) rows) None k) (of_input first)
  inner_of_key first second others =
      let inputs = first ∷ second ∷ others in
      ap (λ parts. if holds_null k then [] else product parts) (bags_in_turn k rows inputs)
      ∙ inner_made (holds_null k) (of_input first) (of_input second) (map of_input others)
      ∙ ap (λ found. flat_map (λ x. behind x (product ((if holds_null k then [] else of_input second) ∷ found))) (of_input first))
      (map-map (λ found. if holds_null k then [] else found) of_input others)
      ∙ ap (λ found. flat_map (λ x. behind x (product found)) (of_input first)) (sym (found_in_sides (second ∷ others)))

  pub left_of_key : (m n : ℕ) (first second : Keyed)
      → outer_of side.Left m n k (bags (first ∷ second ∷ []))
      ≡ flat_map (probe_rows (sides_of (second ∷ []) rows) (Some n) k) (of_input first)
  left_of_key m n first second =
      let parts = bags_in_turn k rows (first ∷ second ∷ []) in
      let one : bags (first ∷ second ∷ []) 0 ≡ of_input first = ap (λ ls. get_or ls 0 []) parts in
      let two : bags (first ∷ second ∷ []) 1 ≡ of_input second = ap (λ ls. get_or ls 1 []) parts in
      (λ i. if holds_null k || is_empty (one i) || is_empty (two i) then map (λ row. row ++ nulls n) (one i) ++ [] else product (one i ∷ two i ∷ []))
      ∙ left_made (holds_null k) n (of_input first) (of_input second)
      ∙ ap (λ found. flat_map (λ x. or_alone (Some n) x (behind x (product found))) (of_input first)) (sym (found_in_sides (second ∷ [])))
