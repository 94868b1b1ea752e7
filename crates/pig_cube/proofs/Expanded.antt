-- The block of a cube makes, as a bag, the rows of the chosen sets.
use Rattle.std.specs.Prelude.{◌≡◌, ◌<◌, ◌==◌, ◌+◌, ℕ, Bool, true, false, List, [], ◌∷◌, ◌++◌, length, map, take, replicate, Some, None, refl, if◌then◌else◌}
use Rattle.std.proofs.Common.{ap, sym, ◌∙◌, subst, arith}
use Rattle.std.specs.List.{flat_map}
use Rattle.std.specs.List.Sorted.{IsPermutation}
use Rattle.std.specs.Option.{option_and_then, option_map}
use Rattle.std.proofs.lemmas.Bool.{eq-eqb}
use Rattle.std.proofs.lemmas.List.{length-append, length-map}
use Rattle.std.proofs.lemmas.List.FromFn.{length-map-range_with_len}
use Rattle.std.proofs.lemmas.List.Sorted.{IsPermutation-map, IsPermutation-sym}
use Rattle.std.proofs.lemmas.Simd.{map-map}
use Rattle.pig_value.specs.declared.functions.Function.TheVariants as function
use Rattle.pig_value.specs.FieldReader.{all_of}
use Rattle.pig_value.specs.Functions.{bag_tree, row_from, totuple_tree}
use Rattle.pig_value.specs.Orders.{bag_of, row_cmp}
use Rattle.pig_value.specs.Trees.{at, or_null, Tree, v_null, v_bool, v_int, v_long, v_chars, v_bytes, v_tuple, v_bag, v_listed, v_map}
use Rattle.pig_value.proofs.TreeLaws.{fields_back, tuples_back}
use Rattle.pig_value.proofs.list_laws.Bags.{sort_permutes}
use Rattle.pig_value.proofs.list_laws.Permutations.{IsPermutation-flat_map_each}
use Rattle.pig_typed.specs.Blocks.{flattened, foreach_all, foreach_rows, item_lists}
use Rattle.pig_typed.specs.Evaluation.{ev, ev_args}
use Rattle.pig_typed.specs.Operators.{chosen, null_test, truth_of}
use Rattle.pig_typed.specs.Products.{joined, product}
use Rattle.pig_typed.specs.Typed.{args_of, x_call}
use Rattle.pig_cube.specs.Cubes.{dimension, expanded_rows, known, unknown}
use Rattle.pig_cube.specs.Dimensions.{chosen_sets, is_in, other_positions, subsets}
use Rattle.pig_cube.specs.Expanding.{expanded_block, flat_item, known_field, null_text, plain_item, set_tuple, slot}

-- ---- the chosen sets

subsets_more : (dims : List ℕ) → 0 < length (subsets dims)
subsets_more [] = omega arith
subsets_more (p ∷ dims) =
    let rest = subsets_more dims in
    let all = length-append (map (λ set. p ∷ set) (subsets dims)) (subsets dims) in
    omega (arith, rest, all)

-- one set at least is chosen
pub some_set : (rollup : Bool) (dims : List ℕ) → 0 < length (chosen_sets rollup dims)
some_set true dims = let all = length-map-range_with_len (λ n. take n dims) 0 (length dims + 1) in omega (arith, all)
some_set false dims = subsets_more dims

-- ---- the tuples of the bag

-- `(v IS NULL ? 'unknown' : v)`
known_is : (v : Tree) → chosen (truth_of (null_test v false)) (v_chars unknown) v ≡ known v
known_is v_null = refl
known_is (v_bool b) = refl
known_is (v_int z) = refl
known_is (v_long z) = refl
known_is (v_chars text) = refl
known_is (v_bytes bytes) = refl
known_is (v_tuple vs) = refl
known_is (v_bag rs) = refl
known_is (v_listed rs) = refl
known_is (v_map ps) = refl

-- a tuple of so many fields is a row of the bag
row_from_tuple : (vs : List Tree) (n : ℕ) → length vs ≡ n → row_from (Some n) (totuple_tree vs) ≡ Some vs
row_from_tuple [] n e = ap (λ m. Some (replicate m v_null)) (sym e)
row_from_tuple (v ∷ vs) n e =
    ap (λ ws. if length ws == n then Some ws else None) (fields_back (v ∷ vs))
    ∙ ap (λ b. if b then Some (v ∷ vs) else None) (eq-eqb (length (v ∷ vs)) n e)

module _ (row : List Tree) where
  slot_is : (b : Bool) (p : ℕ) → ev (if b then known_field p else null_text) row [] ≡ (if b then known (at p row) else v_null)
  slot_is true p = known_is (at p row)
  slot_is false p = refl

  slots_are : (set dims : List ℕ) → ev_args (args_of (map (slot set) dims)) row [] ≡ map (dimension row set) dims
  slots_are set [] = refl
  slots_are set (p ∷ dims) = λ i. slot_is (is_in set p) p i ∷ slots_are set dims i

  module _ (dims : List ℕ) where
    -- the dimensions of a set
    abbrev front : List ℕ → List Tree
    front set = map (dimension row set) dims

    front_is : (set : List ℕ) → row_from (Some (length dims)) (ev (set_tuple dims set) row []) ≡ Some (front set)
    front_is set =
        ap (λ vs. row_from (Some (length dims)) (totuple_tree vs)) (slots_are set dims)
        ∙ row_from_tuple (front set) (length dims) (length-map dims (dimension row set))

    fronts_are : (sets : List (List ℕ)) → all_of (row_from (Some (length dims))) (ev_args (args_of (map (set_tuple dims) sets)) row []) ≡ Some (map front sets)
    fronts_are [] = refl
    fronts_are (set ∷ sets) = λ i. option_and_then (λ y. option_map (λ ys. y ∷ ys) (fronts_are sets i)) (front_is set i)

    bag_is : (sets : List (List ℕ)) → 0 < length sets → ev (x_call (function.ToBag (Some (length dims))) (args_of (map (set_tuple dims) sets))) row [] ≡ bag_tree (map front sets)
    bag_is [] h = absurd (omega (arith, h))
    bag_is (set ∷ sets) h = ap (λ found. or_null (option_map bag_tree found)) (fronts_are (set ∷ sets))

    flat_is : (rollup : Bool) → item_lists (flat_item dims (chosen_sets rollup dims)) row [] ≡ bag_of (map front (chosen_sets rollup dims))
    flat_is rollup =
        ap (flattened (length dims)) (bag_is (chosen_sets rollup dims) (some_set rollup dims))
        ∙ tuples_back (bag_of (map front (chosen_sets rollup dims)))

  plain_are : (ps : List ℕ) → product (map (λ item. item_lists item row []) (map plain_item ps)) ≡ map (λ p. at p row) ps ∷ []
  plain_are [] = refl
  plain_are (p ∷ ps) = ap (joined ((at p row ∷ []) ∷ [])) (plain_are ps)

  joined_with : (back : List Tree) (fronts : List (List Tree)) → joined fronts (back ∷ []) ≡ map (λ front. front ++ back) fronts
  joined_with back [] = refl
  joined_with back (front ∷ fronts) = ap (λ more. (front ++ back) ∷ more) (joined_with back fronts)

-- ---- the rows of the block

module _ (dims : List ℕ) (width : ℕ) (rollup : Bool) where
  abbrev back : List Tree → List Tree
  back row = map (λ p. at p row) (other_positions dims width)

  abbrev fronts : List Tree → List (List Tree)
  fronts row = map (front row dims) (chosen_sets rollup dims)

  rows_are : (row : List Tree) → foreach_rows (expanded_block dims width rollup) row ≡ map (λ front. front ++ back row) (bag_of (fronts row))
  rows_are row = (λ i. joined (flat_is row dims rollup i) (plain_are row (other_positions dims width) i)) ∙ joined_with row (back row) (bag_of (fronts row))

  pub row_expanded : (row : List Tree) → IsPermutation (foreach_rows (expanded_block dims width rollup) row) (expanded_rows dims width rollup row)
  row_expanded row =
      subst (λ made. IsPermutation made (expanded_rows dims width rollup row)) (sym (rows_are row))
      (subst (IsPermutation (map (λ front. front ++ back row) (bag_of (fronts row)))) (map-map (λ front. front ++ back row) (front row dims) (chosen_sets rollup dims))
      (IsPermutation-map (λ front. front ++ back row) (bag_of (fronts row)) (fronts row)
      (IsPermutation-sym (fronts row) (bag_of (fronts row)) (sort_permutes row_cmp (fronts row)))))

  pub rows_expanded : (rows : List (List Tree)) → IsPermutation (foreach_all (expanded_block dims width rollup) rows) (flat_map (expanded_rows dims width rollup) rows)
  rows_expanded rows = IsPermutation-flat_map_each (foreach_rows (expanded_block dims width rollup)) (expanded_rows dims width rollup) row_expanded rows
