-- The kinds of the rows of a cube's block, on rows with a chararray at each dimension.
use Rattle.std.specs.Prelude.{◌≡◌, ◌<◌, ◌==◌, ◌+◌, ◌&&◌, ℕ, zero, suc, Bool, true, false, not, List, [], ◌∷◌, ◌++◌, length, map, replicate, Option, Some, None, slice_get, refl, if◌then◌else◌}
use Rattle.std.proofs.Common.{ap, sym, ◌∙◌, arith}
use Rattle.std.specs.List.{AllByRecursion, cons_option, filter_map, list_all, range_with_len}
use Rattle.std.proofs.lemmas.Bool.{eq-eqb}
use Rattle.std.proofs.lemmas.List.{length-replicate}
use Rattle.pig_value.specs.declared.functions.Function.TheVariants as function
use Rattle.pig_value.specs.FunctionKinds.{function_kind, tobag_kind}
use Rattle.pig_value.specs.Kinds.{kind_eq}
use Rattle.pig_value.specs.Results.{◌>>=◌}
use Rattle.pig_value.specs.Trees.{KindTree, k_boolean, k_chars, k_tuple, k_bag, kinds_list, kinds_of}
use Rattle.pig_value.proofs.KindLaws.{kind_itself}
use Rattle.pig_value.proofs.TreeLaws.{kinds_back}
use Rattle.pig_value.proofs.list_laws.Elementwise.{range_below}
use Rattle.pig_value.proofs.list_laws.Listing.{each-filter, each_weaker}
use Rattle.pig_typed.specs.BlockKinds.{given_kinds, item_kinds, items_kinds, of_width, row_kinds}
use Rattle.pig_typed.specs.ExprKinds.{args_kinds, choose_kind, expr_kind}
use Rattle.pig_typed.specs.Typed.{args_of}
use Rattle.pig_cube.specs.Dimensions.{chosen_sets, is_in, other_positions}
use Rattle.pig_cube.specs.Expanding.{expanded_block, expanded_kinds, flat_item, known_field, null_text, plain_item, set_tuple, sets_bag, slot}
use Rattle.pig_cube.proofs.Expanded.{some_set}

-- chararrays, and the tuple of them
abbrev texts : ℕ → List KindTree
texts n = replicate n k_chars

abbrev tuple : ℕ → KindTree
tuple n = k_tuple (kinds_of (texts n))

are_many : (n : ℕ) → (length (kinds_list (kinds_of (texts n))) == n) ≡ true
are_many n = ap (λ ks. length ks == n) (kinds_back (texts n)) ∙ eq-eqb (length (texts n)) n (length-replicate n k_chars)

-- tuples of one kind are alike, and make a bag
are_alike : (n : ℕ) (sets : List (List ℕ)) → list_all (kind_eq (tuple n)) (map (λ _. tuple n) sets) ≡ true
are_alike n [] = refl
are_alike n (set ∷ sets) = λ i. kind_itself (tuple n) i && are_alike n sets i

bag_of_tuples : (n : ℕ) (sets : List (List ℕ)) → 0 < length sets → tobag_kind (Some n) (map (λ _. tuple n) sets) ≡ Some (k_bag (kinds_of (texts n)))
bag_of_tuples n [] h = absurd (omega (arith, h))
bag_of_tuples n (set ∷ sets) h =
    ap (λ b. if b then (if list_all (kind_eq (tuple n)) (map (λ _. tuple n) sets) then Some (k_bag (kinds_of (texts n))) else None) else None) (are_many n)
    ∙ ap (λ b. if b then Some (k_bag (kinds_of (texts n))) else None) (are_alike n sets)

-- a position within has a kind
kind_there : (kinds : List KindTree) (p : ℕ) → p < length kinds → (k : KindTree) × (slice_get kinds p ≡ Some k)
kind_there [] p h = absurd (omega (arith, h))
kind_there (k ∷ kinds) zero h = (k, refl)
kind_there (k ∷ kinds) (suc p) h = kind_there kinds p (omega (arith, h))

module _ (kinds : List KindTree) where
  abbrev IsText : ℕ → Type 0
  IsText p = slice_get kinds p ≡ Some k_chars

  abbrev known_kind : Option KindTree → Option KindTree
  known_kind found = do
    c ← (do
      k ← found
      Some k_boolean)
    l ← found
    choose_kind c k_chars l

  slot_kind : (b : Bool) (p : ℕ) → IsText p → expr_kind (if b then known_field p else null_text) kinds [] ≡ Some k_chars
  slot_kind true p h = ap known_kind h
  slot_kind false p h = refl

  slots_kinds : (set dims : List ℕ) → AllByRecursion IsText dims → args_kinds (args_of (map (slot set) dims)) kinds [] ≡ Some (texts (length dims))
  slots_kinds set [] h = refl
  slots_kinds set (p ∷ dims) h = λ i. slot_kind (is_in set p) p h.0 i >>= (λ k. slots_kinds set dims h.1 i >>= (λ ks. Some (k ∷ ks)))

  module _ (dims : List ℕ) (some : 0 < length dims) (text : AllByRecursion IsText dims) where
    tuple_made : (es : List ℕ) → 0 < length es → function_kind function.ToTuple (texts (length es)) ≡ Some (tuple (length es))
    tuple_made [] h = absurd (omega (arith, h))
    tuple_made (e ∷ es) h = refl

    tuple_kind : (set : List ℕ) → expr_kind (set_tuple dims set) kinds [] ≡ Some (tuple (length dims))
    tuple_kind set = ap (λ found. found >>= function_kind function.ToTuple) (slots_kinds set dims text) ∙ tuple_made dims some

    tuples_kinds : (sets : List (List ℕ)) → args_kinds (args_of (map (set_tuple dims) sets)) kinds [] ≡ Some (map (λ _. tuple (length dims)) sets)
    tuples_kinds [] = refl
    tuples_kinds (set ∷ sets) = λ i. tuple_kind set i >>= (λ k. tuples_kinds sets i >>= (λ ks. Some (k ∷ ks)))

    bag_kind : (rollup : Bool) → expr_kind (sets_bag dims (chosen_sets rollup dims)) kinds [] ≡ Some (k_bag (kinds_of (texts (length dims))))
    bag_kind rollup =
        ap (λ found. found >>= function_kind (function.ToBag (Some (length dims)))) (tuples_kinds (chosen_sets rollup dims))
        ∙ bag_of_tuples (length dims) (chosen_sets rollup dims) (some_set rollup dims)

    flat_kinds : (rollup : Bool) → item_kinds (flat_item dims (chosen_sets rollup dims)) kinds [] ≡ Some (texts (length dims))
    flat_kinds rollup =
        ap (λ found. found >>= (λ k. given_kinds true k >>= of_width (length dims))) (bag_kind rollup)
        ∙ ap (of_width (length dims)) (kinds_back (texts (length dims)))
        ∙ ap (λ b. if b then Some (texts (length dims)) else None) (eq-eqb (length (texts (length dims))) (length dims) (length-replicate (length dims) k_chars))

  plain_kinds : (ps : List ℕ) → AllByRecursion (λ p. p < length kinds) ps → items_kinds (map plain_item ps) kinds [] ≡ Some (filter_map (slice_get kinds) ps)
  plain_kinds [] h = refl
  plain_kinds (p ∷ ps) h =
      let found = kind_there kinds p h.0 in
      (λ i. (found.1 i >>= (λ k. given_kinds false k >>= of_width 1)) >>= (λ own. plain_kinds ps h.1 i >>= (λ rest. Some (own ++ rest))))
      ∙ sym (ap (λ o. Some (cons_option o (filter_map (slice_get kinds) ps))) found.1)

pub block_kinds : (dims : List ℕ) (rollup : Bool) (kinds : List KindTree) → 0 < length dims → AllByRecursion (λ p. slice_get kinds p ≡ Some k_chars) dims
    → row_kinds (expanded_block dims (length kinds) rollup) kinds ≡ Some (expanded_kinds dims kinds)
block_kinds dims rollup kinds some text =
    let within = each-filter (λ p. not (is_in dims p)) (λ p. p < length kinds) (range_with_len 0 (length kinds))
    (each_weaker (λ p. p < 0 + length kinds) (λ p. p < length kinds) (λ p h. omega (arith, h)) (range_with_len 0 (length kinds)) (range_below 0 (length kinds))) in
    λ i. flat_kinds kinds dims some text rollup i >>= (λ own. plain_kinds kinds (other_positions dims (length kinds)) within i >>= (λ rest. Some (own ++ rest)))
