-- Both nodes of a cube are valid in a plan.
use Rattle.std.specs.Prelude.{◌≡◌, ◌<◌, ◌+◌, ◌||◌, ℕ, zero, suc, Bool, true, false, not, List, [], ◌∷◌, ◌++◌, length, map, nat_lt, replicate, Option, Some, slice_get, refl, if◌then◌else◌}
use Rattle.std.proofs.Common.{add-one, ap, ◌∙◌, arith}
use Rattle.std.specs.List.{AllByRecursion, filter_map, list_any, range_with_len}
use Rattle.std.specs.Option.{option_and_then, option_map}
use Rattle.std.proofs.lemmas.Bool.Decides.{nat_tests}
use Rattle.std.proofs.lemmas.List.{length-replicate}
use Rattle.pig_value.specs.FieldReader.{all_of}
use Rattle.pig_value.specs.Kinds.{has_bag_or_map}
use Rattle.pig_value.specs.Results.{◌>>=◌}
use Rattle.pig_value.specs.Trees.{KindTree, k_chars}
use Rattle.pig_typed.specs.BlockKinds.{row_kinds}
use Rattle.pig_typed.specs.Typed.{Typed, args_of, x_field}
use Rattle.pig_plan.specs.NodeKinds.{Before, KeyedKinds, group_kinds, key_kind, keys_agree, node_gives, only_if}
use Rattle.pig_plan.specs.Valid.{op_writes_lf}
use Rattle.pig_plan.specs.Written.{args_write_lf, writes_lf}
use Rattle.pig_cube.specs.Dimensions.{chosen_sets, is_in, other_positions}
use Rattle.pig_cube.specs.Expanding.{expanded_block, expanded_kinds, known_field, null_text, plain_item, set_tuple, slot}
use Rattle.pig_cube.specs.Laws.{cube_foreach, cube_group, cube_kinds}
use Rattle.pig_cube.proofs.Kinded.{block_kinds}

-- ---- FOREACH

pub foreach_kinds : (before : Before) (input : ℕ) (dims : List ℕ) (rollup : Bool) (kinds : List KindTree)
    → 0 < length dims → AllByRecursion (λ p. slice_get kinds p ≡ Some k_chars) dims → before input ≡ Some kinds
    → node_gives before (cube_foreach dims (length kinds) rollup input) ≡ Some (Some (expanded_kinds dims kinds))
foreach_kinds before input dims rollup kinds some text h =
    ap (λ found. found >>= (λ row. row_kinds (expanded_block dims (length kinds) rollup) row >>= (λ given. Some (Some given)))) h
    ∙ ap (λ found. found >>= (λ given. Some (Some given))) (block_kinds dims rollup kinds some text)

-- ---- GROUP

module _ {X : Type 0} (f : ℕ → Option X) where
  -- numbers from one more on
  all_up : (a n : ℕ) → all_of f (range_with_len (a + 1) n) ≡ all_of (λ i. f (suc i)) (range_with_len a n)
  all_up a zero = refl
  all_up a (suc n) = λ i. option_and_then (λ y. option_map (λ ys. y ∷ ys) (all_up (a + 1) n i)) (f (add-one a i))

-- the kind of a field by its place, where it may be a key
abbrev may_key : Option KindTree → Option KindTree
may_key found = found >>= (λ k. only_if (not (has_bag_or_map k)) (Some k))

keys_by_place : (row : List KindTree) (ns : List ℕ) → all_of (key_kind row) (map x_field ns) ≡ all_of (λ n. may_key (slice_get row n)) ns
keys_by_place row [] = refl
keys_by_place row (n ∷ ns) = ap (λ more. option_and_then (λ y. option_map (λ ys. y ∷ ys) more) (may_key (slice_get row n))) (keys_by_place row ns)

first_kinds : (n : ℕ) (more : List KindTree) → all_of (λ i. may_key (slice_get (replicate n k_chars ++ more) i)) (range_with_len 0 n) ≡ Some (replicate n k_chars)
first_kinds zero more = refl
first_kinds (suc n) more =
    ap (option_map (λ ys. k_chars ∷ ys)) (all_up (λ i. may_key (slice_get (k_chars ∷ (replicate n k_chars ++ more)) i)) 0 n ∙ first_kinds n more)

module _ (dims : List ℕ) (kinds : List KindTree) (some : 0 < length dims) where
  abbrev own : List KindTree
  own = replicate (length dims) k_chars

  abbrev made : List KindTree
  made = expanded_kinds dims kinds

  keys_found : all_of (key_kind made) (map x_field (range_with_len 0 (length dims))) ≡ Some own
  keys_found = keys_by_place made (range_with_len 0 (length dims)) ∙ first_kinds (length dims) (filter_map (slice_get kinds) (other_positions dims (length kinds)))

  not_none : nat_lt 0 (length own) ≡ true
  not_none = let long = length-replicate (length dims) k_chars in grind (arith, nat_tests, some, long)

  pub group_kinds_are : (before : Before) (node : ℕ) → before node ≡ Some made → node_gives before (cube_group dims node) ≡ Some (Some (cube_kinds dims kinds))
  group_kinds_are before node h =
      ap (λ found. with_kinds (found >>= (λ row. with_keys row (all_of (key_kind row) keys)))) h
      ∙ ap (λ found. with_kinds (with_keys made found)) keys_found
      ∙ ap (λ b. with_kinds (only_if b (Some own) >>= (λ ks. Some (record { row = made; keys = ks })))) not_none
    where
      keys : List Typed
      keys = map x_field (range_with_len 0 (length dims))

      with_keys : List KindTree → Option (List KindTree) → Option KeyedKinds
      with_keys row found = (found >>= (λ ks. only_if (nat_lt 0 (length ks)) (Some ks))) >>= (λ ks. Some (record { row = row; keys = ks }))

      with_kinds : Option KeyedKinds → Option (Option (List KindTree))
      with_kinds found = (option_and_then (λ y. option_map (λ ys. y ∷ ys) (Some [])) found >>= (λ all. only_if (keys_agree all) (Some all))) >>= (λ all. Some (Some (group_kinds all)))

-- ---- line ends

slot_writes_none : (b : Bool) (p : ℕ) → writes_lf (if b then known_field p else null_text) ≡ false
slot_writes_none true p = refl
slot_writes_none false p = refl

slots_write_none : (set dims : List ℕ) → args_write_lf (args_of (map (slot set) dims)) ≡ false
slots_write_none set [] = refl
slots_write_none set (p ∷ dims) = λ i. slot_writes_none (is_in set p) p i || slots_write_none set dims i

tuples_write_none : (dims : List ℕ) (sets : List (List ℕ)) → args_write_lf (args_of (map (set_tuple dims) sets)) ≡ false
tuples_write_none dims [] = refl
tuples_write_none dims (set ∷ sets) = λ i. slots_write_none set dims i || tuples_write_none dims sets i

plain_write_none : (ps : List ℕ) → list_any (λ item. writes_lf item.value) (map plain_item ps) ≡ false
plain_write_none [] = refl
plain_write_none (p ∷ ps) = plain_write_none ps

fields_write_none : (ns : List ℕ) → list_any writes_lf (map x_field ns) ≡ false
fields_write_none [] = refl
fields_write_none (n ∷ ns) = fields_write_none ns

pub foreach_writes_none : (dims : List ℕ) (width : ℕ) (rollup : Bool) (input : ℕ) → op_writes_lf (cube_foreach dims width rollup input) ≡ false
foreach_writes_none dims width rollup input = λ i. tuples_write_none dims (chosen_sets rollup dims) i || plain_write_none (other_positions dims width) i

pub group_writes_none : (dims : List ℕ) (node : ℕ) → op_writes_lf (cube_group dims node) ≡ false
group_writes_none dims node = ap (λ b. b || false) (fields_write_none (range_with_len 0 (length dims)))
