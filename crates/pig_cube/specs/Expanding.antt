-- The block that makes the rows of a cube: one FLATTEN of the bag of a tuple for each chosen set, and then the other fields.
-- (Pig Latin Basics: "CUBE", "FOREACH", "Flatten Operator".)
use Rattle.std.specs.Prelude.{ℕ, Bool, true, false, List, [], ◌∷◌, ◌++◌, length, map, replicate, Some, slice_get, if◌then◌else◌}
use Rattle.std.specs.List.{filter_map}
use Rattle.pig_value.specs.declared.functions.Function.TheVariants as function
use Rattle.pig_value.specs.Trees.{KindTree, k_chars}
use Rattle.pig_typed.specs.Typed.{Typed, TypedBlock, TypedItem, args_of, x_call, x_cast, x_chars, x_choose, x_field, x_is_null, x_null}
use Rattle.pig_cube.specs.Cubes.{unknown}
use Rattle.pig_cube.specs.Dimensions.{chosen_sets, is_in, other_positions}

-- `(p IS NULL ? 'unknown' : p)`
abbrev pub known_field : ℕ → Typed
known_field p = x_choose (x_is_null (x_field p) false) (x_chars unknown) (x_field p)

-- a null of kind chararray, since tuples of one bag are of one kind: `(chararray)null`
abbrev pub null_text : Typed
null_text = x_cast k_chars x_null

-- a dimension in the tuple of a set
abbrev pub slot : List ℕ → ℕ → Typed
slot set p = if is_in set p then known_field p else null_text

-- the tuple of a set, and the bag of all of them
abbrev pub set_tuple : List ℕ → List ℕ → Typed
set_tuple dims set = x_call function.ToTuple (args_of (map (slot set) dims))

abbrev pub sets_bag : List ℕ → List (List ℕ) → Typed
sets_bag dims sets = x_call (function.ToBag (Some (length dims))) (args_of (map (set_tuple dims) sets))

abbrev pub flat_item : List ℕ → List (List ℕ) → TypedItem
flat_item dims sets = record { value = sets_bag dims sets; flatten = true; width = length dims }

abbrev pub plain_item : ℕ → TypedItem
plain_item p = record { value = x_field p; flatten = false; width = 1 }

-- of rows so many fields wide, with the dimensions at these positions
abbrev pub expanded_block : List ℕ → ℕ → Bool → TypedBlock
expanded_block dims width rollup = record { steps = []; items = flat_item dims (chosen_sets rollup dims) ∷ map plain_item (other_positions dims width) }

-- the kinds of its rows: a chararray for each dimension, and then the other kinds in order
abbrev pub expanded_kinds : List ℕ → List KindTree → List KindTree
expanded_kinds dims kinds = replicate (length dims) k_chars ++ filter_map (slice_get kinds) (other_positions dims (length kinds))
