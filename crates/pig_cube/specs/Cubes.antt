-- What CUBE and ROLLUP mean: the rows that each row becomes, and the groups of these.
-- (Pig Latin Basics: "CUBE". That a null dimension is taken as the text `unknown`, and that the tuples of a group are the dimensions and
-- then the other fields, are choices of this profile.)
use Rattle.std.specs.Prelude.{ℕ, Bool, List, [], ◌∷◌, ◌++◌, length, map, take, codes, if◌then◌else◌}
use Rattle.std.specs.List.{filter, flat_map}
use Rattle.std.specs.Ordering.{is_eq}
use Rattle.pig_value.specs.Orders.{bag_of, row_cmp}
use Rattle.pig_value.specs.Sorts.{distinct}
use Rattle.pig_value.specs.Trees.{at, Tree, v_null, v_chars}
use Rattle.pig_plan.specs.ByKey.{as_bag, key_of}
use Rattle.pig_cube.specs.Dimensions.{chosen_sets, is_in, other_positions}

-- the text that stands for a null dimension
abbrev pub unknown : List ℕ
unknown = codes "unknown"

-- a dimension with that text where it is null
abbrev pub known : Tree → Tree
known v_null = v_chars unknown
known v = v

-- the row of a chosen set: the dimensions, null where not in the set, and then the other fields
abbrev pub dimension : List Tree → List ℕ → ℕ → Tree
dimension row set p = if is_in set p then known (at p row) else v_null

abbrev pub expanded_row : List ℕ → ℕ → List Tree → List ℕ → List Tree
expanded_row dims width row set = map (dimension row set) dims ++ map (λ p. at p row) (other_positions dims width)

-- the rows of all chosen sets
abbrev pub expanded_rows : List ℕ → ℕ → Bool → List Tree → List (List Tree)
expanded_rows dims width rollup row = map (expanded_row dims width row) (chosen_sets rollup dims)

-- the rows with these dimensions in front
abbrev pub with_dimensions : List Tree → List (List Tree) → List (List Tree)
with_dimensions values rows = filter (λ row. is_eq (row_cmp (take (length values) row) values)) rows

-- each distinct list of the n first fields, as a key, and the bag of the rows that have it
abbrev pub grouped : ℕ → List (List Tree) → List (List Tree)
grouped n rows = map (λ values. key_of values ∷ as_bag (bag_of (with_dimensions values rows)) ∷ []) (distinct row_cmp (map (take n) rows))

-- of all rows: each distinct list of dimensions in their expanded rows, as a key, and the bag of those that have it
abbrev pub cube_rows : List ℕ → ℕ → Bool → List (List Tree) → List (List Tree)
cube_rows dims width rollup rows = grouped (length dims) (flat_map (expanded_rows dims width rollup) rows)
