-- A cube and a rollup of two rows, computed.
use Rattle.std.specs.Prelude.{◌≡◌, ℕ, pos, Bool, true, false, List, [], ◌∷◌, codes, Some, refl}
use Rattle.pig_value.specs.Trees.{Tree, v_null, v_int, v_chars, v_bag, v_tuple, fields_of, tuples_of, KindTree, k_int, k_chars}
use Rattle.pig_typed.specs.Blocks.{foreach_all, foreach_rows}
use Rattle.pig_typed.specs.BlockKinds.{row_kinds}
use Rattle.pig_plan.specs.Operators.{group_rows}
use Rattle.pig_typed.specs.Typed.{x_field}
use Rattle.pig_cube.specs.Cubes.{cube_rows, expanded_rows}
use Rattle.pig_cube.specs.Dimensions.{prefixes, subsets}
use Rattle.pig_cube.specs.Expanding.{expanded_block, expanded_kinds}

abbrev row : Tree → ℕ → List Tree
row first n = first ∷ v_chars (codes "2012") ∷ v_int (pos n) ∷ []

abbrev car : Tree
car = v_chars (codes "car")

abbrev year : Tree
year = v_chars (codes "2012")

abbrev nothing : Tree
nothing = v_chars (codes "unknown")

abbrev cell : Tree → Tree → ℕ → List Tree
cell a b n = a ∷ b ∷ v_int (pos n) ∷ []

abbrev both : List ℕ
both = 0 ∷ 1 ∷ []

all_sets : subsets both ≡ (0 ∷ 1 ∷ []) ∷ (0 ∷ []) ∷ (1 ∷ []) ∷ [] ∷ []
all_sets = refl

all_prefixes : prefixes both ≡ [] ∷ (0 ∷ []) ∷ (0 ∷ 1 ∷ []) ∷ []
all_prefixes = refl

-- the rows that one row becomes
car_expanded : expanded_rows both 3 false (row car 10) ≡ cell car year 10 ∷ cell car v_null 10 ∷ cell v_null year 10 ∷ cell v_null v_null 10 ∷ []
car_expanded = refl

null_expanded : expanded_rows both 3 true (row v_null 5) ≡ cell v_null v_null 5 ∷ cell nothing v_null 5 ∷ cell nothing year 5 ∷ []
null_expanded = refl

-- and of the block, in the order of a bag
car_made : foreach_rows (expanded_block both 3 false) (row car 10) ≡ cell v_null v_null 10 ∷ cell v_null year 10 ∷ cell car v_null 10 ∷ cell car year 10 ∷ []
car_made = refl

-- dimensions that do not ascend and are not the first fields
apart : expanded_rows (2 ∷ 0 ∷ []) 3 true (v_null ∷ v_int (pos 7) ∷ car ∷ []) ≡
    (v_null ∷ v_null ∷ v_int (pos 7) ∷ []) ∷ (car ∷ v_null ∷ v_int (pos 7) ∷ []) ∷ (car ∷ nothing ∷ v_int (pos 7) ∷ []) ∷ []
apart = refl

-- the groups of both rows
abbrev group : Tree → Tree → List (List Tree) → List Tree
group a b rows = v_tuple (fields_of (a ∷ b ∷ [])) ∷ v_bag (tuples_of rows) ∷ []

cubed : cube_rows both 3 false (row car 10 ∷ row v_null 5 ∷ []) ≡
    group v_null v_null (cell v_null v_null 5 ∷ cell v_null v_null 10 ∷ []) ∷
    group v_null year (cell v_null year 5 ∷ cell v_null year 10 ∷ []) ∷
    group car v_null (cell car v_null 10 ∷ []) ∷
    group car year (cell car year 10 ∷ []) ∷
    group nothing v_null (cell nothing v_null 5 ∷ []) ∷
    group nothing year (cell nothing year 5 ∷ []) ∷ []
cubed = refl

rolled_up : cube_rows both 3 true (row car 10 ∷ row v_null 5 ∷ []) ≡
    group v_null v_null (cell v_null v_null 5 ∷ cell v_null v_null 10 ∷ []) ∷
    group car v_null (cell car v_null 10 ∷ []) ∷
    group car year (cell car year 10 ∷ []) ∷
    group nothing v_null (cell nothing v_null 5 ∷ []) ∷
    group nothing year (cell nothing year 5 ∷ []) ∷ []
rolled_up = refl

-- with one dimension the key is its value
one_dimension : cube_rows (0 ∷ []) 3 false (row car 10 ∷ row v_null 5 ∷ []) ≡
    (v_null ∷ v_bag (tuples_of (cell v_null year 5 ∷ cell v_null year 10 ∷ [])) ∷ []) ∷
    (car ∷ v_bag (tuples_of (cell car year 10 ∷ [])) ∷ []) ∷
    (nothing ∷ v_bag (tuples_of (cell nothing year 5 ∷ [])) ∷ []) ∷ []
one_dimension = refl

-- GROUP over the block gives the same
abbrev grouped_by : List ℕ → Bool → List (List Tree) → List (List Tree)
grouped_by dims rollup rows = group_rows (record { input = 0; keys = x_field 0 ∷ x_field 1 ∷ []; inner = false } ∷ []) (λ _. foreach_all (expanded_block dims 3 rollup) rows)

two_nodes : grouped_by both false (row car 10 ∷ row v_null 5 ∷ []) ≡ cube_rows both 3 false (row car 10 ∷ row v_null 5 ∷ [])
two_nodes = refl

-- the kinds of the block
abbrev kinds : List KindTree
kinds = k_chars ∷ k_chars ∷ k_int ∷ []

kinds_made : row_kinds (expanded_block both 3 false) kinds ≡ Some (k_chars ∷ k_chars ∷ k_int ∷ [])
kinds_made = refl

kinds_apart : row_kinds (expanded_block (2 ∷ 0 ∷ []) 3 true) (k_chars ∷ k_int ∷ k_chars ∷ []) ≡ Some (expanded_kinds (2 ∷ 0 ∷ []) (k_chars ∷ k_int ∷ k_chars ∷ []))
kinds_apart = refl
