-- The operators by key. GROUP, COGROUP, the joins and DISTINCT have one form: rows come as entries, each with its key and the number
-- of its input, and for each distinct key an operator makes its rows of the key and the bag of the rows of each input.
use Rattle.std.specs.Prelude.{ℕ, ◌==◌, ◌+◌, Bool, true, false, not, ◌&&◌, ◌||◌, List, [], ◌∷◌, ◌++◌, map, replicate, if◌then◌else◌}
use Rattle.std.specs.List.{filter, flat_map, range_with_len}
use Rattle.pig_value.specs.declared.operators.Side.{Side}
use Rattle.pig_value.specs.declared.operators.Side.TheVariants as side
use Rattle.pig_value.specs.Trees.{Tree, Fields, v_null, v_tuple, v_bag, no_fields, more_fields, fields_of, tuples_of}
use Rattle.pig_value.specs.Orders.{tree_cmp, bag_of}
pub use Rattle.pig_value.specs.Gathering.{Entry}
use Rattle.pig_value.specs.Gathering.{by_key}
use Rattle.pig_typed.specs.Products.{product}

-- one key is its value, several are a tuple
abbrev pub key_of : List Tree → Tree
key_of (v ∷ []) = v
key_of vs = v_tuple (fields_of vs)

-- a key is null or holds a null, at any depth of its tuples
abbrev mutual
  pub holds_null : Tree → Bool
  holds_null v_null = true
  holds_null (v_tuple vs) = one_holds_null vs
  holds_null _ = false

  pub one_holds_null : Fields → Bool
  one_holds_null no_fields = false
  one_holds_null (more_fields v vs) = holds_null v || one_holds_null vs

-- the bag of an input's rows
abbrev pub rows_of : List Entry → ℕ → List (List Tree)
rows_of entries i = bag_of (map (λ e. e.row) (filter (λ e. e.input == i) entries))

-- the rows that an operator makes of each distinct key and the bags of the rows with this key
abbrev pub gathered : (Tree → (ℕ → List (List Tree)) → List (List Tree)) → List Entry → List (List Tree)
gathered make = by_key tree_cmp (λ e. e.key) (λ k entries. make k (rows_of entries))

-- the entries of rows of the input numbered i
abbrev pub entries_of_input : (List Tree → Tree) → ℕ → List (List Tree) → List Entry
entries_of_input key i rows = map (λ row. record { key = key row; input = i; row = row }) rows

abbrev pub nulls : ℕ → List Tree
nulls n = replicate n v_null

abbrev pub is_empty : List (List Tree) → Bool
is_empty [] = true
is_empty (_ ∷ _) = false

abbrev pub as_bag : List (List Tree) → Tree
as_bag rows = v_bag (tuples_of rows)

-- GROUP of one input: the key and the bag of its rows
abbrev pub group_of : Tree → (ℕ → List (List Tree)) → List (List Tree)
group_of k rows = (k ∷ as_bag (rows 0) ∷ []) ∷ []

-- the key and each input's bag
abbrev pub bags_of : ℕ → Tree → (ℕ → List (List Tree)) → List Tree
bags_of n k rows = k ∷ map (λ i. as_bag (rows i)) (range_with_len 0 n)

-- the rows of one input alone
abbrev pub alone : ℕ → (ℕ → List (List Tree)) → ℕ → List (List Tree)
alone i rows j = if j == i then rows j else []

-- no bag of an INNER input is empty
abbrev pub all_there : List Bool → ℕ → (ℕ → List (List Tree)) → Bool
all_there [] i rows = true
all_there (inner ∷ more) i rows = not (inner && is_empty (rows i)) && all_there more (i + 1) rows

abbrev pub kept_where : Bool → List Tree → List (List Tree)
kept_where keep row = if keep then row ∷ [] else []

-- COGROUP of n inputs: a key that holds no null gathers the rows of all inputs; one that holds a null groups apart for each input
-- that has it. Rows with an empty bag at an INNER input are dropped.
abbrev pub cogroup_of : List Bool → ℕ → Tree → (ℕ → List (List Tree)) → List (List Tree)
cogroup_of inner n k rows = if holds_null k
    then flat_map (λ i. kept_where (not (is_empty (rows i)) && all_there inner 0 (alone i rows)) (bags_of n k (alone i rows))) (range_with_len 0 n)
    else kept_where (all_there inner 0 rows) (bags_of n k rows)

-- an inner JOIN of n inputs: the joined rows of equal keys that hold no null
abbrev pub join_of : ℕ → Tree → (ℕ → List (List Tree)) → List (List Tree)
join_of n k rows = if holds_null k then [] else product (map rows (range_with_len 0 n))

abbrev pub keeps_left : Side → Bool
keeps_left side.Left = true
keeps_left side.Full = true
keeps_left _ = false

abbrev pub keeps_right : Side → Bool
keeps_right side.Right = true
keeps_right side.Full = true
keeps_right _ = false

-- a JOIN of two inputs, m and n fields wide: a row without a partner stands with nulls for the other side, where its side is kept
abbrev pub outer_of : Side → ℕ → ℕ → Tree → (ℕ → List (List Tree)) → List (List Tree)
outer_of s m n k rows = if holds_null k || is_empty (rows 0) || is_empty (rows 1)
    then (if keeps_left s then map (λ row. row ++ nulls n) (rows 0) else []) ++ (if keeps_right s then map (λ row. nulls m ++ row) (rows 1) else [])
    else product (rows 0 ∷ rows 1 ∷ [])
