-- Rows that are grouped task by task. Each task hands on one entry for each of its keys, whose row is the parts of its
-- rows; the parts of a key, of all tasks, are finished to the row that a FOREACH makes of the key and the bag of all
-- its rows.
use Rattle.std.specs.Prelude.{◌≡◌, ◌<◌, ◌==◌, ℕ, true, List, [], ◌∷◌, map, drop, Option, Some, None}
use Rattle.std.specs.List.{AllByRecursion, filter, flat_map, range_with_len}
use Rattle.std.specs.List.Sorted.{IsPermutation}
use Rattle.std.specs.declared.cmp.Ordering.{Ordering}
use Rattle.pig_value.specs.Functions.{bag_tree, column_tree, looked_at}
use Rattle.pig_value.specs.Gathering.{Entry, by_key, in_part}
use Rattle.pig_value.specs.Orders.{bag_of, tree_cmp}
use Rattle.pig_value.specs.Sorts.{sort}
use Rattle.pig_value.specs.Trees.{Tree, at}
use Rattle.pig_value.specs.declared.functions.Function.{Function}
use Rattle.pig_typed.specs.Blocks.{foreach_all, foreach_rows}
use Rattle.pig_typed.specs.Evaluation.{ev}
use Rattle.pig_typed.specs.Operators.{pick}
use Rattle.pig_typed.specs.Typed.{TypedBlock}
use Rattle.pig_algebra.specs.Cuts.{TypedCut, c_key, c_part, c_row, cuts_in, cuts_of, is_combinable}
use Rattle.pig_algebra.specs.Parts.{merging}

-- ---- parts

-- the rows, or these columns of them
abbrev pub seen_in : Option (List ℕ) → List (List Tree) → List (List Tree)
seen_in None rows = rows
seen_in (Some fields) rows = map (pick fields) rows

-- what a function gives of the rows
abbrev pub part_tree : Function → Option (List ℕ) → List (List Tree) → Tree
part_tree function columns rows = column_tree function (map (looked_at function) (seen_in columns rows))

-- the part of rows that have the key: none where the item is made of the key alone, and of a DISTINCT the row, which
-- is the key
abbrev pub parts_at : Tree → List (List Tree) → TypedCut → List Tree
parts_at key rows (c_key e) = []
parts_at key rows (c_part function columns) = part_tree function columns rows ∷ []
parts_at key rows c_row = key ∷ []

-- the parts of all cuts, in their order
abbrev pub parts_by : List TypedCut → Tree → List (List Tree) → List Tree
parts_by cuts key rows = flat_map (parts_at key rows) cuts

abbrev pub parts_of_rows : TypedBlock → Tree → List (List Tree) → List Tree
parts_of_rows block = parts_by (cuts_in block)

-- one entry for each key, whose row is the parts of the rows that have it
abbrev pub combined : (Tree → List (List Tree) → List Tree) → List Entry → List Entry
combined parts = by_key tree_cmp (λ e. e.key)
    (λ key entries. record { key = key; input = 0; row = parts key (map (λ e. e.row) entries) } ∷ [])

-- ---- finished rows

-- The items that cuts give of a key and lists of its parts: that of the key alone, or what brings the parts together.
-- Each cut with a part takes one off the front of each list.
abbrev pub finished : List TypedCut → Tree → List (List Tree) → List Tree
finished [] key parts = []
finished (c_key e ∷ cuts) key parts = ev e (key ∷ []) [] ∷ finished cuts key parts
finished (c_part function columns ∷ cuts) key parts =
    column_tree (merging function) (map (at 0) parts) ∷ finished cuts key (map (drop 1) parts)
finished (c_row ∷ cuts) key parts = key ∷ finished cuts key (map (drop 1) parts)

-- the row of each key, of entries whose rows are parts
abbrev pub folded : TypedBlock → List Entry → List (List Tree)
folded block = by_key tree_cmp (λ e. e.key)
    (λ key entries. finished (cuts_in block) key (map (λ e. e.row) entries) ∷ [])

-- ---- the laws

-- GROUP of the rows of the first input: each key with the bag of its rows
abbrev pub first_rows : List Entry → List (List Tree)
first_rows entries = map (λ e. e.row) (filter (λ e. e.input == 0) entries)

abbrev pub grouped : List Entry → List (List Tree)
grouped = by_key tree_cmp (λ e. e.key) (λ key entries. (key ∷ bag_tree (first_rows entries) ∷ []) ∷ [])

-- the parts of one or more lists of rows are finished to the FOREACH's row of the key and the bag of all the rows
abbrev pub PartsFinishToTheRow : Type 0
PartsFinishToTheRow = (block : TypedBlock) (cuts : List TypedCut) → cuts_of block ≡ Some cuts
    → (key : Tree) (rows : List (List Tree)) (more : List (List (List Tree)))
    → foreach_rows block (key ∷ bag_tree (flat_map (λ rs. rs) (rows ∷ more)) ∷ [])
    ≡ finished cuts key (map (parts_by cuts key) (rows ∷ more)) ∷ []

-- what a task hands on to one part of the keys
abbrev pub handed_to : TypedBlock → (Tree → ℕ) → ℕ → List Entry → List Entry
handed_to block part p entries = in_part (λ e. part e.key) p (combined (parts_of_rows block) entries)

-- Entries of one input come in tasks, each of which combines its own. Those of each part of the keys are folded, in any
-- order: all parts together give what the FOREACH makes of the GROUP of all entries.
abbrev pub CombinersLaw : Type 0
CombinersLaw = (block : TypedBlock) → is_combinable block ≡ true
    → (part : Tree → ℕ) (n : ℕ) → ((key : Tree) → part key < n)
    → (tasks : List (List Entry)) → AllByRecursion (AllByRecursion (λ e. e.input ≡ 0)) tasks
    → (given : ℕ → List Entry) → ((p : ℕ) → IsPermutation (given p) (flat_map (handed_to block part p) tasks))
    → bag_of (flat_map (λ p. folded block (given p)) (range_with_len 0 n))
    ≡ bag_of (foreach_all block (grouped (flat_map (λ es. es) tasks)))

-- the same of tasks that hand on what they combined sorted by an order of entries
abbrev pub SortedCombinersLaw : Type 0
SortedCombinersLaw = (block : TypedBlock) → is_combinable block ≡ true
    → (part : Tree → ℕ) (n : ℕ) → ((key : Tree) → part key < n) → (order : Entry → Entry → Ordering)
    → (tasks : List (List Entry)) → AllByRecursion (AllByRecursion (λ e. e.input ≡ 0)) tasks
    → bag_of (flat_map (λ p. folded block (flat_map (λ es. sort order (handed_to block part p es)) tasks))
    (range_with_len 0 n))
    ≡ bag_of (foreach_all block (grouped (flat_map (λ es. es) tasks)))
