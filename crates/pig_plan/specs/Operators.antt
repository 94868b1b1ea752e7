-- What each operator gives of the rows of its inputs, as whole lists. A relation that no order is said of is a bag, and its list is the
-- sorted one.
-- (Pig Latin Basics: "Relational Operators". That an empty GROUP ALL gives no row, that null keys of several inputs group apart also
-- where a part of the key is null, and how ties of ORDER go are choices of this profile.)
use Rattle.std.specs.Prelude.{ℕ, pos, ◌+◌, Bool, List, [], ◌∷◌, ◌++◌, map, length, take, codes, bytes_eq, if◌then◌else◌}
use Rattle.std.specs.List.{filter, find, flat_map}
use Rattle.std.specs.Option.{option_map_or}
use Rattle.std.specs.Ordering.{is_lt, ordering_then}
use Rattle.std.specs.declared.cmp.Ordering.{Ordering}
use Rattle.std.specs.declared.cmp.Ordering.TheVariants.{Equal}
use Rattle.pig_value.specs.declared.inputs.Column.{Column}
use Rattle.pig_value.specs.declared.inputs.Input.{Input}
use Rattle.pig_value.specs.declared.operators.Side.{Side}
use Rattle.pig_value.specs.declared.operators.Side.TheVariants as side
use Rattle.pig_value.specs.FieldRows.{row_of}
use Rattle.pig_value.specs.Functions.{long_of}
use Rattle.pig_value.specs.Lines.{lines}
use Rattle.pig_value.specs.Orders.{dir_cmp, row_cmp, bag_of}
use Rattle.pig_value.specs.Sorts.{sort, distinct}
use Rattle.pig_value.specs.Trees.{Tree, v_chars}
use Rattle.pig_typed.specs.declared.blocks.SortKey.{SortKey}
use Rattle.pig_typed.specs.Blocks.{foreach_all, keys_cmp}
use Rattle.pig_typed.specs.Evaluation.{ev, passes}
use Rattle.pig_value.specs.Trees.{at}
use Rattle.pig_typed.specs.Typed.{Typed}
use Rattle.pig_plan.specs.Plans.{Keyed, PlanOp, p_load, p_filter, p_foreach, p_group_all, p_group, p_join, p_union, p_distinct, p_order, p_limit, p_store, p_assert, p_rank}
use Rattle.pig_value.specs.Gathering.{Entry}
use Rattle.pig_plan.specs.ByKey.{cogroup_of, entries_of_input, gathered, group_of, join_of, key_of, outer_of}

-- ---- rows by rows

-- the pieces of the input of a path
abbrev pub pieces_of : List Input → List ℕ → List (List ℕ)
pieces_of inputs path = option_map_or (λ input. input.pieces) (find (λ input. bytes_eq input.path path) inputs) []

-- LOAD: the rows of all lines of all pieces, in order
abbrev pub load_rows : List Input → List ℕ → ℕ → List Column → List (List Tree)
load_rows inputs path delim columns = flat_map (λ piece. map (row_of columns delim) (lines piece)) (pieces_of inputs path)

-- FILTER: the rows of which the condition has the value true
abbrev pub filter_rows : Typed → List (List Tree) → List (List Tree)
filter_rows cond rows = filter (passes cond) rows

-- ---- operators by key

-- the values of a row's keys
abbrev pub keys_of : List Typed → List Tree → List Tree
keys_of keys row = map (λ e. ev e row []) keys

-- the entries of the inputs by key, of which the first has the number i
abbrev pub keyed_entries : ℕ → List Keyed → (ℕ → List (List Tree)) → List Entry
keyed_entries i [] rows = []
keyed_entries i (input ∷ inputs) rows = entries_of_input (λ row. key_of (keys_of input.keys row)) i (rows input.input) ++ keyed_entries (i + 1) inputs rows

-- GROUP ALL: one row with the key `all` and the bag of all rows, and none where there are no rows
abbrev pub group_all : List (List Tree) → List (List Tree)
group_all rows = gathered group_of (entries_of_input (λ row. v_chars (codes "all")) 0 rows)

-- GROUP of one input, and COGROUP of several
abbrev pub group_rows : List Keyed → (ℕ → List (List Tree)) → List (List Tree)
group_rows (input ∷ []) rows = gathered group_of (keyed_entries 0 (input ∷ []) rows)
group_rows inputs rows = gathered (cogroup_of (map (λ input. input.inner) inputs) (length inputs)) (keyed_entries 0 inputs rows)

-- JOIN, of inputs that are so many fields wide
abbrev pub join_rows : Side → (ℕ → ℕ) → List Keyed → (ℕ → List (List Tree)) → List (List Tree)
join_rows side.Inner width inputs rows = gathered (join_of (length inputs)) (keyed_entries 0 inputs rows)
join_rows s width (a ∷ b ∷ inputs) rows = gathered (outer_of s (width a.input) (width b.input)) (keyed_entries 0 (a ∷ b ∷ inputs) rows)
join_rows s width inputs rows = []

-- ---- order

-- ORDER: sorted by the keys in their directions, and then by the order of rows
abbrev pub order_rows : List SortKey → List (List Tree) → List (List Tree)
order_rows keys rows = sort (keys_cmp keys) rows

-- the order of the keys alone
abbrev pub sort_keys_cmp : List SortKey → List Tree → List Tree → Ordering
sort_keys_cmp [] x y = Equal
sort_keys_cmp (key ∷ keys) x y = ordering_then (dir_cmp key.dir (at key.position x) (at key.position y)) (sort_keys_cmp keys x y)

-- RANK: each row behind its rank, which is 1 more than the number of rows whose keys stand before its own; with DENSE, of such keys
abbrev pub stand_before : List SortKey → List (List Tree) → List Tree → List (List Tree)
stand_before keys rows row = filter (λ other. is_lt (sort_keys_cmp keys other row)) rows

abbrev pub key_fields : List SortKey → List Tree → List Tree
key_fields keys row = map (λ key. at key.position row) keys

abbrev pub rank_of : List SortKey → Bool → List (List Tree) → List Tree → Tree
rank_of keys dense rows row =
    let before = stand_before keys rows row in
    let counted = if dense then distinct row_cmp (map (key_fields keys) before) else before in
    long_of (pos (length counted + 1))

abbrev pub rank_rows : List SortKey → Bool → List (List Tree) → List (List Tree)
rank_rows keys dense rows = map (λ row. rank_of keys dense rows row ∷ row) rows

-- ---- all of them

-- What a node's operator stands on beside the rows of its inputs: the inputs of the run, what the bare LIMITs kept, by statement
-- number, the widths of the nodes' rows, and which nodes are sorted.
pub record Setting : Type 0 where
  pub inputs : List Input
  pub kept : ℕ → List (List Tree)
  pub width : ℕ → ℕ
  pub sorted : ℕ → Bool

-- LIMIT: the first rows of a sorted node, and of another those that were kept
abbrev pub limit_rows : Bool → ℕ → List (List Tree) → List (List Tree) → List (List Tree)
limit_rows sorted count kept rows = if sorted then take count rows else bag_of kept

abbrev pub operator_rows : Setting → ℕ → PlanOp → (ℕ → List (List Tree)) → List (List Tree)
operator_rows s statement (p_load path delim columns) rows = bag_of (load_rows s.inputs path delim columns)
operator_rows s statement (p_filter input cond) rows = bag_of (filter_rows cond (rows input))
operator_rows s statement (p_foreach input block) rows = bag_of (foreach_all block (rows input))
operator_rows s statement (p_group_all input) rows = bag_of (group_all (rows input))
operator_rows s statement (p_group inputs) rows = bag_of (group_rows inputs rows)
operator_rows s statement (p_join inputs side replicated) rows = bag_of (join_rows side s.width inputs rows)
operator_rows s statement (p_union inputs) rows = bag_of (flat_map rows inputs)
operator_rows s statement (p_distinct input) rows = distinct row_cmp (rows input)
operator_rows s statement (p_order input keys) rows = order_rows keys (rows input)
operator_rows s statement (p_limit input count) rows = limit_rows (s.sorted input) count (s.kept statement) (rows input)
operator_rows s statement (p_store input path delim) rows = rows input
operator_rows s statement (p_assert input cond message) rows = rows input
operator_rows s statement (p_rank input keys dense) rows = bag_of (rank_rows keys dense (rows input))
