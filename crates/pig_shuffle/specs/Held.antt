-- What a shuffle holds once it took rows.
use Rattle.std.specs.Prelude.{◌≡◌, ◌≢◌, ◌⊎◌, ℕ, List, [], ◌∷◌, ◌++◌, map, length, Option, Some, None, slice_get}
use Rattle.std.specs.List.{AllByRecursion, range_with_len}
use Rattle.std.specs.Option.{option_map_or}
use Rattle.pig_value.specs.Gathering.{Entry, in_part}
use Rattle.pig_value.specs.Trees.{Tree, fields_of, tree, v_tuple}
use Rattle.pig_value.specs.Valid.{IsRow, IsValue}
use Rattle.pig_value.specs.declared.operators.Dir.{Dir}
use Rattle.pig_keycode.specs.Keys.{IsKey}
use Rattle.pig_typed.specs.Typed.{block_typed, typed}
use Rattle.pig_typed.specs.declared.blocks.SortKey.{SortKey}
use Rattle.pig_algebra.specs.Combining.{combined, parts_by}
use Rattle.pig_algebra.specs.Cuts.{TypedCut, c_row, cuts_in}
use Rattle.pig_plan.specs.ByKey.{key_of}
use Rattle.pig_plan.specs.Entries.{dirs_of, key_at, sort_key_of, sort_keys}
use Rattle.pig_plan.specs.Operators.{keys_of}
use Rattle.pig_plan.specs.Plans.{PlanOp, op_of}
use Rattle.pig_plan.specs.declared.nodes.NodeOp.{NodeOp}
use Rattle.pig_runs.specs.Alone.{SameKeys, keys_in}
use Rattle.pig_runs.specs.Entries.{InDirections, and_entries, run_of}
use Rattle.pig_runs.specs.Parts.{pn}
use Rattle.pig_combine.specs.Holdings.{HasAdded, Holding, cuts_held, entry_of}
use Rattle.pig_physical.specs.Values.{partitions}
use Rattle.pig_shuffle.specs.Shuffling.{Shuffling, cuts_by, entries_by}
use Rattle.pig_shuffle.specs.declared.making.Combining.{Combining}
use Rattle.pig_shuffle.specs.declared.making.Combining.TheVariants as combining
use Rattle.pig_shuffle.specs.declared.keying.Keying.{Keying}
use Rattle.pig_shuffle.specs.declared.keying.Keying.TheVariants as keying
use Rattle.pig_shuffle.specs.declared.parts.Parts.{Parts}

-- the number of partitions; of each the entries in the order in which they came, the table, the keys
abbrev pub Held : Type 0
Held = ℕ × (List InDirections × (List Holding × List (List Tree)))

abbrev pub runs_of_held : Held → List InDirections
runs_of_held held = held.1.0

abbrev pub tables_of_held : Held → List Holding
tables_of_held held = held.1.1.0

abbrev pub keys_of_held : Held → List (List Tree)
keys_of_held held = held.1.1.1

-- a shuffle: the operator, the number of the input, and what it holds
abbrev pub Shuffled : Type 0
Shuffled = NodeOp × (ℕ × Held)

-- ---- partitions

abbrev pub entries_in : ℕ → ℕ → List Entry → List Entry
entries_in n p entries = in_part (λ e. pn e.key n) p entries

-- as a table takes them, which asks for no input
abbrev pub as_added : List Entry → List Entry
as_added entries = map (λ e. entry_of e.key e.row) entries

-- there are n of them, and of each at its place this holds
pub record EachAt {X : Type 0} (P : ℕ → X → Type 0) (n : ℕ) (xs : List X) : Type 0 where
  pub count : length xs ≡ n
  pub each : (p : ℕ) (x : X) → slice_get xs p ≡ Some x → P p x

-- the entries of a partition, in these directions
abbrev pub IsOfPart : List Dir → ℕ → List Entry → ℕ → InDirections → Type 0
IsOfPart ds n entries p run = run ≡ record { dirs = ds; entries = entries_in n p entries }

abbrev pub HasAddedPart : List TypedCut → ℕ → List Entry → ℕ → Holding → Type 0
HasAddedPart cuts n entries p table = (cuts_held table ≡ cuts) × HasAdded (as_added (entries_in n p entries)) table

-- the keys of a partition, however often each
abbrev pub AreKeysOfPart : ℕ → List Entry → ℕ → List Tree → Type 0
AreKeysOfPart n entries p keys = SameKeys (keys_in (entries_in n p entries)) keys

pub record HoldRuns (ds : List Dir) (n : ℕ) (entries : List Entry) (held : Held) : Type 0 where
  pub count : held.0 ≡ n
  pub runs : EachAt (IsOfPart ds n entries) n (runs_of_held held)
  pub tables : tables_of_held held ≡ []
  pub keys : keys_of_held held ≡ []

pub record HoldTables (cuts : List TypedCut) (n : ℕ) (entries : List Entry) (held : Held) : Type 0 where
  pub count : held.0 ≡ n
  pub runs : runs_of_held held ≡ []
  pub tables : EachAt (HasAddedPart cuts n entries) n (tables_of_held held)
  pub keys : keys_of_held held ≡ []

-- the one part of a key is the key
pub record HoldKeys (cuts : List TypedCut) (n : ℕ) (entries : List Entry) (held : Held) : Type 0 where
  pub one : cuts ≡ c_row ∷ []
  pub count : held.0 ≡ n
  pub runs : runs_of_held held ≡ []
  pub tables : tables_of_held held ≡ []
  pub keys : EachAt (AreKeysOfPart n entries) n (keys_of_held held)

-- What is held of entries: a table for each partition where they are combined, or the keys where these are all; else the
-- entries of each partition, or all in one where they are sorted.
abbrev pub Hold : Option (List TypedCut) → Option (List SortKey) → ℕ → List Entry → Held → Type 0
Hold (Some cuts) sorting n entries held = HoldTables cuts n entries held ⊎ HoldKeys cuts n entries held
Hold None (Some keys) n entries held = HoldRuns (dirs_of keys) 1 entries held
Hold None None n entries held = HoldRuns [] n entries held

-- ---- one more entry

abbrev pub entry_under : Tree → ℕ → List Tree → Entry
entry_under key i row = record { key = key; input = i; row = row }

-- what became of what is held, once one more entry came
abbrev pub HoldsOneMore : Entry → Held → Held → Type 0
HoldsOneMore e old new = (cuts : Option (List TypedCut)) (sorting : Option (List SortKey)) (n : ℕ) (entries : List Entry)
    → Hold cuts sorting n entries old → Hold cuts sorting n (entries ++ e ∷ []) new

-- a list whose element at a place is changed so, where it has one
pub record ChangedAt {X : Type 0} (at : ℕ) (R : X → X → Type 0) (xs ys : List X) : Type 0 where
  pub count : length ys ≡ length xs
  pub others : (p : ℕ) → p ≢ at → slice_get ys p ≡ slice_get xs p
  pub here : (x y : X) → slice_get xs at ≡ Some x → slice_get ys at ≡ Some y → R x y

abbrev pub GotEntry : Entry → InDirections → InDirections → Type 0
GotEntry e old new = new ≡ and_entries (e ∷ []) old

abbrev pub TookEntry : Tree → List Tree → Holding → Holding → Type 0
TookEntry key row old new =
    (cuts_held new ≡ cuts_held old)
    × ((added : List Entry) → HasAdded added old → HasAdded (added ++ entry_of key row ∷ []) new)

abbrev pub GotKey : Tree → List Tree → List Tree → Type 0
GotKey key old new = SameKeys (old ++ key ∷ []) new

-- ---- no entries, and the runs of all

-- a table of these cuts with nothing added
abbrev pub HoldsNothing : List TypedCut → Holding → Type 0
HoldsNothing cuts table = (cuts_held table ≡ cuts) × HasAdded [] table

-- the run of a table
abbrev pub IsFlushed : Holding → InDirections → Type 0
IsFlushed table run = (added : List Entry) → HasAdded added table → run ≡ run_of [] (combined (parts_by (cuts_held table)) added)

-- the runs that are made of it
abbrev pub runs_held : Option (List TypedCut) → Option (List SortKey) → ℕ → List Entry → List InDirections
runs_held (Some cuts) sorting n entries = map (λ p. run_of [] (combined (parts_by cuts) (entries_in n p entries))) (range_with_len 0 n)
runs_held None (Some keys) n entries = run_of (dirs_of keys) entries ∷ []
runs_held None None n entries = partitions n entries

-- ---- the code's forms

abbrev pub held_in : Parts → Held
held_in p = (p.count, (p.runs.items, (p.tables.items, p.keys.items)))

abbrev pub dirs_in : List InDirections → List (List Dir)
dirs_in runs = map (λ run. run.dirs) runs

-- the key is as the directions of each of the runs ask
abbrev pub FitsIn : List InDirections → Tree → Type 0
FitsIn runs key = AllByRecursion (λ ds. IsKey ds key) (dirs_in runs)

-- the key under which a row comes
abbrev pub key_by : Keying → List Tree → Tree
key_by (keying.One key) row = tree key
key_by (keying.By keys) row = key_of (keys_of (map typed keys.now) row)
key_by (keying.Fields keys) row = sort_key_of keys.now row
key_by keying.Row row = v_tuple (fields_of row)

abbrev pub cuts_from : Combining → List TypedCut
cuts_from combining.Row = c_row ∷ []
cuts_from (combining.Block block) = cuts_in (block_typed block.now)

-- the directions of an operator's runs
abbrev pub dirs_by : PlanOp → List Dir
dirs_by o = option_map_or dirs_of (sort_keys o) []

-- rows come under the keys of an operator's input, which are as their directions ask
pub record IsReady (o : PlanOp) (i : ℕ) (k : Keying) (held : Held) : Type 0 where
  pub keys : (row : List Tree) → key_by k row ≡ key_at o i row
  pub values : (row : List Tree) → IsRow row → IsValue (key_at o i row)
  pub fit : (row : List Tree) → IsRow row → FitsIn held.1.0 (key_at o i row)

-- ---- shuffles

-- the shuffle is this one, and these are all rows that it took
pub record HasShuffled (w : Shuffling) (rows : List (List Tree)) (s : Shuffled) : Type 0 where
  pub op : op_of s.0 ≡ w.op
  pub input : s.1.0 ≡ w.input
  pub held : Hold (cuts_by w.fold w.op) (sort_keys w.op) w.parts (entries_by w rows) s.1.1

-- what became of a shuffle that took further rows
abbrev pub TookMore : Shuffled → List (List Tree) → Shuffled → Type 0
TookMore a rows b = (w : Shuffling) (seen : List (List Tree)) → HasShuffled w seen a → HasShuffled w (seen ++ rows) b
