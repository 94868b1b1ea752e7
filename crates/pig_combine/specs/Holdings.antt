-- A table of keys: what it holds once entries are added.
use Rattle.std.specs.Prelude.{◌≡◌, ◌≢◌, ℕ, List, map}
use Rattle.std.specs.List.{AllByRecursion, flat_map}
use Rattle.std.specs.List.Sorted.{IsPermutation}
use Rattle.pig_value.specs.Gathering.{Entry, with_key}
use Rattle.pig_value.specs.Orders.{tree_cmp}
use Rattle.pig_value.specs.Sorts.{distinct}
use Rattle.pig_value.specs.Trees.{Tree, tree}
use Rattle.pig_value.specs.Valid.{IsValue}
use Rattle.pig_algebra.specs.Cuts.{TypedCut, cut_typed}
use Rattle.pig_algebra.specs.declared.cuts.Cut.{Cut}
use Rattle.pig_combine.specs.Names.{name}
use Rattle.pig_combine.specs.Tallies.{IsHeld, Told, found_by, part_told, told}
use Rattle.pig_combine.specs.declared.tally.Group as declared

-- a key with what is told of each cut
pub record Group : Type 0 where
  pub key : Tree
  pub told : List Told

abbrev pub group_told : declared.Group → Group
group_told g = record { key = tree g.key; told = map told g.tallies.items }

-- what the code of a table holds: its cuts and its groups
abbrev pub Holding : Type 0
Holding = List Cut × List declared.Group

abbrev pub cuts_held : Holding → List TypedCut
cuts_held h = map cut_typed h.0

abbrev pub groups_held : Holding → List Group
groups_held h = map group_told h.1

-- ---- entries that were added

-- the rows of entries with a key
abbrev pub rows_under : Tree → List Entry → List (List Tree)
rows_under key entries = map (λ e. e.row) (with_key tree_cmp (λ e. e.key) key entries)

-- There is one group for each key of the entries, and of each cut it tells what is found in all rows under its key.
pub record AreGroups (cuts : List TypedCut) (added : List Entry) (groups : List Group) : Type 0 where
  pub keys : IsPermutation (map (λ g. g.key) groups) (distinct tree_cmp (map (λ e. e.key) added))
  pub told : AllByRecursion (λ g. g.told ≡ map (found_by (rows_under g.key added)) cuts) groups

abbrev pub HasAdded : List Entry → Holding → Type 0
HasAdded added h = AreGroups (cuts_held h) added (groups_held h)

-- ---- the table

-- the entry of a group
abbrev pub entry_told : Group → Entry
entry_told g = record { key = g.key; input = 0; row = flat_map (part_told g.key) g.told }

-- what a group holds is of values
abbrev pub IsHeldGroup : declared.Group → Type 0
IsHeldGroup g = IsValue (tree g.key) × AllByRecursion IsHeld g.tallies.items

-- the names are those of the groups' keys, place by place, and what the groups hold is of values
abbrev pub AreHeld : List (List ℕ) → List declared.Group → Type 0
AreHeld names groups = (names ≡ map (λ g. name (tree g.key)) groups) × AllByRecursion IsHeldGroup groups

-- a name is none of these
abbrev pub IsNew : List ℕ → List (List ℕ) → Type 0
IsNew bytes names = AllByRecursion (λ n. n ≢ bytes) names

-- the entry of a row under a key
abbrev pub entry_of : Tree → List Tree → Entry
entry_of key row = record { key = key; input = 0; row = row }
