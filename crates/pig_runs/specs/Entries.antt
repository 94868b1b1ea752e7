-- Entries, their order, and runs, as contracts see them.
use Rattle.std.specs.Prelude.{ℕ, List, [], ◌∷◌, ◌++◌, drop, refl, Option, option_map, slice_get}
use Rattle.std.specs.List.{AllByRecursion}
use Rattle.std.specs.Ordering.{ordering_then, nat_cmp}
use Rattle.std.specs.declared.cmp.Ordering.{Ordering}
use Rattle.std.specs.Coded.{Coded, code_by, coded×, coded_ℕ, coded_list}
use Rattle.pig_value.specs.Gathering.{Entry}
use Rattle.pig_value.specs.Trees.{Tree, tree, row_tree}
use Rattle.pig_value.specs.TreeCode.{coded_tree}
use Rattle.pig_value.specs.Orders.{row_cmp}
use Rattle.pig_value.specs.Sorts.{sort}
use Rattle.pig_value.specs.Valid.{IsRow}
use Rattle.pig_value.specs.declared.operators.Dir.{Dir}
use Rattle.pig_value.specs.contracts.operators.Dir as directions
use Rattle.pig_keycode.specs.Keys.{IsKey, key_cmp}
use Rattle.pig_runs.specs.declared.entries.Entry as declared

-- an entry that the code holds
abbrev pub keyed : declared.Entry → Entry
keyed e = record { key = tree e.key; input = e.input; row = row_tree e.row }

-- directions, and entries whose keys are compared in them
pub record InDirections : Type 0 where
  pub dirs : List Dir
  pub entries : List Entry

-- the key is of the form that the directions ask, and it and the row are of values
pub record IsEntry (ds : List Dir) (e : Entry) : Type 0 where
  pub key : IsKey ds e.key
  pub row : IsRow e.row

abbrev pub AreKeyed : List Dir → List Entry → Type 0
AreKeyed ds = AllByRecursion (IsEntry ds)

-- the order of a run: by key in its directions, then by input, then by row
abbrev pub run_cmp : List Dir → Entry → Entry → Ordering
run_cmp ds e f = ordering_then (key_cmp ds e.key f.key) (ordering_then (nat_cmp e.input f.input) (row_cmp e.row f.row))

-- the key at a place, where there is one
abbrev pub key_at : InDirections → ℕ → Option Tree
key_at b at = option_map (λ e. e.key) (slice_get b.entries at)

-- the sorted run of entries
abbrev pub run_of : List Dir → List Entry → InDirections
run_of ds es = record { dirs = ds; entries = sort (run_cmp ds) es }

-- no entries yet, and more entries behind others
abbrev pub no_entries_in : List Dir → InDirections
no_entries_in ds = record { dirs = ds; entries = [] }

abbrev pub and_entries : List Entry → InDirections → InDirections
and_entries es b = record { dirs = b.dirs; entries = b.entries ++ es }

-- what is left behind the first so many entries
abbrev pub left_of : ℕ → InDirections → InDirections
left_of n b = record { dirs = b.dirs; entries = drop n b.entries }

-- all entries of runs, one run after another
abbrev pub entries_of_all : List InDirections → List Entry
entries_of_all [] = []
entries_of_all (r ∷ rs) = r.entries ++ entries_of_all rs

-- ---- codes, which the `Model`s of builders and runs ask for

abbrev parts : Entry → Tree × (ℕ × List Tree)
parts e = (e.key, (e.input, e.row))

abbrev joined : Tree × (ℕ × List Tree) → Entry
joined p = record { key = p.0; input = p.1.0; row = p.1.1 }

abbrev pub coded_entry : Coded Entry
coded_entry = code_by (Tree × (ℕ × List Tree)) (coded× coded_tree (coded× coded_ℕ (coded_list coded_tree))) parts joined (λ _. refl)

abbrev halves : InDirections → List Dir × List Entry
halves b = (b.dirs, b.entries)

abbrev whole : List Dir × List Entry → InDirections
whole p = record { dirs = p.0; entries = p.1 }

abbrev pub coded_in_directions : Coded InDirections
coded_in_directions = code_by (List Dir × List Entry) (coded× (coded_list directions.the_row.coded) (coded_list coded_entry)) halves whole (λ _. refl)
