-- What a lookup holds: the rows of one input of a replicated JOIN, each with its key.
-- (Pig Latin Basics: "JOIN (inner)", "Replicated Joins". That a key which holds a null has no match is said there of nulls; that a
-- tuple which holds one is such a key is a choice of this profile.)
use Rattle.std.specs.Prelude.{List, [], map, refl, if◌then◌else◌}
use Rattle.std.specs.Coded.{Coded, code_by, coded×, coded_list}
use Rattle.std.specs.Ordering.{ordering_then}
use Rattle.std.specs.declared.cmp.Ordering.{Ordering}
use Rattle.pig_value.specs.Gathering.{with_key}
use Rattle.pig_value.specs.Orders.{bag_of, row_cmp, tree_cmp}
use Rattle.pig_value.specs.Sorts.{sort}
use Rattle.pig_value.specs.TreeCode.{coded_tree}
use Rattle.pig_value.specs.Trees.{Tree}
use Rattle.pig_typed.specs.Typed.{Typed}
use Rattle.pig_plan.specs.ByKey.{holds_null, key_of}
use Rattle.pig_plan.specs.Operators.{keys_of}

-- a row with its key
pub record KeyedRow : Type 0 where
  pub key : Tree
  pub row : List Tree

abbrev pub key_in : List Typed → List Tree → Tree
key_in keys row = key_of (keys_of keys row)

abbrev pub keyed_row : List Typed → List Tree → KeyedRow
keyed_row keys row = record { key = key_in keys row; row = row }

-- rows go by their keys, and those of one key by the order of rows
abbrev pub keyed_cmp : KeyedRow → KeyedRow → Ordering
keyed_cmp x y = ordering_then (tree_cmp x.key y.key) (row_cmp x.row y.row)

-- the lookup of an input's rows: these rows with their keys, each as often as it is there, in order
abbrev pub lookup_of : List Typed → List (List Tree) → List KeyedRow
lookup_of keys rows = sort keyed_cmp (map (keyed_row keys) rows)

-- the rows with a key, sorted
abbrev pub rows_under : Tree → List KeyedRow → List (List Tree)
rows_under key held = bag_of (map (λ r. r.row) (with_key tree_cmp (λ r. r.key) key held))

-- the matches of a key: the rows with it, and none where it holds a null
abbrev pub matches_in : List KeyedRow → Tree → List (List Tree)
matches_in held key = if holds_null key then [] else rows_under key held

-- ---- its code, which the `Model` of a lookup asks for

abbrev parts : KeyedRow → Tree × List Tree
parts r = (r.key, r.row)

abbrev joined : Tree × List Tree → KeyedRow
joined p = record { key = p.0; row = p.1 }

abbrev pub coded_keyed_row : Coded KeyedRow
coded_keyed_row = code_by (Tree × List Tree) (coded× coded_tree (coded_list coded_tree)) parts joined (λ _. refl)
