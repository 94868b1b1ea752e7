-- A code for trees, which the `Model` of a type that contracts see as trees asks for: that of the values.
use Rattle.std.specs.Prelude.{◌≡◌, List, [], ◌∷◌, map, refl}
use Rattle.std.proofs.Common.{ap, ◌∙◌}
use Rattle.std.specs.Coded.{Coded, code_by}
use Rattle.pig_value.specs.Trees.{Tree, Fields, Tuples, Entries, v_null, v_bool, v_int, v_long, v_chars, v_bytes, v_tuple, v_bag, v_listed, v_map, no_fields, more_fields, no_tuples, more_tuples, no_entries, more_entries, fields_of, tuples_of, entries_of, entry_of, tree}
use Rattle.pig_value.specs.contracts.values.Value as row
use Rattle.pig_value.specs.declared.values.Value.{Value}
use Rattle.pig_value.specs.declared.values.Value.TheVariants as value
use Rattle.pig_value.specs.declared.values.Pair.{Pair}
use Rattle.pig_value.specs.TreeViews.{tree-Null, tree-Bool, tree-Int, tree-Long, tree-Chars, tree-Bytes, tree-Tuple, tree-Bag, tree-Listed, tree-Map, entry_is}

-- the value of a tree
abbrev mutual
  pub value_of : Tree → Value
  value_of v_null = value.Null
  value_of (v_bool b) = value.Bool b
  value_of (v_int z) = value.Int z
  value_of (v_long z) = value.Long z
  value_of (v_chars text) = value.Chars text
  value_of (v_bytes bytes) = value.Bytes bytes
  value_of (v_tuple vs) = value.Tuple (row_of_fields vs)
  value_of (v_bag rs) = value.Bag (rows_of_tuples rs)
  value_of (v_listed rs) = value.Listed (rows_of_tuples rs)
  value_of (v_map ps) = value.Map (pairs_of_entries ps)

  pub row_of_fields : Fields → List Value
  row_of_fields no_fields = []
  row_of_fields (more_fields v vs) = value_of v ∷ row_of_fields vs

  pub rows_of_tuples : Tuples → List (List Value)
  rows_of_tuples no_tuples = []
  rows_of_tuples (more_tuples r rs) = row_of_fields r ∷ rows_of_tuples rs

  pub pairs_of_entries : Entries → List Pair
  pairs_of_entries no_entries = []
  pairs_of_entries (more_entries key v ps) = record { key = key; value = value_of v } ∷ pairs_of_entries ps

mutual
  pub tree_back : (v : Tree) → tree (value_of v) ≡ v
  tree_back v_null = tree-Null
  tree_back (v_bool b) = tree-Bool b
  tree_back (v_int z) = tree-Int z
  tree_back (v_long z) = tree-Long z
  tree_back (v_chars text) = tree-Chars text
  tree_back (v_bytes bytes) = tree-Bytes bytes
  tree_back (v_tuple vs) = tree-Tuple (row_of_fields vs) ∙ ap v_tuple (row_back vs)
  tree_back (v_bag rs) = tree-Bag (rows_of_tuples rs) ∙ ap v_bag (rows_back rs)
  tree_back (v_listed rs) = tree-Listed (rows_of_tuples rs) ∙ ap v_listed (rows_back rs)
  tree_back (v_map ps) = tree-Map (pairs_of_entries ps) ∙ ap v_map (pairs_back ps)

  pub row_back : (vs : Fields) → fields_of (map tree (row_of_fields vs)) ≡ vs
  row_back no_fields = refl
  row_back (more_fields v vs) = λ i. more_fields (tree_back v i) (row_back vs i)

  pub rows_back : (rs : Tuples) → tuples_of (map (map tree) (rows_of_tuples rs)) ≡ rs
  rows_back no_tuples = refl
  rows_back (more_tuples r rs) = λ i. more_tuples (row_back r i) (rows_back rs i)

  pub pairs_back : (ps : Entries) → entries_of (map entry_of (pairs_of_entries ps)) ≡ ps
  pairs_back no_entries = refl
  pairs_back (more_entries key v ps) =
      ap (λ p. more_entries p.0 p.1 (entries_of (map entry_of (pairs_of_entries ps)))) (entry_is (record { key = key; value = value_of v }))
      ∙ (λ i. more_entries key (tree_back v i) (pairs_back ps i))

pub coded_tree : Coded Tree
coded_tree = code_by Value row.the_row.coded value_of tree tree_back
