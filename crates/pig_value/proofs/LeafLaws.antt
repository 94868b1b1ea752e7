-- What is asked of the leaves of values, through the lists that operators make of them.
use Rattle.std.specs.Prelude.{◌<◌, ℕ, suc, Bool, List, [], ◌∷◌, take}
use Rattle.std.proofs.Common.{get_or}
use Rattle.std.specs.List.{filter, AllByRecursion}
use Rattle.pig_value.specs.Leaves.{AreBytes, Leaf, LeavesAre, FieldLeavesAre, TupleLeavesAre, EntryLeavesAre, well_formed}
use Rattle.pig_value.specs.Orders.{row_cmp, bag_of}
use Rattle.pig_value.specs.Trees.{Tree, Fields, Tuples, Entries, v_null, v_bool, v_int, v_long, v_chars, v_bytes, v_tuple, v_bag, v_listed, v_map, no_fields, more_fields, no_tuples, more_tuples, no_entries, more_entries, fields_of, tuples_of, entries_of}
use Rattle.pig_value.specs.Valid.{IsValue, AreFields, AreTuples, AreEntries}
use Rattle.pig_value.proofs.list_laws.Bags.{each-sort}
use Rattle.pig_value.proofs.list_laws.Listing.{each-filter, each-take}

-- a row, rows and the pairs of a map whose leaves are as asked
abbrev pub RowLeavesAre : Leaf → List Tree → Type 0
RowLeavesAre leaf row = FieldLeavesAre leaf (fields_of row)

abbrev pub RowsLeavesAre : Leaf → List (List Tree) → Type 0
RowsLeavesAre leaf rows = TupleLeavesAre leaf (tuples_of rows)

abbrev pub PairLeavesAre : Leaf → List ℕ × Tree → Type 0
PairLeavesAre leaf p = leaf.key p.0 × LeavesAre leaf p.1

module _ (leaf : Leaf) where
  -- one by one, and back
  pub fields_each : (row : List Tree) → RowLeavesAre leaf row → AllByRecursion (LeavesAre leaf) row
  fields_each [] h = tt
  fields_each (v ∷ row) h = (h.0, fields_each row h.1)

  pub fields_from_each : (row : List Tree) → AllByRecursion (LeavesAre leaf) row → RowLeavesAre leaf row
  fields_from_each [] h = tt
  fields_from_each (v ∷ row) h = (h.0, fields_from_each row h.1)

  pub tuples_each : (rows : List (List Tree)) → RowsLeavesAre leaf rows → AllByRecursion (RowLeavesAre leaf) rows
  tuples_each [] h = tt
  tuples_each (row ∷ rows) h = (h.0, tuples_each rows h.1)

  pub tuples_from_each : (rows : List (List Tree)) → AllByRecursion (RowLeavesAre leaf) rows → RowsLeavesAre leaf rows
  tuples_from_each [] h = tt
  tuples_from_each (row ∷ rows) h = (h.0, tuples_from_each rows h.1)

  pub entries_from_each : (ps : List (List ℕ × Tree)) → AllByRecursion (PairLeavesAre leaf) ps → EntryLeavesAre leaf (entries_of ps)
  entries_from_each [] h = tt
  entries_from_each (p ∷ ps) h = (h.0.0, h.0.1, entries_from_each ps h.1)

  -- rows that are left out or sorted
  pub rows-take : (n : ℕ) (rows : List (List Tree)) → RowsLeavesAre leaf rows → RowsLeavesAre leaf (take n rows)
  rows-take n rows h = tuples_from_each (take n rows) (each-take (RowLeavesAre leaf) n rows (tuples_each rows h))

  pub rows-filter : (p : List Tree → Bool) (rows : List (List Tree)) → RowsLeavesAre leaf rows → RowsLeavesAre leaf (filter p rows)
  rows-filter p rows h = tuples_from_each (filter p rows) (each-filter p (RowLeavesAre leaf) rows (tuples_each rows h))

  pub rows-sort : (rows : List (List Tree)) → RowsLeavesAre leaf rows → RowsLeavesAre leaf (bag_of rows)
  rows-sort rows h = tuples_from_each (bag_of rows) (each-sort row_cmp (RowLeavesAre leaf) rows (tuples_each rows h))

-- where each leaf that is as one asks is as another asks
module _ (leaf more : Leaf) (chars : (text : List ℕ) → leaf.chars text → more.chars text) (bytes : (text : List ℕ) → leaf.bytes text → more.bytes text)
    (key : (text : List ℕ) → leaf.key text → more.key text) (listed : leaf.listed → more.listed) where
  mutual
    pub leaves_weaker : (v : Tree) → LeavesAre leaf v → LeavesAre more v
    leaves_weaker v_null h = tt
    leaves_weaker (v_bool b) h = tt
    leaves_weaker (v_int z) h = tt
    leaves_weaker (v_long z) h = tt
    leaves_weaker (v_chars text) h = chars text h
    leaves_weaker (v_bytes text) h = bytes text h
    leaves_weaker (v_tuple vs) h = fields_weaker vs h
    leaves_weaker (v_bag rs) h = tuples_weaker rs h
    leaves_weaker (v_listed rs) h = (listed h.0, tuples_weaker rs h.1)
    leaves_weaker (v_map ps) h = entries_weaker ps h

    pub fields_weaker : (vs : Fields) → FieldLeavesAre leaf vs → FieldLeavesAre more vs
    fields_weaker no_fields h = tt
    fields_weaker (more_fields v vs) h = (leaves_weaker v h.0, fields_weaker vs h.1)

    pub tuples_weaker : (rs : Tuples) → TupleLeavesAre leaf rs → TupleLeavesAre more rs
    tuples_weaker no_tuples h = tt
    tuples_weaker (more_tuples r rs) h = (fields_weaker r h.0, tuples_weaker rs h.1)

    pub entries_weaker : (ps : Entries) → EntryLeavesAre leaf ps → EntryLeavesAre more ps
    entries_weaker no_entries h = tt
    entries_weaker (more_entries k v ps) h = (key k h.0, leaves_weaker v h.1, entries_weaker ps h.2)

-- the texts of a value are UTF-8, and its byte strings are of bytes
mutual
  pub value_leaves : (v : Tree) → IsValue v → LeavesAre well_formed v
  value_leaves v_null h = tt
  value_leaves (v_bool b) h = tt
  value_leaves (v_int z) h = tt
  value_leaves (v_long z) h = tt
  value_leaves (v_chars text) h = h
  value_leaves (v_bytes bytes) h = h
  value_leaves (v_tuple vs) h = fields_leaves vs h
  value_leaves (v_bag rs) h = tuples_leaves rs h.1
  value_leaves (v_listed rs) h = (tt, tuples_leaves rs h)
  value_leaves (v_map ps) h = entries_leaves ps h.1

  pub fields_leaves : (vs : Fields) → AreFields vs → FieldLeavesAre well_formed vs
  fields_leaves no_fields h = tt
  fields_leaves (more_fields v vs) h = (value_leaves v h.0, fields_leaves vs h.1)

  pub tuples_leaves : (rs : Tuples) → AreTuples rs → TupleLeavesAre well_formed rs
  tuples_leaves no_tuples h = tt
  tuples_leaves (more_tuples r rs) h = (fields_leaves r h.0, tuples_leaves rs h.1)

  pub entries_leaves : (ps : Entries) → AreEntries ps → EntryLeavesAre well_formed ps
  entries_leaves no_entries h = tt
  entries_leaves (more_entries key v ps) h = (h.0, value_leaves v h.1, entries_leaves ps h.2)

-- bytes, by index
pub bytes_at : (bs : List ℕ) → ((i : ℕ) → get_or bs i 0 < 256) → AreBytes bs
bytes_at [] h = tt
bytes_at (b ∷ bs) h = (h 0, bytes_at bs (λ i. let next : get_or (b ∷ bs) (suc i) 0 < 256 = h (suc i) in next))
