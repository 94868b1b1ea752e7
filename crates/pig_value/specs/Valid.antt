-- What makes a tree a value: a bag is its own normal form, the keys of a map ascend and differ, an int and a long fit their
-- widths, chararrays and keys are UTF-8, and bytearrays are of bytes.
use Rattle.std.specs.Prelude.{◌≡◌, ℕ, List, [], ◌∷◌, map, ⊤, FitsSigned}
use Rattle.std.specs.Int.{w32, w64}
use Rattle.std.specs.declared.cmp.Ordering.TheVariants.{Less}
use Rattle.pig_value.specs.Trees.{Tree, Fields, Tuples, Entries, v_int, v_long, v_chars, v_bytes, v_tuple, v_bag, v_listed, v_map, no_fields, more_fields, no_tuples, more_tuples, no_entries, more_entries, fields_of, tuples_of, tuples_list, entries_list}
use Rattle.std.specs.Str.{IsUtf8}
use Rattle.pig_value.specs.Leaves.{AreBytes}
use Rattle.pig_value.specs.Orders.{text_cmp, bag_of}

-- each text stands before the next
abbrev pub TextsAscend : List (List ℕ) → Type 0
TextsAscend [] = ⊤
TextsAscend (text ∷ []) = ⊤
TextsAscend (text ∷ next ∷ texts) = (text_cmp text next ≡ Less) × TextsAscend (next ∷ texts)

abbrev mutual
  pub IsValue : Tree → Type 0
  IsValue (v_int z) = FitsSigned w32 z
  IsValue (v_long z) = FitsSigned w64 z
  IsValue (v_chars text) = IsUtf8 text
  IsValue (v_bytes bytes) = AreBytes bytes
  IsValue (v_tuple vs) = AreFields vs
  IsValue (v_bag rs) = (bag_of (tuples_list rs) ≡ tuples_list rs) × AreTuples rs
  IsValue (v_listed rs) = AreTuples rs
  IsValue (v_map ps) = TextsAscend (map (λ p. p.0) (entries_list ps)) × AreEntries ps
  IsValue _ = ⊤

  pub AreFields : Fields → Type 0
  AreFields no_fields = ⊤
  AreFields (more_fields v vs) = IsValue v × AreFields vs

  pub AreTuples : Tuples → Type 0
  AreTuples no_tuples = ⊤
  AreTuples (more_tuples r rs) = AreFields r × AreTuples rs

  pub AreEntries : Entries → Type 0
  AreEntries no_entries = ⊤
  AreEntries (more_entries key v ps) = IsUtf8 key × IsValue v × AreEntries ps

-- a row of values, and rows of values
abbrev pub IsRow : List Tree → Type 0
IsRow row = AreFields (fields_of row)

abbrev pub AreRows : List (List Tree) → Type 0
AreRows rows = AreTuples (tuples_of rows)
