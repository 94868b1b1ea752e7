-- Which values are of a kind, when two kinds are the same, and what a kind holds.
use Rattle.std.specs.Prelude.{ℕ, ◌+◌, max, Bool, true, false, ◌&&◌, ◌||◌, List, ⊤}
use Rattle.pig_value.specs.Trees.{Tree, Fields, Tuples, Entries, v_null, v_bool, v_int, v_long, v_chars, v_bytes, v_tuple, v_bag, v_listed, v_map, no_fields, more_fields, no_tuples, more_tuples, no_entries, more_entries, KindTree, KindTrees, k_boolean, k_int, k_long, k_chars, k_bytes, k_tuple, k_bag, k_map, no_kinds, more_kinds, fields_of, tuples_of, kinds_of}

-- Null is of each kind. A tuple has as many fields as its kind, each of its own; a bag, also a listed one, has
-- tuples of its kind; a map has values of its kind.
abbrev mutual
  pub IsOf : Tree → KindTree → Type 0
  IsOf v_null k = ⊤
  IsOf (v_bool _) k_boolean = ⊤
  IsOf (v_int _) k_int = ⊤
  IsOf (v_long _) k_long = ⊤
  IsOf (v_chars _) k_chars = ⊤
  IsOf (v_bytes _) k_bytes = ⊤
  IsOf (v_tuple vs) (k_tuple ks) = FieldsOf vs ks
  IsOf (v_bag rs) (k_bag ks) = TuplesOf rs ks
  IsOf (v_listed rs) (k_bag ks) = TuplesOf rs ks
  IsOf (v_map ps) (k_map k) = EntriesOf ps k
  IsOf _ _ = ⊥

  pub FieldsOf : Fields → KindTrees → Type 0
  FieldsOf no_fields no_kinds = ⊤
  FieldsOf (more_fields v vs) (more_kinds k ks) = IsOf v k × FieldsOf vs ks
  FieldsOf _ _ = ⊥

  pub TuplesOf : Tuples → KindTrees → Type 0
  TuplesOf no_tuples ks = ⊤
  TuplesOf (more_tuples r rs) ks = FieldsOf r ks × TuplesOf rs ks

  pub EntriesOf : Entries → KindTree → Type 0
  EntriesOf no_entries k = ⊤
  EntriesOf (more_entries _ v ps) k = IsOf v k × EntriesOf ps k

-- a row has as many fields as there are kinds, each of its own, and each of the rows is so
abbrev pub IsRowOf : List Tree → List KindTree → Type 0
IsRowOf row kinds = FieldsOf (fields_of row) (kinds_of kinds)

abbrev pub AreRowsOf : List (List Tree) → List KindTree → Type 0
AreRowsOf rows kinds = TuplesOf (tuples_of rows) (kinds_of kinds)

-- being of a kind as a test
abbrev mutual
  pub is_of_kind : Tree → KindTree → Bool
  is_of_kind v_null k = true
  is_of_kind (v_bool _) k_boolean = true
  is_of_kind (v_int _) k_int = true
  is_of_kind (v_long _) k_long = true
  is_of_kind (v_chars _) k_chars = true
  is_of_kind (v_bytes _) k_bytes = true
  is_of_kind (v_tuple vs) (k_tuple ks) = fields_of_kinds vs ks
  is_of_kind (v_bag rs) (k_bag ks) = tuples_of_kinds rs ks
  is_of_kind (v_listed rs) (k_bag ks) = tuples_of_kinds rs ks
  is_of_kind (v_map ps) (k_map k) = entries_of_kind ps k
  is_of_kind _ _ = false

  pub fields_of_kinds : Fields → KindTrees → Bool
  fields_of_kinds no_fields no_kinds = true
  fields_of_kinds (more_fields v vs) (more_kinds k ks) = is_of_kind v k && fields_of_kinds vs ks
  fields_of_kinds _ _ = false

  pub tuples_of_kinds : Tuples → KindTrees → Bool
  tuples_of_kinds no_tuples ks = true
  tuples_of_kinds (more_tuples r rs) ks = fields_of_kinds r ks && tuples_of_kinds rs ks

  pub entries_of_kind : Entries → KindTree → Bool
  entries_of_kind no_entries k = true
  entries_of_kind (more_entries _ v ps) k = is_of_kind v k && entries_of_kind ps k

-- whether two kinds are the same
abbrev mutual
  pub kind_eq : KindTree → KindTree → Bool
  kind_eq k_boolean k_boolean = true
  kind_eq k_int k_int = true
  kind_eq k_long k_long = true
  kind_eq k_chars k_chars = true
  kind_eq k_bytes k_bytes = true
  kind_eq (k_tuple ks) (k_tuple ls) = kinds_eq ks ls
  kind_eq (k_bag ks) (k_bag ls) = kinds_eq ks ls
  kind_eq (k_map k) (k_map l) = kind_eq k l
  kind_eq _ _ = false

  pub kinds_eq : KindTrees → KindTrees → Bool
  kinds_eq no_kinds no_kinds = true
  kinds_eq (more_kinds k ks) (more_kinds l ls) = kind_eq k l && kinds_eq ks ls
  kinds_eq _ _ = false

-- how many kinds there are within a kind, itself counted: each scalar, tuple, bag and map is one
abbrev mutual
  pub width_of : KindTree → ℕ
  width_of (k_tuple ks) = 1 + widths_of ks
  width_of (k_bag ks) = 1 + widths_of ks
  width_of (k_map k) = 1 + width_of k
  width_of _ = 1

  pub widths_of : KindTrees → ℕ
  widths_of no_kinds = 0
  widths_of (more_kinds k ks) = width_of k + widths_of ks

-- how deep a kind nests: a scalar is 1 deep, and a tuple, a bag and a map are one deeper than what they hold
abbrev mutual
  pub depth_of : KindTree → ℕ
  depth_of (k_tuple ks) = 1 + depths_of ks
  depth_of (k_bag ks) = 1 + depths_of ks
  depth_of (k_map k) = 1 + depth_of k
  depth_of _ = 1

  pub depths_of : KindTrees → ℕ
  depths_of no_kinds = 0
  depths_of (more_kinds k ks) = max (depth_of k) (depths_of ks)

-- a kind is a bag or a map, or holds one
abbrev mutual
  pub has_bag_or_map : KindTree → Bool
  has_bag_or_map (k_tuple ks) = have_bag_or_map ks
  has_bag_or_map (k_bag ks) = true
  has_bag_or_map (k_map k) = true
  has_bag_or_map _ = false

  pub have_bag_or_map : KindTrees → Bool
  have_bag_or_map no_kinds = false
  have_bag_or_map (more_kinds k ks) = has_bag_or_map k || have_bag_or_map ks
