-- Values and kinds as trees, which is what clauses say of them.
use Rattle.std.specs.Prelude.{ℕ, ℤ, Bool, List, [], ◌∷◌, map, Option, Some, None, slice_get}
use Rattle.std.specs.Borrow.{Bor}
use Rattle.std.specs.Option.{option_copied, option_map, unwrap_or}
use Rattle.pig_value.specs.declared.values.Value.{Value}
use Rattle.pig_value.specs.declared.values.Value.TheOpen.{Value-F, Pair-F}
use Rattle.pig_value.specs.declared.values.Value.TheFolds.{fold-Value, fold-Pair}
use Rattle.pig_value.specs.declared.values.Pair.{Pair}
use Rattle.pig_value.specs.declared.values.Kind.{Kind}
use Rattle.pig_value.specs.declared.values.Kind.TheOpen.{Kind-F}
use Rattle.pig_value.specs.declared.values.Kind.TheFolds.{fold-Kind}

-- a value: one of ten forms
mutual
  pub data Tree : Type 0 where
    v_null : Tree
    v_bool : Bool → Tree
    v_int : ℤ → Tree
    v_long : ℤ → Tree
    v_chars : List ℕ → Tree
    v_bytes : List ℕ → Tree
    v_tuple : Fields → Tree
    v_bag : Tuples → Tree
    v_listed : Tuples → Tree
    v_map : Entries → Tree

  -- the fields of a tuple
  pub data Fields : Type 0 where
    no_fields : Fields
    more_fields : Tree → Fields → Fields

  -- the tuples of a bag
  pub data Tuples : Type 0 where
    no_tuples : Tuples
    more_tuples : Fields → Tuples → Tuples

  -- the keys of a map with their values
  pub data Entries : Type 0 where
    no_entries : Entries
    more_entries : List ℕ → Tree → Entries → Entries

-- lists as the forms above, and back
abbrev pub fields_of : List Tree → Fields
fields_of [] = no_fields
fields_of (v ∷ vs) = more_fields v (fields_of vs)

abbrev pub fields_list : Fields → List Tree
fields_list no_fields = []
fields_list (more_fields v vs) = v ∷ fields_list vs

abbrev pub tuples_of : List (List Tree) → Tuples
tuples_of [] = no_tuples
tuples_of (r ∷ rs) = more_tuples (fields_of r) (tuples_of rs)

abbrev pub tuples_list : Tuples → List (List Tree)
tuples_list no_tuples = []
tuples_list (more_tuples r rs) = fields_list r ∷ tuples_list rs

abbrev pub entries_of : List (List ℕ × Tree) → Entries
entries_of [] = no_entries
entries_of (p ∷ ps) = more_entries p.0 p.1 (entries_of ps)

abbrev pub entries_list : Entries → List (List ℕ × Tree)
entries_list no_entries = []
entries_list (more_entries key v ps) = (key, v) ∷ entries_list ps

-- one level of a value, with the tree of each inner value in its place
abbrev pub tree_step : Value-F Tree (List ℕ × Tree) → Tree
tree_step Value-F.Null = v_null
tree_step (Value-F.Bool b) = v_bool b
tree_step (Value-F.Int z) = v_int z
tree_step (Value-F.Long z) = v_long z
tree_step (Value-F.Chars text) = v_chars text
tree_step (Value-F.Bytes bytes) = v_bytes bytes
tree_step (Value-F.Tuple vs) = v_tuple (fields_of vs)
tree_step (Value-F.Bag rs) = v_bag (tuples_of rs)
tree_step (Value-F.Listed rs) = v_listed (tuples_of rs)
tree_step (Value-F.Map ps) = v_map (entries_of ps)

abbrev pub entry_step : Pair-F Tree (List ℕ × Tree) → List ℕ × Tree
entry_step p = (p.key, p.value)

-- a value as a tree
abbrev pub tree : Value → Tree
tree = fold-Value Tree (List ℕ × Tree) tree_step entry_step

-- a pair of a map as its key and the tree of its value
abbrev pub entry_of : Pair → List ℕ × Tree
entry_of = fold-Pair Tree (List ℕ × Tree) tree_step entry_step

-- a row, and a list of rows, as trees
abbrev pub row_tree : List Value → List Tree
row_tree = map tree

abbrev pub rows_tree : List (List Value) → List (List Tree)
rows_tree = map (map tree)

-- the rows of a bag or of a listed bag
abbrev pub rows_of_bag : Tree → Option (List (List Tree))
rows_of_bag (v_bag rows) = Some (tuples_list rows)
rows_of_bag (v_listed rows) = Some (tuples_list rows)
rows_of_bag v = None

-- the field of a row at a place: null where there is none
abbrev pub or_null : Option Tree → Tree
or_null value = unwrap_or value v_null

abbrev pub at : ℕ → List Tree → Tree
at place row = or_null (slice_get row place)

-- the tree of a field that was looked for: null where there is none
abbrev pub field_tree : Option (Bor Value) → Tree
field_tree found = or_null (option_map tree (option_copied found))

-- a kind
mutual
  pub data KindTree : Type 0 where
    k_boolean : KindTree
    k_int : KindTree
    k_long : KindTree
    k_chars : KindTree
    k_bytes : KindTree
    k_tuple : KindTrees → KindTree
    k_bag : KindTrees → KindTree
    k_map : KindTree → KindTree

  pub data KindTrees : Type 0 where
    no_kinds : KindTrees
    more_kinds : KindTree → KindTrees → KindTrees

abbrev pub kinds_of : List KindTree → KindTrees
kinds_of [] = no_kinds
kinds_of (k ∷ ks) = more_kinds k (kinds_of ks)

abbrev pub kinds_list : KindTrees → List KindTree
kinds_list no_kinds = []
kinds_list (more_kinds k ks) = k ∷ kinds_list ks

abbrev pub kind_step : Kind-F KindTree → KindTree
kind_step Kind-F.Boolean = k_boolean
kind_step Kind-F.Int = k_int
kind_step Kind-F.Long = k_long
kind_step Kind-F.Chararray = k_chars
kind_step Kind-F.Bytearray = k_bytes
kind_step (Kind-F.Tuple ks) = k_tuple (kinds_of ks)
kind_step (Kind-F.Bag ks) = k_bag (kinds_of ks)
kind_step (Kind-F.Map k) = k_map k

-- a kind as a tree
abbrev pub kind_tree : Kind → KindTree
kind_tree = fold-Kind KindTree kind_step

-- the kinds of a bag's rows
abbrev pub bag_kinds : KindTree → Option (List KindTree)
bag_kinds (k_bag kinds) = Some (kinds_list kinds)
bag_kinds k = None

-- the kinds of a tuple's fields, or of a bag's rows
abbrev pub kinds_in : KindTree → Option (List KindTree)
kinds_in (k_tuple kinds) = Some (kinds_list kinds)
kinds_in (k_bag kinds) = Some (kinds_list kinds)
kinds_in k = None

-- the kind of a map's values
abbrev pub look_kind : KindTree → Option KindTree
look_kind (k_map k) = Some k
look_kind k = None
