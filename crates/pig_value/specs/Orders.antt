-- The total order of values, and the normal form of a bag.
use Rattle.std.specs.Prelude.{ℕ, Bool, not, List, ◌∷◌}
use Rattle.std.specs.Ordering.{ordering_then, nat_cmp, int_cmp, bool_cmp, is_lt, is_le, is_eq, is_gt, is_ge}
use Rattle.std.specs.Cmp.Lexicographic.{slice_cmp}
use Rattle.std.specs.declared.cmp.Ordering.{Ordering}
use Rattle.std.specs.declared.cmp.Ordering.TheVariants.{Less, Equal, Greater}
use Rattle.pig_value.specs.Trees.{
  Tree,
  Fields,
  Tuples,
  Entries,
  v_null,
  v_bool,
  v_int,
  v_long,
  v_chars,
  v_bytes,
  v_tuple,
  v_bag,
  v_listed,
  v_map,
  no_fields,
  more_fields,
  no_tuples,
  more_tuples,
  no_entries,
  more_entries,
}
use Rattle.pig_value.specs.Sorts.{sort}
use Rattle.pig_value.specs.declared.operators.Dir.{Dir}
use Rattle.pig_value.specs.declared.operators.Dir.TheVariants as dir
use Rattle.pig_value.specs.declared.operators.Rel.{Rel}
use Rattle.pig_value.specs.declared.operators.Rel.TheVariants as rel

-- the rank of a form
abbrev pub rank : Tree → ℕ
rank v_null = 0
rank (v_bool _) = 1
rank (v_int _) = 2
rank (v_long _) = 3
rank (v_chars _) = 4
rank (v_bytes _) = 5
rank (v_tuple _) = 6
rank (v_bag _) = 7
rank (v_listed _) = 8
rank (v_map _) = 9

-- texts and byte strings go by their bytes
abbrev pub text_cmp : List ℕ → List ℕ → Ordering
text_cmp = slice_cmp nat_cmp

-- First the rank of the form, then the rule within the form: false before true, numbers by value, texts by
-- their bytes, tuples and bags like words in a lexicon, maps as their pairs.
abbrev mutual
  pub tree_cmp : Tree → Tree → Ordering
  tree_cmp (v_bool a) (v_bool b) = bool_cmp a b
  tree_cmp (v_int a) (v_int b) = int_cmp a b
  tree_cmp (v_long a) (v_long b) = int_cmp a b
  tree_cmp (v_chars a) (v_chars b) = text_cmp a b
  tree_cmp (v_bytes a) (v_bytes b) = text_cmp a b
  tree_cmp (v_tuple a) (v_tuple b) = fields_cmp a b
  tree_cmp (v_bag a) (v_bag b) = tuples_cmp a b
  tree_cmp (v_listed a) (v_listed b) = tuples_cmp a b
  tree_cmp (v_map a) (v_map b) = entries_cmp a b
  tree_cmp a b = nat_cmp (rank a) (rank b)

  pub fields_cmp : Fields → Fields → Ordering
  fields_cmp no_fields no_fields = Equal
  fields_cmp no_fields (more_fields _ _) = Less
  fields_cmp (more_fields _ _) no_fields = Greater
  fields_cmp (more_fields v vs) (more_fields w ws) = ordering_then (tree_cmp v w) (fields_cmp vs ws)

  pub tuples_cmp : Tuples → Tuples → Ordering
  tuples_cmp no_tuples no_tuples = Equal
  tuples_cmp no_tuples (more_tuples _ _) = Less
  tuples_cmp (more_tuples _ _) no_tuples = Greater
  tuples_cmp (more_tuples r rs) (more_tuples s ss) = ordering_then (fields_cmp r s) (tuples_cmp rs ss)

  pub entries_cmp : Entries → Entries → Ordering
  entries_cmp no_entries no_entries = Equal
  entries_cmp no_entries (more_entries _ _ _) = Less
  entries_cmp (more_entries _ _ _) no_entries = Greater
  entries_cmp (more_entries k v ps) (more_entries l w qs) = ordering_then (ordering_then (text_cmp k l) (tree_cmp v w)) (entries_cmp ps qs)

-- rows, lists of rows and lists of pairs
abbrev pub row_cmp : List Tree → List Tree → Ordering
row_cmp = slice_cmp tree_cmp

abbrev pub rows_cmp : List (List Tree) → List (List Tree) → Ordering
rows_cmp = slice_cmp row_cmp

abbrev pub pair_cmp : List ℕ × Tree → List ℕ × Tree → Ordering
pair_cmp p q = ordering_then (text_cmp p.0 q.0) (tree_cmp p.1 q.1)

abbrev pub pairs_cmp : List (List ℕ × Tree) → List (List ℕ × Tree) → Ordering
pairs_cmp = slice_cmp pair_cmp

-- the order of values in a direction
abbrev pub dir_cmp : Dir → Tree → Tree → Ordering
dir_cmp dir.Asc a b = tree_cmp a b
dir_cmp dir.Desc a b = tree_cmp b a

-- The order of rows in directions: field by field, each in its own, and what is behind the last direction ascending.
abbrev pub dirs_cmp : List Dir → List Tree → List Tree → Ordering
dirs_cmp (d ∷ ds) (v ∷ vs) (w ∷ ws) = ordering_then (dir_cmp d v w) (dirs_cmp ds vs ws)
dirs_cmp _ vs ws = row_cmp vs ws

-- whether a comparison holds where the operands stand so
abbrev pub rel_holds : Rel → Ordering → Bool
rel_holds rel.Eq found = is_eq found
rel_holds rel.Ne found = not (is_eq found)
rel_holds rel.Lt found = is_lt found
rel_holds rel.Le found = is_le found
rel_holds rel.Gt found = is_gt found
rel_holds rel.Ge found = is_ge found

-- the normal form of a bag: its rows, sorted
abbrev pub bag_of : List (List Tree) → List (List Tree)
bag_of = sort row_cmp
