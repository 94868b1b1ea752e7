-- The leaves of what is read: what is asked of them holds where it follows from what holds of the bytes. So what is read
-- from bytes without an LF holds none.
use Rattle.std.proofs.Common.{◌≢◌, ℕ, List, [], ◌∷◌, rules}
use Rattle.std.specs.List.{All, AllByRecursion}
use Rattle.std.specs.Str.Lossy.{replacement_bytes, utf8_lossy}
use Rattle.std.proofs.lemmas.List.Elements.{All-from_recursion}
use Rattle.pig_value.proofs.LeafLaws.{RowLeavesAre, entries_from_each, tuples_from_each, rows-sort}
use Rattle.pig_value.proofs.LossyTexts.{lossy_keeps}
use Rattle.pig_value.proofs.ReadLaws.{EachOf, HoldsOfForms, by_key_keeps, field_read}
use Rattle.pig_value.specs.FieldReader.{field_value}
use Rattle.pig_value.specs.Fields.{entries_by_key}
use Rattle.pig_value.specs.Leaves.{Leaf, LeavesAre}
use Rattle.pig_value.specs.Texts.{HasNoLf, IsLineFree, line_free}
use Rattle.pig_value.specs.Trees.{Tree, KindTree, KindTrees, no_kinds, more_kinds}

module _ (G : ℕ → Type 0) (leaf : Leaf) (chars : (bs : List ℕ) → All G bs → leaf.chars (utf8_lossy bs)) (bytes : (bs : List ℕ) → All G bs → leaf.bytes bs) (key : (bs : List ℕ) → All G bs → leaf.key (utf8_lossy bs)) where
  abbrev Leaves : KindTree → Tree → Type 0
  Leaves k v = LeavesAre leaf v

  row_leaves : (ks : KindTrees) (row : List Tree) → EachOf Leaves ks row → RowLeavesAre leaf row
  row_leaves no_kinds [] h = tt
  row_leaves (more_kinds k ks) (v ∷ row) h = (h.0, row_leaves ks row h.1)
  row_leaves no_kinds (v ∷ row) h = absurd h
  row_leaves (more_kinds k ks) [] h = absurd h

  rows_leaves : (ks : KindTrees) (rows : List (List Tree)) → AllByRecursion (EachOf Leaves ks) rows → AllByRecursion (RowLeavesAre leaf) rows
  rows_leaves ks [] h = tt
  rows_leaves ks (row ∷ rows) h = (row_leaves ks row h.0, rows_leaves ks rows h.1)

  leaves_hold : HoldsOfForms G leaf.key Leaves
  leaves_hold = record {
    null = λ k. tt;
    bool = λ b. tt;
    int = λ z h. tt;
    long = λ z h. tt;
    chars = chars;
    bytes = bytes;
    tuple = row_leaves;
    bag = λ ks rows h. rows-sort leaf rows (tuples_from_each leaf rows (rows_leaves ks rows h));
    key = key;
    map = λ k ps h. entries_from_each leaf (entries_by_key ps) (by_key_keeps leaf.key (LeavesAre leaf) ps h);
  }

  pub field_leaves : (k : KindTree) (bs : List ℕ) → All G bs → LeavesAre leaf (field_value k bs)
  field_leaves k bs given = field_read G leaf.key Leaves leaves_hold k bs given

-- a byte other than LF
abbrev NotLf : ℕ → Type 0
NotLf b = b ≢ 10

text_free : (bs : List ℕ) → HasNoLf bs → HasNoLf (utf8_lossy bs)
text_free bs free = lossy_keeps NotLf (All-from_recursion NotLf replacement_bytes (search rules)) bs free

pub field_free : (k : KindTree) (bs : List ℕ) → HasNoLf bs → IsLineFree (field_value k bs)
field_free k bs free = field_leaves NotLf line_free text_free (λ bs h. h) text_free k bs free
