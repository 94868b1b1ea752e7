-- The rows of a LOAD are of its columns' kinds, are values where the pieces are of bytes, and hold no LF.
use Rattle.std.specs.Prelude.{⊤, ◌≢◌, ◌<◌, ◌-◌, ℕ, zero, suc, ◌==◌, Bool, true, false, List, [], ◌∷◌, length, map, take, slice_get, slice_index, refl, ◌≡◌}
use Rattle.std.proofs.Common.{cond}
use Rattle.std.specs.List.{All, AllByRecursion, onto_first, slice_split}
use Rattle.std.specs.Option.{option_map_or}
use Rattle.std.specs.Str.Lines.{strip_carriage_return}
use Rattle.std.proofs.lemmas.Bool.Decides.{Decides-eqb, not_from_Decides}
use Rattle.std.proofs.lemmas.List.Elements.{All-cons, All-from_recursion, All-head, All-map, All-nil, All-tail, All-take, All-weaker, recursion_from_All}
use Rattle.pig_value.specs.declared.inputs.Column.{Column}
use Rattle.pig_value.specs.FieldReader.{field_value}
use Rattle.pig_value.specs.FieldRows.{column_of, pieces, row_of}
use Rattle.pig_value.specs.Kinds.{IsOf, IsRowOf}
use Rattle.pig_value.specs.Leaves.{AreBytes}
use Rattle.pig_value.specs.Lines.{is_lf, lines, without_last_empty}
use Rattle.pig_value.specs.Texts.{HasNoLf, IsLineFree}
use Rattle.pig_value.specs.Trees.{Tree, KindTree, kind_tree, v_null}
use Rattle.pig_value.specs.Valid.{IsValue}
use Rattle.pig_value.proofs.FieldFree.{field_free}
use Rattle.pig_value.proofs.FieldKinds.{field_of_kind, field_is_value}
use Rattle.pig_value.proofs.ReadLaws.{onto_first_keeps}

-- what holds of every field that is read, and of null, holds of every column
module _ (P : KindTree → Tree → Type 0) (null : (k : KindTree) → P k v_null) (F : List ℕ → Type 0) (read : (k : KindTree) (bs : List ℕ) → F bs → P k (field_value k bs)) where
  column_keeps : (k : KindTree) (fields : List (List ℕ)) (i : ℕ) → All F fields → P k (option_map_or (field_value k) (slice_get fields i) v_null)
  column_keeps k [] i h = null k
  column_keeps k (f ∷ fs) zero h = read k f (All-head F f fs h)
  column_keeps k (f ∷ fs) (suc i) h = column_keeps k fs i (All-tail F f fs h)

  abbrev Each : List Tree → List Column → Type 0
  Each [] [] = ⊤
  Each (v ∷ vs) (c ∷ cs) = P (kind_tree c.kind) v × Each vs cs
  Each _ _ = ⊥

  columns_keep : (fields : List (List ℕ)) (columns : List Column) → All F fields → Each (map (column_of fields) columns) columns
  columns_keep fields [] h = tt
  columns_keep fields (c ∷ cs) h = (column_keeps (kind_tree c.kind) fields c.position h, columns_keep fields cs h)

-- what holds of each byte holds of each byte of the pieces between those of a kind
pieces_by : {X : Type 0} (P : X → Type 0) (x : X) (parts : List (List X)) → P x → All (All P) parts → (b : Bool) → All (All P) (cond b ([] ∷ parts) (onto_first x parts))
pieces_by P x parts here rest true = All-cons (All P) [] parts (All-nil P) rest
pieces_by P x parts here rest false = onto_first_keeps P x parts here rest

pieces_keep : {X : Type 0} (P : X → Type 0) (p : X → Bool) (xs : List X) → All P xs → All (All P) (slice_split p xs)
pieces_keep P p [] all = All-cons (All P) [] [] (All-nil P) (All-nil (All P))
pieces_keep P p (x ∷ xs) all = pieces_by P x (slice_split p xs) (All-head P x xs all) (pieces_keep P p xs (All-tail P x xs all)) (p x)

module _ (G : ℕ → Type 0) where
  stripped_keeps : (bs : List ℕ) → All G bs → All G (strip_carriage_return bs)
  stripped_keeps bs all = by_test (slice_index bs (length bs - 1) == 13)
    where
      by_test : (b : Bool) → All G (cond b (take (length bs - 1) bs) bs)
      by_test true = All-take G (length bs - 1) bs all
      by_test false = all

  without_last_keeps : (ls : List (List ℕ)) → All (All G) ls → All (All G) (without_last_empty ls)
  without_last_keeps [] all = all
  without_last_keeps ([] ∷ []) all = All-nil (All G)
  without_last_keeps ((b ∷ bs) ∷ []) all = all
  without_last_keeps (l ∷ next ∷ more) all = All-cons (All G) l (without_last_empty (next ∷ more)) (All-head (All G) l (next ∷ more) all) (without_last_keeps (next ∷ more) (All-tail (All G) l (next ∷ more) all))

  lines_of_pieces : (parts : List (List ℕ)) → All (All G) parts → All (All G) (map strip_carriage_return (without_last_empty parts))
  lines_of_pieces parts all =
      All-map (All G) strip_carriage_return (without_last_empty parts) (All-weaker (All G) (λ l. All G (strip_carriage_return l)) stripped_keeps (without_last_empty parts) (without_last_keeps parts all))

-- a cut at each LF leaves none
abbrev NotLf : ℕ → Type 0
NotLf b = b ≢ 10

cut_by : (b : ℕ) (parts : List (List ℕ)) → All HasNoLf parts → (t : Bool) → is_lf b ≡ t → All HasNoLf (cond t ([] ∷ parts) (onto_first b parts))
cut_by b parts rest true e = All-cons HasNoLf [] parts (All-nil NotLf) rest
cut_by b parts rest false e = onto_first_keeps NotLf b parts (not_from_Decides (is_lf b) (Decides-eqb b 10) e) rest

cut_free : (bs : List ℕ) → All HasNoLf (slice_split is_lf bs)
cut_free [] = All-cons HasNoLf [] [] (All-nil NotLf) (All-nil HasNoLf)
cut_free (b ∷ bs) = cut_by b (slice_split is_lf bs) (cut_free bs) (is_lf b) refl

-- ---- rows of lines

abbrev IsByte : ℕ → Type 0
IsByte b = b < 256

abbrev Any : List ℕ → Type 0
Any bs = ⊤

of_kinds : (row : List Tree) (columns : List Column) → Each (λ k v. IsOf v k) (λ k. tt) Any (λ k bs h. field_of_kind k bs) row columns → IsRowOf row (map (λ column. kind_tree column.kind) columns)
of_kinds [] [] h = tt
of_kinds [] (c ∷ cs) h = absurd h
of_kinds (v ∷ vs) [] h = absurd h
of_kinds (v ∷ vs) (c ∷ cs) h = (h.0, of_kinds vs cs h.1)

any_all : (fields : List (List ℕ)) → All Any fields
any_all [] = All-nil Any
any_all (f ∷ fs) = All-cons Any f fs tt (any_all fs)

pub row_of_kinds : (columns : List Column) (d : ℕ) (line : List ℕ) → IsRowOf (row_of columns d line) (map (λ column. kind_tree column.kind) columns)
row_of_kinds columns d line =
    of_kinds (row_of columns d line) columns (columns_keep (λ k v. IsOf v k) (λ k. tt) Any (λ k bs h. field_of_kind k bs) (pieces d line) columns (any_all (pieces d line)))

-- the values of a line's fields
module _ (P : Tree → Type 0) (null : P v_null) (F : ℕ → Type 0) (read : (k : KindTree) (bs : List ℕ) → All F bs → P (field_value k bs)) where
  each_value : (row : List Tree) (columns : List Column) → Each (λ k v. P v) (λ k. null) (All F) read row columns → AllByRecursion P row
  each_value [] [] h = tt
  each_value [] (c ∷ cs) h = absurd h
  each_value (v ∷ vs) [] h = absurd h
  each_value (v ∷ vs) (c ∷ cs) h = (h.0, each_value vs cs h.1)

  line_values : (columns : List Column) (d : ℕ) (line : List ℕ) → All F line → AllByRecursion P (row_of columns d line)
  line_values columns d line h =
      each_value (row_of columns d line) columns (columns_keep (λ k v. P v) (λ k. null) (All F) read (pieces d line) columns (pieces_keep F (λ b. b == d) line h))

  lines_values : (columns : List Column) (d : ℕ) (ls : List (List ℕ)) → All (All F) ls → AllByRecursion (AllByRecursion P) (map (row_of columns d) ls)
  lines_values columns d [] h = tt
  lines_values columns d (l ∷ ls) h = (line_values columns d l (All-head (All F) l ls h), lines_values columns d ls (All-tail (All F) l ls h))

pub rows_of_values : (columns : List Column) (d : ℕ) (bytes : List ℕ) → AreBytes bytes → AllByRecursion (AllByRecursion IsValue) (map (row_of columns d) (lines bytes))
rows_of_values columns d bytes are =
    lines_values IsValue tt IsByte (λ k bs h. field_is_value k bs (recursion_from_All IsByte bs h)) columns d (lines bytes)
    (lines_of_pieces IsByte (slice_split is_lf bytes) (pieces_keep IsByte is_lf bytes (All-from_recursion IsByte bytes are)))

pub rows_line_free : (columns : List Column) (d : ℕ) (bytes : List ℕ) → AllByRecursion (AllByRecursion IsLineFree) (map (row_of columns d) (lines bytes))
rows_line_free columns d bytes =
    lines_values IsLineFree tt NotLf (λ k bs h. field_free k bs h) columns d (lines bytes) (lines_of_pieces NotLf (slice_split is_lf bytes) (cut_free bytes))
