-- The row of a line is of the columns' kinds, and of a line of bytes it is a row of values.
use Rattle.std.proofs.Common.{◌<◌, ℕ, zero, suc, List, [], ◌∷◌, map}
use Rattle.std.specs.List.{All, slice_get}
use Rattle.std.specs.Option.{option_map_or}
use Rattle.std.proofs.lemmas.List.Elements.{All-from_recursion, All-head, All-tail, recursion_from_All}
use Rattle.pig_value.specs.declared.inputs.Column.{Column}
use Rattle.pig_value.specs.FieldReader.{field_value}
use Rattle.pig_value.specs.FieldRows.{column_of, pieces, row_of}
use Rattle.pig_value.specs.Kinds.{IsOf, IsRowOf}
use Rattle.pig_value.specs.Leaves.{AreBytes}
use Rattle.pig_value.specs.Lines.{lines}
use Rattle.pig_value.specs.Trees.{v_null, KindTree, kind_tree}
use Rattle.pig_value.specs.Valid.{IsValue, IsRow, AreRows}
use Rattle.pig_value.proofs.FieldKinds.{field_of_kind, field_is_value}
use Rattle.pig_storage.proofs.LineFree.{lines_keep, pieces_keep}

-- what holds of every field, and of null, holds of every column
column_of_kind : (k : KindTree) (fields : List (List ℕ)) (i : ℕ) → IsOf (option_map_or (field_value k) (slice_get fields i) v_null) k
column_of_kind k [] i = tt
column_of_kind k (f ∷ fs) zero = field_of_kind k f
column_of_kind k (f ∷ fs) (suc i) = column_of_kind k fs i

columns_of_kinds : (fields : List (List ℕ)) (columns : List Column) → IsRowOf (map (column_of fields) columns) (map (λ column. kind_tree column.kind) columns)
columns_of_kinds fields [] = tt
columns_of_kinds fields (c ∷ cs) = (column_of_kind (kind_tree c.kind) fields c.position, columns_of_kinds fields cs)

pub row_of_kinds : (columns : List Column) (d : ℕ) (line : List ℕ) → IsRowOf (row_of columns d line) (map (λ column. kind_tree column.kind) columns)
row_of_kinds columns d line = columns_of_kinds (pieces d line) columns

-- a value, where the bytes are bytes
abbrev IsByte : ℕ → Type 0
IsByte b = b < 256

column_is_value : (k : KindTree) (fields : List (List ℕ)) (i : ℕ) → All (All IsByte) fields → IsValue (option_map_or (field_value k) (slice_get fields i) v_null)
column_is_value k [] i are = tt
column_is_value k (f ∷ fs) zero are = field_is_value k f (recursion_from_All IsByte f (All-head (All IsByte) f fs are))
column_is_value k (f ∷ fs) (suc i) are = column_is_value k fs i (All-tail (All IsByte) f fs are)

columns_are_values : (fields : List (List ℕ)) (columns : List Column) → All (All IsByte) fields → IsRow (map (column_of fields) columns)
columns_are_values fields [] are = tt
columns_are_values fields (c ∷ cs) are = (column_is_value (kind_tree c.kind) fields c.position are, columns_are_values fields cs are)

line_is_values : (columns : List Column) (d : ℕ) (line : List ℕ) → All IsByte line → IsRow (row_of columns d line)
line_is_values columns d line are = columns_are_values (pieces d line) columns (pieces_keep IsByte _ line are)

pub row_is_values : (columns : List Column) (d : ℕ) (line : List ℕ) → AreBytes line → IsRow (row_of columns d line)
row_is_values columns d line are = line_is_values columns d line (All-from_recursion IsByte line are)

-- so are the rows of an input
each_is_values : (columns : List Column) (d : ℕ) (ls : List (List ℕ)) → All (All IsByte) ls → AreRows (map (row_of columns d) ls)
each_is_values columns d [] are = tt
each_is_values columns d (l ∷ ls) are = (line_is_values columns d l (All-head (All IsByte) l ls are), each_is_values columns d ls (All-tail (All IsByte) l ls are))

pub rows_are_values : (columns : List Column) (d : ℕ) (bytes : List ℕ) → AreBytes bytes → AreRows (map (row_of columns d) (lines bytes))
rows_are_values columns d bytes are = each_is_values columns d (lines bytes) (lines_keep IsByte bytes (All-from_recursion IsByte bytes are))
