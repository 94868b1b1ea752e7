-- The row of a line.
use Rattle.std.specs.Prelude.{◌==◌, ℕ, List, map, slice_get}
use Rattle.std.specs.List.{slice_split}
use Rattle.std.specs.Option.{option_map_or}
use Rattle.pig_value.specs.declared.inputs.Column.{Column}
use Rattle.pig_value.specs.FieldReader.{field_value}
use Rattle.pig_value.specs.Trees.{Tree, v_null, kind_tree}

-- the pieces of a line: cut at every delimiter
abbrev pub pieces : ℕ → List ℕ → List (List ℕ)
pieces delimiter line = slice_split (λ b. b == delimiter) line

-- the value of a column: that of the piece at its position, or null where there is none
abbrev pub column_of : List (List ℕ) → Column → Tree
column_of fields column = option_map_or (field_value (kind_tree column.kind)) (slice_get fields column.position) v_null

-- the row of a line at these columns
abbrev pub row_of : List Column → ℕ → List ℕ → List Tree
row_of columns delimiter line = map (column_of (pieces delimiter line)) columns
