-- The texts of kinds and of columns.
use Rattle.std.specs.Prelude.{ℕ, List, [], ◌++◌, codes, decimal}
use Rattle.pig_value.specs.Trees.{KindTree, KindTrees, kind_tree, k_boolean, k_int, k_long, k_chars, k_bytes, k_tuple, k_bag, k_map, no_kinds, more_kinds}
use Rattle.pig_value.specs.declared.inputs.Column.{Column}

abbrev mutual
  pub kind_text : KindTree → List ℕ
  kind_text k_boolean = codes "boolean"
  kind_text k_int = codes "int"
  kind_text k_long = codes "long"
  kind_text k_chars = codes "chararray"
  kind_text k_bytes = codes "bytearray"
  kind_text (k_tuple ks) = codes "tuple(" ++ kinds_text [] ks ++ codes ")"
  kind_text (k_bag ks) = codes "bag{" ++ kinds_text [] ks ++ codes "}"
  kind_text (k_map k) = codes "map[" ++ kind_text k ++ codes "]"

  -- kinds, the first behind `before` and each further one behind a comma
  pub kinds_text : List ℕ → KindTrees → List ℕ
  kinds_text before no_kinds = []
  kinds_text before (more_kinds k ks) = before ++ kind_text k ++ kinds_text (codes ",") ks

-- a column of a LOAD: its position in a line, and its kind
abbrev pub column_text : Column → List ℕ
column_text column = decimal column.position ++ codes ":" ++ kind_text (kind_tree column.kind)
