-- The groups of a lookup as codes: those of their keys, by which they are found, and those of the fields of their rows.
use Rattle.std.specs.Prelude.{◌≡◌, ◌<◌, ℕ, List, ◌∷◌, length, map, Some, slice_get}
use Rattle.std.specs.List.{flat_map}
use Rattle.pig_value.specs.Trees.{Tree, rows_tree, tree}
use Rattle.pig_keycode.specs.Codes.{code}
use Rattle.pig_replicated.specs.declared.groups.Group.{Group}
use Rattle.pig_replicated.specs.Grouped.{held_in}
use Rattle.pig_replicated.specs.Holding.{rows_under}

-- a field within the code of its row, and fields one behind another
abbrev pub field_code : Tree → List ℕ
field_code v = 1 ∷ code v

abbrev pub inner_code : List Tree → List ℕ
inner_code = flat_map field_code

-- the code of a group's key, and those of the fields of its rows
abbrev pub key_code : Group → List ℕ
key_code group = code (tree group.key)

abbrev pub row_codes : Group → List (List ℕ)
row_codes group = map inner_code (rows_tree group.rows)

-- the group at the place has all rows of the key
pub record IsGroupOf (key : Tree) (groups : List Group) (at : ℕ) : Type 0 where
  pub within : at < length groups
  pub group : Group
  pub here : slice_get groups at ≡ Some group
  pub rows : rows_under key (held_in groups) ≡ rows_tree group.rows
