-- How wide and how deep a kind may be. (The limits are choices of this profile.)
use Rattle.std.specs.Prelude.{Bool, false, ◌+◌, ◌||◌, List, length, map, nat_lt, if◌then◌else◌}
use Rattle.std.specs.declared.result.Result.TheVariants.{Ok, Err}
use Rattle.pig_value.specs.Kinds.{depth_of, width_of}
use Rattle.pig_value.specs.Trees.{KindTree, KindTrees, k_tuple, k_bag, k_map, no_kinds, more_kinds, kinds_list, kinds_of}
use Rattle.pig_schema.specs.FieldTrees.{FieldTree, tree_kind}
use Rattle.pig_typing.specs.declared.limits.TheConstants.{MOST_DEPTH, MOST_FIELDS, MOST_KINDS}
use Rattle.pig_typing.specs.declared.faults.CheckKind.TheVariants as kind
use Rattle.pig_typing.specs.Results.{Checked}

-- so many fields are too many
abbrev pub too_many : KindTrees → Bool
too_many ks = nat_lt MOST_FIELDS (length (kinds_list ks))

-- a tuple of the kind, or of a bag in it, has too many fields
abbrev mutual
  pub too_many_fields : KindTree → Bool
  too_many_fields (k_tuple ks) = too_many ks || any_too_many_fields ks
  too_many_fields (k_bag ks) = too_many ks || any_too_many_fields ks
  too_many_fields (k_map k) = too_many_fields k
  too_many_fields k = false

  pub any_too_many_fields : KindTrees → Bool
  any_too_many_fields no_kinds = false
  any_too_many_fields (more_kinds k ks) = too_many_fields k || any_too_many_fields ks

abbrev pub is_too_wide : KindTree → Bool
is_too_wide k = too_many_fields k || nat_lt MOST_KINDS (width_of k)

abbrev pub is_too_deep : KindTree → Bool
is_too_deep k = nat_lt MOST_DEPTH (depth_of k)

-- the kind, where it is within the limits
unfoldable pub limited : KindTree → Checked KindTree
limited k = if is_too_wide k then Err kind.TooWide else if is_too_deep k then Err kind.TooDeep else Ok k

-- ---- the rows of a relation, whose fields stand in no kind: the row itself doesn't count

abbrev pub row_kind : List FieldTree → KindTree
row_kind columns = k_tuple (kinds_of (map tree_kind columns))

abbrev pub is_wide_row : KindTree → Bool
is_wide_row row = too_many_fields row || nat_lt (MOST_KINDS + 1) (width_of row)

abbrev pub is_deep_row : KindTree → Bool
is_deep_row row = nat_lt (MOST_DEPTH + 1) (depth_of row)

-- the columns of a relation, where they are within the limits
unfoldable pub limited_row : List FieldTree → Checked (List FieldTree)
limited_row columns = if is_wide_row (row_kind columns) then Err kind.TooWide else if is_deep_row (row_kind columns) then Err kind.TooDeep else Ok columns
