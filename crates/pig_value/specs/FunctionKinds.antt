-- The kind of what a function gives, by the kinds of its arguments; none where it takes no arguments of these kinds.
-- A bytearray stands for no chararray here: casts are applied before.
use Rattle.std.specs.Prelude.{ℕ, ◌==◌, List, [], ◌∷◌, length, Option, Some, None, if◌then◌else◌}
use Rattle.std.specs.List.{list_all}
use Rattle.pig_value.specs.Kinds.{kind_eq}
use Rattle.pig_value.specs.Trees.{KindTree, k_boolean, k_int, k_long, k_chars, k_bytes, k_tuple, k_bag, k_map, no_kinds, more_kinds, kinds_of, kinds_list}
use Rattle.pig_value.specs.declared.functions.Function.{Function}
use Rattle.pig_value.specs.declared.functions.Function.TheVariants as f

-- SUM adds ints and longs
abbrev pub sum_kind : KindTree → Option KindTree
sum_kind k_int = Some k_long
sum_kind k_long = Some k_long
sum_kind k = None

-- MIN and MAX choose an int, a long or a chararray
abbrev pub ranked_kind : KindTree → Option KindTree
ranked_kind k_int = Some k_int
ranked_kind k_long = Some k_long
ranked_kind k_chars = Some k_chars
ranked_kind k = None

-- two or more of one kind, chararrays or bytearrays
abbrev pub concat_kind : List KindTree → Option KindTree
concat_kind (k_chars ∷ k ∷ more) = if list_all (kind_eq k_chars) (k ∷ more) then Some k_chars else None
concat_kind (k_bytes ∷ k ∷ more) = if list_all (kind_eq k_bytes) (k ∷ more) then Some k_bytes else None
concat_kind kinds = None

-- One or more of one kind. Tuples, which have the width as their number of fields, are the bag's tuples; other values stand in
-- tuples of one field.
abbrev pub tobag_kind : Option ℕ → List KindTree → Option KindTree
tobag_kind None (k_tuple fields ∷ more) = None
tobag_kind None (k ∷ more) = if list_all (kind_eq k) more then Some (k_bag (more_kinds k no_kinds)) else None
tobag_kind (Some width) (k_tuple fields ∷ more) =
    if length (kinds_list fields) == width then (if list_all (kind_eq (k_tuple fields)) more then Some (k_bag fields) else None) else None
tobag_kind width kinds = None

abbrev pub function_kind : Function → List KindTree → Option KindTree
function_kind f.Count (k_bag fields ∷ []) = Some k_long
function_kind f.CountStar (k_bag fields ∷ []) = Some k_long
function_kind f.Sum (k_bag (more_kinds k no_kinds) ∷ []) = sum_kind k
function_kind f.Min (k_bag (more_kinds k no_kinds) ∷ []) = ranked_kind k
function_kind f.Max (k_bag (more_kinds k no_kinds) ∷ []) = ranked_kind k
function_kind f.Size (k ∷ []) = Some k_long
function_kind f.Concat kinds = concat_kind kinds
function_kind f.IsEmpty (k_bag fields ∷ []) = Some k_boolean
function_kind f.IsEmpty (k_map k ∷ []) = Some k_boolean
function_kind f.Tokenize (k_chars ∷ []) = Some (k_bag (more_kinds k_chars no_kinds))
function_kind f.Substring (k_chars ∷ k_int ∷ k_int ∷ []) = Some k_chars
function_kind f.StartsWith (k_chars ∷ k_chars ∷ []) = Some k_boolean
function_kind f.EndsWith (k_chars ∷ k_chars ∷ []) = Some k_boolean
function_kind f.IndexOf (k_chars ∷ k_chars ∷ []) = Some k_int
function_kind f.Abs (k_int ∷ []) = Some k_int
function_kind f.Abs (k_long ∷ []) = Some k_long
function_kind f.ToTuple (k ∷ more) = Some (k_tuple (kinds_of (k ∷ more)))
function_kind (f.ToBag width) kinds = tobag_kind width kinds
function_kind f kinds = None
