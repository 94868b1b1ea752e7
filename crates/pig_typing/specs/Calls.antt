-- Calls of functions: how many arguments each takes, which of them are cast, and the column of what it gives.
-- (Built In Functions. Which casts are inserted is a choice of this profile.)
use Rattle.std.specs.Prelude.{◌+◌, ℕ, zero, suc, ◌==◌, Bool, true, false, List, [], ◌∷◌, length, nat_lt, codes, Option, Some, None, if◌then◌else◌}
use Rattle.std.specs.List.{list_all, list_any}
use Rattle.pig_value.specs.Trees.{KindTree, k_int, k_long, k_chars, k_bytes, k_tuple, k_bag, more_kinds, kinds_list}
use Rattle.pig_value.specs.declared.functions.Function.{Function}
use Rattle.pig_value.specs.declared.functions.Function.TheVariants as f
use Rattle.pig_schema.specs.FieldTrees.{FieldTree, FieldTrees, a_field, no_inner, more_inner, inner_of, tree_kind, tree_inner}
use Rattle.pig_typed.specs.Typed.{Typed, x_cast, x_field}
use Rattle.pig_typing.specs.declared.calls.Casting.{Casting}
use Rattle.pig_typing.specs.declared.calls.Casting.TheVariants as c
use Rattle.pig_typing.specs.Columns.{unnamed}

-- the function that the language has and this profile leaves out
abbrev pub average : List ℕ
average = codes "AVG"

-- whether a function takes so many arguments
abbrev pub allows : Function → ℕ → Bool
allows f.Concat n = nat_lt 1 n
allows f.Substring n = n == 3
allows f.StartsWith n = n == 2
allows f.EndsWith n = n == 2
allows f.IndexOf n = n == 2
allows f.ToTuple n = nat_lt 0 n
allows (f.ToBag width) n = nat_lt 0 n
allows f n = n == 1

-- ---- casts of arguments

-- how arguments are cast
abbrev pub cast_by : Casting → KindTree → Option KindTree
cast_by c.AsText k_bytes = Some k_chars
cast_by c.AsLong k_int = Some k_long
cast_by casting k = None

abbrev pub is_bytes : KindTree → Bool
is_bytes k_bytes = true
is_bytes k = false

abbrev pub is_long : KindTree → Bool
is_long k_long = true
is_long k = false

-- A bytearray in the place of a text is cast to chararray (in the place of an int it fits neither way). CONCAT takes bytearrays
-- where all are; TOBAG takes ints beside a long as longs.
abbrev pub casting : Function → List KindTree → Casting
casting f.Tokenize ks = c.AsText
casting f.Substring ks = c.AsText
casting f.StartsWith ks = c.AsText
casting f.EndsWith ks = c.AsText
casting f.IndexOf ks = c.AsText
casting f.Concat ks = if list_all is_bytes ks then c.AsItIs else c.AsText
casting (f.ToBag width) ks = if list_any is_long ks then c.AsLong else c.AsItIs
casting f ks = c.AsItIs

abbrev pub cast_maybe : Option KindTree → Typed → Typed
cast_maybe (Some to) t = x_cast to t
cast_maybe None t = t

abbrev pub kind_after : Option KindTree → KindTree → KindTree
kind_after (Some to) k = to
kind_after None k = k

-- ---- what is called

-- TOBAG of tuples knows how many fields they have
abbrev pub tuple_width : List KindTree → Option ℕ
tuple_width (k_tuple fields ∷ ks) = Some (length (kinds_list fields))
tuple_width ks = None

abbrev pub sized : Function → List KindTree → Function
sized (f.ToBag width) ks = f.ToBag (tuple_width ks)
sized f ks = f

-- inside a bag of tuples of one field: that field, without a name, and with these inside
abbrev pub one_held : KindTree → FieldTrees → FieldTrees
one_held (k_bag (more_kinds k ks)) inner = more_inner (a_field None k inner) no_inner
one_held k inner = no_inner

-- inside a bag of this kind, of values of which the first has these inside: of tuples, that itself
abbrev pub all_held : KindTree → FieldTrees → KindTree → FieldTrees
all_held (k_tuple ks) inner bag = inner
all_held first inner bag = one_held bag inner

abbrev pub bag_column : KindTree → List FieldTree → FieldTree
bag_column k [] = unnamed k
bag_column k (c ∷ cs) = a_field None k (all_held (tree_kind c) (tree_inner c) k)

-- The column of what a function gives of these columns: TOTUPLE keeps their names, TOBAG those inside the first, and TOKENIZE gives a
-- field `token`.
abbrev pub given : Function → KindTree → List FieldTree → FieldTree
given f.ToTuple k columns = a_field None k (inner_of columns)
given (f.ToBag width) k columns = bag_column k columns
given f.Tokenize k columns = a_field None k (more_inner (a_field (Some (codes "token")) k_chars no_inner) no_inner)
given f k columns = unnamed k

-- the fields of a row from a place on, so many
abbrev pub fields_from : ℕ → ℕ → List Typed
fields_from n zero = []
fields_from n (suc count) = x_field n ∷ fields_from (n + 1) count
