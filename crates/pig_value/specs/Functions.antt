-- The functions: how each is called, and what it gives of its arguments. A wrong number of arguments, an argument of a
-- kind that the function doesn't take, and, where nothing else is said, a null argument give null.
-- (Pig Latin Basics and Built In Functions, "Eval Functions", "String Functions" and "Tuple, Bag, Map Functions".)
use Rattle.std.specs.Prelude.{ℕ, ℤ, pos, negsuc, ◌+ℤ◌, ◌-◌, ◌+◌, min, unsigned_abs, Bool, true, false, ◌||◌, ◌==◌, nat_eq, nat_lt, nat_le, List, [], ◌∷◌, length, map, take, drop, replicate, codes, Option, Some, None, slice_get, bytes_eq, if◌then◌else◌}
use Rattle.std.specs.Int.{w32, w64, int_wrap}
use Rattle.std.specs.List.{filter, filter_map, find, concat, range_with_len, slice_split, starts_with, ends_with}
use Rattle.std.specs.Option.{option_map, option_or}
use Rattle.std.specs.Str.{chars, encode_utf8_all}
use Rattle.pig_value.specs.FieldReader.{all_of}
use Rattle.pig_value.specs.Orders.{dir_cmp, bag_of}
use Rattle.pig_value.specs.Sorts.{sort}
use Rattle.pig_value.specs.Trees.{Tree, or_null, at, v_null, v_bool, v_int, v_long, v_chars, v_bytes, v_tuple, v_bag, v_listed, v_map, fields_of, fields_list, tuples_of, tuples_list, entries_list}
use Rattle.pig_value.specs.declared.operators.Dir.{Dir}
use Rattle.pig_value.specs.declared.operators.Dir.TheVariants as dir
use Rattle.pig_value.specs.declared.functions.Function.{Function}
use Rattle.pig_value.specs.declared.functions.Function.TheVariants as f

-- ---- names

abbrev pub function_name : Function → List ℕ
function_name f.Count = codes "COUNT"
function_name f.CountStar = codes "COUNT_STAR"
function_name f.Sum = codes "SUM"
function_name f.Min = codes "MIN"
function_name f.Max = codes "MAX"
function_name f.Size = codes "SIZE"
function_name f.Concat = codes "CONCAT"
function_name f.IsEmpty = codes "IsEmpty"
function_name f.Tokenize = codes "TOKENIZE"
function_name f.Substring = codes "SUBSTRING"
function_name f.StartsWith = codes "STARTSWITH"
function_name f.EndsWith = codes "ENDSWITH"
function_name f.IndexOf = codes "INDEXOF"
function_name f.Abs = codes "ABS"
function_name f.ToTuple = codes "TOTUPLE"
function_name (f.ToBag width) = codes "TOBAG"

-- each function once, TOBAG without a width
abbrev pub functions : List Function
functions =
    f.Count ∷ f.CountStar ∷ f.Sum ∷ f.Min ∷ f.Max ∷ f.Size ∷ f.Concat ∷ f.IsEmpty ∷ f.Tokenize ∷ f.Substring ∷
    f.StartsWith ∷ f.EndsWith ∷ f.IndexOf ∷ f.Abs ∷ f.ToTuple ∷ f.ToBag None ∷ []

-- the function of this name
unfoldable pub function_named : List ℕ → Option Function
function_named name = find (λ function. bytes_eq (function_name function) name) functions

-- ---- what they give is made of

-- a whole number as a long, modulo 2 ^ 64 into its range, and the length of a list as one
abbrev pub long_of : ℤ → Tree
long_of z = v_long (int_wrap w64 z)

abbrev pub length_of : {X : Type 0} → List X → Tree
length_of xs = long_of (pos (length xs))

abbrev pub int_of : ℤ → Tree
int_of z = v_int (int_wrap w32 z)

-- the bag of rows
abbrev pub bag_tree : List (List Tree) → Tree
bag_tree rows = v_bag (tuples_of (bag_of rows))

-- ---- COUNT, COUNT_STAR, SUM, MIN and MAX, which are the algebraic functions

abbrev pub is_present : Tree → Bool
is_present v_null = false
is_present v = true

-- a whole number, of either width
abbrev pub whole_of : Tree → Option ℤ
whole_of (v_int z) = Some z
whole_of (v_long z) = Some z
whole_of v = None

-- what MIN and MAX choose among: ints, longs and chararrays
abbrev pub is_ranked : Tree → Bool
is_ranked (v_int z) = true
is_ranked (v_long z) = true
is_ranked (v_chars text) = true
is_ranked v = false

-- the exact sum
abbrev pub sum_ℤ : List ℤ → ℤ
sum_ℤ [] = pos 0
sum_ℤ (z ∷ zs) = z +ℤ sum_ℤ zs

abbrev pub sum_found : List ℤ → Option Tree
sum_found [] = None
sum_found (z ∷ zs) = Some (long_of (sum_ℤ (z ∷ zs)))

-- the first in a direction of the values that are ranked: the least ascending, the greatest descending
abbrev pub first_found : Dir → List Tree → Option Tree
first_found d vs = slice_get (sort (dir_cmp d) (filter is_ranked vs)) 0

-- what an algebraic function finds in the values of a column, if anything
abbrev pub column_found : Function → List Tree → Option Tree
column_found f.Count vs = Some (length_of (filter is_present vs))
column_found f.CountStar vs = Some (length_of vs)
column_found f.Sum vs = sum_found (filter_map whole_of vs)
column_found f.Min vs = first_found dir.Asc vs
column_found f.Max vs = first_found dir.Desc vs
column_found f vs = None

abbrev pub column_tree : Function → List Tree → Tree
column_tree f vs = or_null (column_found f vs)

-- What the function looks at in a tuple: COUNT the first field, SUM, MIN and MAX the one field, so that a tuple of
-- another number of fields counts as null there.
abbrev pub one_field : List Tree → Tree
one_field (v ∷ []) = v
one_field row = v_null

abbrev pub looked_at : Function → List Tree → Tree
looked_at f.Sum = one_field
looked_at f.Min = one_field
looked_at f.Max = one_field
looked_at f = at 0

-- the rows of the one argument, where that is a bag, also a listed one
abbrev pub argument_rows : List Tree → Option (List (List Tree))
argument_rows (v_bag rows ∷ []) = Some (tuples_list rows)
argument_rows (v_listed rows ∷ []) = Some (tuples_list rows)
argument_rows args = None

abbrev pub aggregate : Function → List Tree → Tree
aggregate f args = or_null (option_map (λ rows. column_tree f (map (looked_at f) rows)) (argument_rows args))

-- ---- SIZE, IsEmpty, ABS

abbrev pub size_tree : List Tree → Tree
size_tree (v_bool b ∷ []) = v_long (pos 1)
size_tree (v_int z ∷ []) = v_long (pos 1)
size_tree (v_long z ∷ []) = v_long (pos 1)
size_tree (v_chars text ∷ []) = length_of (chars text)
size_tree (v_bytes bytes ∷ []) = length_of bytes
size_tree (v_tuple fields ∷ []) = length_of (fields_list fields)
size_tree (v_bag rows ∷ []) = length_of (tuples_list rows)
size_tree (v_listed rows ∷ []) = length_of (tuples_list rows)
size_tree (v_map pairs ∷ []) = length_of (entries_list pairs)
size_tree args = v_null

abbrev pub isempty_tree : List Tree → Tree
isempty_tree (v_bag rows ∷ []) = v_bool (length (tuples_list rows) == 0)
isempty_tree (v_listed rows ∷ []) = v_bool (length (tuples_list rows) == 0)
isempty_tree (v_map pairs ∷ []) = v_bool (length (entries_list pairs) == 0)
isempty_tree args = v_null

-- the least int and the least long stay as they are
abbrev pub abs_tree : List Tree → Tree
abs_tree (v_int z ∷ []) = int_of (pos (unsigned_abs z))
abs_tree (v_long z ∷ []) = long_of (pos (unsigned_abs z))
abs_tree args = v_null

-- ---- texts: a character is a Unicode scalar value

abbrev pub text_in : Tree → Option (List ℕ)
text_in (v_chars text) = Some text
text_in v = None

abbrev pub bytes_in : Tree → Option (List ℕ)
bytes_in (v_bytes bytes) = Some bytes
bytes_in v = None

-- CONCAT: of two or more chararrays a chararray, of two or more bytearrays a bytearray
abbrev pub concat_tree : List Tree → Tree
concat_tree [] = v_null
concat_tree (v ∷ []) = v_null
concat_tree (v ∷ w ∷ more) =
    let args = v ∷ w ∷ more in
    or_null (option_or (option_map (λ texts. v_chars (concat texts)) (all_of text_in args)) (option_map (λ texts. v_bytes (concat texts)) (all_of bytes_in args)))

-- TOKENIZE cuts at a space, a double quote, a comma, a parenthesis and a star
abbrev pub is_separator : ℕ → Bool
is_separator b = b == 32 || b == 34 || b == 44 || b == 40 || b == 41 || b == 42

abbrev pub tokens : List ℕ → List (List ℕ)
tokens text = filter (λ piece. nat_lt 0 (length piece)) (slice_split is_separator text)

abbrev pub tokenize_tree : List Tree → Tree
tokenize_tree (v_chars text ∷ []) = bag_tree (map (λ piece. v_chars piece ∷ []) (tokens text))
tokenize_tree args = v_null

-- the characters from start up to and without stop, or up to the end where stop is beyond it
abbrev pub substring : List ℕ → ℤ → ℤ → Option (List ℕ)
substring cs (pos start) (pos stop) =
    let end = min stop (length cs) in
    if nat_le start end then Some (take (end - start) (drop start cs)) else None
substring cs start stop = None

abbrev pub substring_tree : List Tree → Tree
substring_tree (v_chars text ∷ v_int start ∷ v_int stop ∷ []) = or_null (option_map (λ cs. v_chars (encode_utf8_all cs)) (substring (chars text) start stop))
substring_tree args = v_null

abbrev pub startswith_tree : List Tree → Tree
startswith_tree (v_chars text ∷ v_chars front ∷ []) = v_bool (starts_with nat_eq (chars text) (chars front))
startswith_tree args = v_null

abbrev pub endswith_tree : List Tree → Tree
endswith_tree (v_chars text ∷ v_chars end ∷ []) = v_bool (ends_with nat_eq (chars text) (chars end))
endswith_tree args = v_null

-- the first place, counted from 0, at which the one list stands in the other
abbrev pub first_place : List ℕ → List ℕ → Option ℕ
first_place cs wanted = find (λ place. starts_with nat_eq (drop place cs) wanted) (range_with_len 0 (length cs + 1))

abbrev pub place_or_none : Option ℕ → Tree
place_or_none None = v_int (negsuc 0)
place_or_none (Some place) = int_of (pos place)

abbrev pub indexof_tree : List Tree → Tree
indexof_tree (v_chars text ∷ v_chars wanted ∷ []) = place_or_none (first_place (chars text) (chars wanted))
indexof_tree args = v_null

-- ---- TOTUPLE and TOBAG, which keep a null argument

abbrev pub totuple_tree : List Tree → Tree
totuple_tree [] = v_null
totuple_tree (v ∷ vs) = v_tuple (fields_of (v ∷ vs))

-- the row of TOBAG that an argument gives
abbrev pub row_from : Option ℕ → Tree → Option (List Tree)
row_from None (v_tuple _) = None
row_from None v = Some (v ∷ [])
row_from (Some width) v_null = Some (replicate width v_null)
row_from (Some width) (v_tuple inner) = if length (fields_list inner) == width then Some (fields_list inner) else None
row_from (Some width) v = None

abbrev pub tobag_tree : Option ℕ → List Tree → Tree
tobag_tree width [] = v_null
tobag_tree width (v ∷ vs) = or_null (option_map bag_tree (all_of (row_from width) (v ∷ vs)))

-- ---- all of them

abbrev pub apply_tree : Function → List Tree → Tree
apply_tree f.Count args = aggregate f.Count args
apply_tree f.CountStar args = aggregate f.CountStar args
apply_tree f.Sum args = aggregate f.Sum args
apply_tree f.Min args = aggregate f.Min args
apply_tree f.Max args = aggregate f.Max args
apply_tree f.Size args = size_tree args
apply_tree f.Concat args = concat_tree args
apply_tree f.IsEmpty args = isempty_tree args
apply_tree f.Tokenize args = tokenize_tree args
apply_tree f.Substring args = substring_tree args
apply_tree f.StartsWith args = startswith_tree args
apply_tree f.EndsWith args = endswith_tree args
apply_tree f.IndexOf args = indexof_tree args
apply_tree f.Abs args = abs_tree args
apply_tree f.ToTuple args = totuple_tree args
apply_tree (f.ToBag width) args = tobag_tree width args
