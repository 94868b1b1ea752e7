-- What expressions are worth, and of which kind they are, computed.
use Rattle.std.specs.Prelude.{◌≡◌, ℕ, ℤ, pos, negsuc, true, false, List, [], ◌∷◌, codes, Option, Some, None, refl}
use Rattle.std.specs.Int.{int_wrap}
use Rattle.std.specs.Str.{chars, is_utf8}
use Rattle.std.specs.Str.Lossy.{utf8_lossy, utf8_valid_len}
use lib.Utf8.{encode}
use Rattle.pig_value.specs.Trees.{Tree, v_null, v_bool, v_int, v_long, v_chars, v_bytes, v_tuple, v_bag, v_listed, v_map, fields_of, tuples_of, entries_of, KindTree, k_boolean, k_int, k_long, k_chars, k_bytes, k_tuple, k_bag, k_map, kinds_of}
use Rattle.pig_value.specs.declared.functions.Function.TheVariants as function
use Rattle.pig_value.specs.declared.operators.ChainOp.{ChainOp}
use Rattle.pig_value.specs.declared.operators.ChainOp.TheVariants as op
use Rattle.pig_value.specs.declared.operators.Rel.TheVariants as rel
use Rattle.pig_typed.specs.Evaluation.{ev}
use Rattle.pig_typed.specs.ExprKinds.{expr_kind}
use Rattle.pig_typed.specs.Typed.{Typed, x_null, x_bool, x_int, x_long, x_chars, x_field, x_local, x_chain, x_compare, x_is_null, x_not, x_minus, x_choose, x_cast, x_project, x_look, x_call, no_links, more_links, no_args, more_args}

-- `a op b`
abbrev two : ChainOp → Typed → Typed → Typed
two operator a b = x_chain a (more_links operator b no_links)

-- numbers: `a + 1`, `b / 2`, `b % 2`, `b / 0` and `(long) a + 1` of the greatest int and of -7
abbrev numbers : List Tree
numbers = v_int (pos 2147483647) ∷ v_int (negsuc 6) ∷ []

wraps : ev (two op.Add (x_field 0) (x_int (pos 1))) numbers [] ≡ v_int (negsuc 2147483647)
wraps = refl

goes_towards_zero : ev (two op.Div (x_field 1) (x_int (pos 2))) numbers [] ≡ v_int (negsuc 2)
goes_towards_zero = refl

has_sign_of_dividend : ev (two op.Rem (x_field 1) (x_int (pos 2))) numbers [] ≡ v_int (negsuc 0)
has_sign_of_dividend = refl

by_zero_is_null : ev (two op.Div (x_field 1) (x_int (pos 0))) numbers [] ≡ v_null
by_zero_is_null = refl

is_long : ev (two op.Add (x_cast k_long (x_field 0)) (x_int (pos 1))) numbers [] ≡ v_long (pos 2147483648)
is_long = refl

least_over_minus_one : ev (two op.Div (x_int (negsuc 2147483647)) (x_int (negsuc 0))) [] [] ≡ v_int (negsuc 2147483647)
least_over_minus_one = refl

negates : ev (x_minus (x_int (negsuc 2147483647))) [] [] ≡ v_int (negsuc 2147483647)
negates = refl

-- `2 - 3 * 4` is a chain within a chain, and links go from left to right: `10 - 3 - 4`
goes_left_to_right : ev (x_chain (x_int (pos 10)) (more_links op.Sub (x_int (pos 3)) (more_links op.Sub (x_int (pos 4)) no_links))) [] [] ≡ v_int (pos 3)
goes_left_to_right = refl

-- truth: null AND false is false, null AND true is null, null OR true is true, NOT null is null
null_and_false : ev (two op.And x_null (x_bool false)) [] [] ≡ v_bool false
null_and_false = refl

null_and_true : ev (two op.And x_null (x_bool true)) [] [] ≡ v_null
null_and_true = refl

true_or_null : ev (two op.Or (x_bool true) x_null) [] [] ≡ v_bool true
true_or_null = refl

null_or_false : ev (two op.Or x_null (x_bool false)) [] [] ≡ v_null
null_or_false = refl

not_null : ev (x_not x_null) [] [] ≡ v_null
not_null = refl

not_true : ev (x_not (x_bool true)) [] [] ≡ v_bool false
not_true = refl

-- comparisons and null
less : ev (x_compare rel.Lt (x_chars (codes "b")) (x_chars (codes "ab"))) [] [] ≡ v_bool false
less = refl

null_is_never_equal : ev (x_compare rel.Eq x_null x_null) [] [] ≡ v_null
null_is_never_equal = refl

null_is_null : ev (x_is_null x_null false) [] [] ≡ v_bool true
null_is_null = refl

one_is_not_null : ev (x_is_null (x_int (pos 1)) true) [] [] ≡ v_bool true
one_is_not_null = refl

null_condition : ev (x_choose x_null (x_int (pos 1)) (x_int (pos 2))) [] [] ≡ v_null
null_condition = refl

-- maps: `(int) m#'a' + 1`, `m#'zz'`, `m#'b' == 'x' ? 'yes' : 'no'` of `[a#1,b#x]`
abbrev letters : List Tree
letters = v_map (entries_of ((codes "a", v_bytes (codes "1")) ∷ (codes "b", v_bytes (codes "x")) ∷ [])) ∷ []

abbrev letter_kinds : List KindTree
letter_kinds = k_map k_bytes ∷ []

abbrev at_key : List ℕ → Typed
at_key key = x_look (x_field 0) key

looked_up : ev (two op.Add (x_cast k_int (at_key (codes "a"))) (x_int (pos 1))) letters [] ≡ v_int (pos 2)
unfolding int_wrap
looked_up = refl

missing_key : ev (at_key (codes "zz")) letters [] ≡ v_null
missing_key = refl

chosen_text : ev (x_choose (x_compare rel.Eq (x_cast k_chars (at_key (codes "b"))) (x_chars (codes "x"))) (x_chars (codes "yes")) (x_chars (codes "no"))) letters [] ≡ v_chars (codes "yes")
unfolding utf8_lossy utf8_valid_len is_utf8 chars encode
chosen_text = refl

-- projections: of a tuple a value or a tuple, of a bag the bag in its order, of a listed bag its own order
abbrev pair : ℤ → ℤ → List Tree
pair a b = v_int a ∷ v_int b ∷ []

abbrev pairs : List (List Tree)
pairs = pair (pos 1) (pos 5) ∷ pair (pos 2) (pos 4) ∷ []

single_field : ev (x_project (x_field 0) (1 ∷ []) true) (v_tuple (fields_of (pair (pos 1) (pos 5))) ∷ []) [] ≡ v_int (pos 5)
single_field = refl

two_fields : ev (x_project (x_field 0) (1 ∷ 0 ∷ []) false) (v_tuple (fields_of (pair (pos 1) (pos 5))) ∷ []) [] ≡ v_tuple (fields_of (pair (pos 5) (pos 1)))
two_fields = refl

column_of_bag : ev (x_project (x_field 0) (1 ∷ []) true) (v_bag (tuples_of pairs) ∷ []) [] ≡ v_bag (tuples_of ((v_int (pos 4) ∷ []) ∷ (v_int (pos 5) ∷ []) ∷ []))
column_of_bag = refl

column_of_listed : ev (x_project (x_local 0) (1 ∷ []) true) [] (v_listed (tuples_of pairs) ∷ []) ≡ v_listed (tuples_of ((v_int (pos 5) ∷ []) ∷ (v_int (pos 4) ∷ []) ∷ []))
column_of_listed = refl

counted : ev (x_call function.CountStar (more_args (x_field 0) no_args)) (v_bag (tuples_of pairs) ∷ []) [] ≡ v_long (pos 2)
unfolding int_wrap
counted = refl

-- null at a wrong kind
wrong_kind : ev (two op.Add (x_chars (codes "a")) (x_int (pos 1))) [] [] ≡ v_null
wrong_kind = refl

-- kinds
int_and_long : expr_kind (two op.Add (x_int (pos 1)) (x_long (pos 1))) [] [] ≡ Some k_long
int_and_long = refl

int_and_text : expr_kind (two op.Add (x_int (pos 1)) (x_chars [])) [] [] ≡ None
int_and_text = refl

text_of_key : expr_kind (x_cast k_int (at_key (codes "a"))) letter_kinds [] ≡ Some k_int
text_of_key = refl

compared_unlike : expr_kind (x_compare rel.Eq (at_key (codes "b")) (x_chars (codes "x"))) letter_kinds [] ≡ None
compared_unlike = refl

compared_alike : expr_kind (x_compare rel.Eq (x_cast k_chars (at_key (codes "b"))) (x_chars (codes "x"))) letter_kinds [] ≡ Some k_boolean
compared_alike = refl

less_of_booleans : expr_kind (x_compare rel.Lt (x_bool true) (x_bool true)) [] [] ≡ None
less_of_booleans = refl

abbrev pair_kinds : KindTree
pair_kinds = k_bag (kinds_of (k_int ∷ k_long ∷ []))

column_kind : expr_kind (x_project (x_field 0) (1 ∷ []) true) (pair_kinds ∷ []) [] ≡ Some (k_bag (kinds_of (k_long ∷ [])))
column_kind = refl

past_the_fields : expr_kind (x_project (x_field 0) (2 ∷ []) true) (pair_kinds ∷ []) [] ≡ None
past_the_fields = refl

chosen_unlike : expr_kind (x_choose (x_bool true) (x_int (pos 1)) (x_long (pos 1))) [] [] ≡ None
chosen_unlike = refl
