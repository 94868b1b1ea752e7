-- What expressions are worth, computed: each operator and form that the samples beside the definitions leave out.
use Rattle.std.specs.Prelude.{◌≡◌, pos, negsuc, true, false, [], ◌∷◌, codes, refl}
use Rattle.pig_value.specs.Trees.{Tree, v_null, v_bool, v_int, v_long, k_int, k_bag, kinds_of}
use Rattle.pig_value.specs.declared.operators.ChainOp.{ChainOp}
use Rattle.pig_value.specs.declared.operators.ChainOp.TheVariants as op
use Rattle.pig_value.specs.declared.operators.Rel.{Rel}
use Rattle.pig_value.specs.declared.operators.Rel.TheVariants as rel
use Rattle.pig_typed.specs.Evaluation.{ev}
use Rattle.pig_typed.specs.Typed.{Typed, x_null, x_bool, x_int, x_long, x_chars, x_field, x_local, x_chain, x_compare, x_is_null, x_minus, x_choose, x_cast, x_project, x_look, no_links, more_links}

abbrev two : ChainOp → Typed → Typed → Typed
two operator a b = x_chain a (more_links operator b no_links)

abbrev value : Typed → Tree
value e = ev e [] []

-- numbers: a product of ints wraps at 32 bits, a long with an int at 64
product_wraps : value (two op.Mul (x_int (pos 2147483647)) (x_int (pos 2))) ≡ v_int (negsuc 1)
product_wraps = refl

long_wraps : value (two op.Add (x_long (pos 9223372036854775807)) (x_int (pos 1))) ≡ v_long (negsuc 9223372036854775807)
long_wraps = refl

rest_by_zero : value (two op.Rem (x_long (pos 5)) (x_int (pos 0))) ≡ v_null
rest_by_zero = refl

null_operand : value (two op.Mul x_null (x_int (pos 2))) ≡ v_null
null_operand = refl

long_negated : value (x_minus (x_long (pos 5))) ≡ v_long (negsuc 4)
long_negated = refl

-- comparisons of 1 with 2
abbrev one_and_two : Rel → Tree
one_and_two r = value (x_compare r (x_int (pos 1)) (x_int (pos 2)))

not_equal : one_and_two rel.Ne ≡ v_bool true
not_equal = refl

less : one_and_two rel.Lt ≡ v_bool true
less = refl

at_most : one_and_two rel.Le ≡ v_bool true
at_most = refl

greater : one_and_two rel.Gt ≡ v_bool false
greater = refl

at_least : one_and_two rel.Ge ≡ v_bool false
at_least = refl

equal : one_and_two rel.Eq ≡ v_bool false
equal = refl

null_is_not_unequal : value (x_compare rel.Ne x_null (x_int (pos 1))) ≡ v_null
null_is_not_unequal = refl

value_is_no_null : value (x_is_null (x_bool false) false) ≡ v_bool false
value_is_no_null = refl

-- a condition that is false, and one that is true
second : value (x_choose (x_bool false) (x_int (pos 1)) (x_int (pos 2))) ≡ v_int (pos 2)
second = refl

first : value (x_choose (x_bool true) (x_int (pos 1)) (x_int (pos 2))) ≡ v_int (pos 1)
first = refl

-- truth: false OR false is false, true AND true is true
false_or_false : value (two op.Or (x_bool false) (x_bool false)) ≡ v_bool false
false_or_false = refl

true_and_true : value (two op.And (x_bool true) (x_bool true)) ≡ v_bool true
true_and_true = refl

-- places: a local, and a field that is not there
local : ev (x_local 1) [] (v_int (pos 1) ∷ v_int (pos 2) ∷ []) ≡ v_int (pos 2)
local = refl

no_field : ev (x_field 1) (v_int (pos 1) ∷ []) [] ≡ v_null
no_field = refl

-- parts of null, and of a value of another kind
part_of_null : value (x_project x_null (0 ∷ []) true) ≡ v_null
part_of_null = refl

key_of_null : value (x_look x_null (codes "a")) ≡ v_null
key_of_null = refl

key_of_text : value (x_look (x_chars (codes "a")) (codes "a")) ≡ v_null
key_of_text = refl

-- a cast of null, and one that is not allowed
null_cast : value (x_cast k_int x_null) ≡ v_null
null_cast = refl

cast_to_bag : value (x_cast (k_bag (kinds_of (k_int ∷ []))) (x_int (pos 1))) ≡ v_null
cast_to_bag = refl
