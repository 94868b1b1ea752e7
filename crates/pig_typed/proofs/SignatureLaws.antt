-- The kinds of functions by the number of their arguments are those of the table.
use Rattle.std.specs.Prelude.{◌≡◌, List, [], ◌∷◌, refl}
use Rattle.pig_value.specs.FunctionKinds.{function_kind}
use Rattle.pig_value.specs.Trees.{KindTree, k_int, k_chars, k_bag, no_kinds, more_kinds, kinds_of}
use Rattle.pig_value.specs.declared.functions.Function.{Function}
use Rattle.pig_value.specs.declared.functions.Function.TheVariants as function
use Rattle.pig_typed.specs.Signatures.{column, only, signature_kind}

count_is : (kinds : List KindTree) → signature_kind function.Count kinds ≡ function_kind function.Count kinds
count_is [] = refl
count_is (k_bag fields ∷ []) = refl
count_is (k ∷ []) = refl
count_is (k_bag fields ∷ l ∷ kinds) = refl
count_is (k ∷ l ∷ kinds) = refl

count_star_is : (kinds : List KindTree) → signature_kind function.CountStar kinds ≡ function_kind function.CountStar kinds
count_star_is [] = refl
count_star_is (k_bag fields ∷ []) = refl
count_star_is (k ∷ []) = refl
count_star_is (k_bag fields ∷ l ∷ kinds) = refl
count_star_is (k ∷ l ∷ kinds) = refl

sum_is : (kinds : List KindTree) → signature_kind function.Sum kinds ≡ function_kind function.Sum kinds
sum_is [] = refl
sum_is (k_bag no_kinds ∷ []) = refl
sum_is (k_bag (more_kinds k no_kinds) ∷ []) = refl
sum_is (k_bag (more_kinds k (more_kinds m fields)) ∷ []) = refl
sum_is (k ∷ []) = refl
sum_is (k_bag no_kinds ∷ l ∷ kinds) = refl
sum_is (k_bag (more_kinds k no_kinds) ∷ l ∷ kinds) = refl
sum_is (k_bag (more_kinds k (more_kinds m fields)) ∷ l ∷ kinds) = refl
sum_is (k ∷ l ∷ kinds) = refl

min_is : (kinds : List KindTree) → signature_kind function.Min kinds ≡ function_kind function.Min kinds
min_is [] = refl
min_is (k_bag no_kinds ∷ []) = refl
min_is (k_bag (more_kinds k no_kinds) ∷ []) = refl
min_is (k_bag (more_kinds k (more_kinds m fields)) ∷ []) = refl
min_is (k ∷ []) = refl
min_is (k_bag no_kinds ∷ l ∷ kinds) = refl
min_is (k_bag (more_kinds k no_kinds) ∷ l ∷ kinds) = refl
min_is (k_bag (more_kinds k (more_kinds m fields)) ∷ l ∷ kinds) = refl
min_is (k ∷ l ∷ kinds) = refl

max_is : (kinds : List KindTree) → signature_kind function.Max kinds ≡ function_kind function.Max kinds
max_is [] = refl
max_is (k_bag no_kinds ∷ []) = refl
max_is (k_bag (more_kinds k no_kinds) ∷ []) = refl
max_is (k_bag (more_kinds k (more_kinds m fields)) ∷ []) = refl
max_is (k ∷ []) = refl
max_is (k_bag no_kinds ∷ l ∷ kinds) = refl
max_is (k_bag (more_kinds k no_kinds) ∷ l ∷ kinds) = refl
max_is (k_bag (more_kinds k (more_kinds m fields)) ∷ l ∷ kinds) = refl
max_is (k ∷ l ∷ kinds) = refl

size_is : (kinds : List KindTree) → signature_kind function.Size kinds ≡ function_kind function.Size kinds
size_is [] = refl
size_is (k ∷ []) = refl
size_is (k ∷ l ∷ kinds) = refl

isempty_is : (kinds : List KindTree) → signature_kind function.IsEmpty kinds ≡ function_kind function.IsEmpty kinds
isempty_is [] = refl
isempty_is (k_bag fields ∷ []) = refl
isempty_is (k ∷ []) = refl
isempty_is (k_bag fields ∷ l ∷ kinds) = refl
isempty_is (k ∷ l ∷ kinds) = refl

tokenize_is : (kinds : List KindTree) → signature_kind function.Tokenize kinds ≡ function_kind function.Tokenize kinds
tokenize_is [] = refl
tokenize_is (k_chars ∷ []) = refl
tokenize_is (k ∷ []) = refl
tokenize_is (k_chars ∷ l ∷ kinds) = refl
tokenize_is (k ∷ l ∷ kinds) = refl

abs_is : (kinds : List KindTree) → signature_kind function.Abs kinds ≡ function_kind function.Abs kinds
abs_is [] = refl
abs_is (k_int ∷ []) = refl
abs_is (k ∷ []) = refl
abs_is (k_int ∷ l ∷ kinds) = refl
abs_is (k ∷ l ∷ kinds) = refl

substring_is : (kinds : List KindTree) → signature_kind function.Substring kinds ≡ function_kind function.Substring kinds
substring_is [] = refl
substring_is (k_chars ∷ []) = refl
substring_is (k ∷ []) = refl
substring_is (k_chars ∷ k_int ∷ []) = refl
substring_is (k_chars ∷ l ∷ []) = refl
substring_is (k ∷ l ∷ []) = refl
substring_is (k_chars ∷ k_int ∷ k_int ∷ []) = refl
substring_is (k_chars ∷ k_int ∷ m ∷ []) = refl
substring_is (k_chars ∷ l ∷ m ∷ []) = refl
substring_is (k ∷ l ∷ m ∷ []) = refl
substring_is (k_chars ∷ k_int ∷ k_int ∷ n ∷ kinds) = refl
substring_is (k_chars ∷ k_int ∷ m ∷ n ∷ kinds) = refl
substring_is (k_chars ∷ l ∷ m ∷ n ∷ kinds) = refl
substring_is (k ∷ l ∷ m ∷ n ∷ kinds) = refl

startswith_is : (kinds : List KindTree) → signature_kind function.StartsWith kinds ≡ function_kind function.StartsWith kinds
startswith_is [] = refl
startswith_is (k_chars ∷ []) = refl
startswith_is (k ∷ []) = refl
startswith_is (k_chars ∷ k_chars ∷ []) = refl
startswith_is (k_chars ∷ l ∷ []) = refl
startswith_is (k ∷ l ∷ []) = refl
startswith_is (k_chars ∷ k_chars ∷ m ∷ kinds) = refl
startswith_is (k_chars ∷ l ∷ m ∷ kinds) = refl
startswith_is (k ∷ l ∷ m ∷ kinds) = refl

endswith_is : (kinds : List KindTree) → signature_kind function.EndsWith kinds ≡ function_kind function.EndsWith kinds
endswith_is [] = refl
endswith_is (k_chars ∷ []) = refl
endswith_is (k ∷ []) = refl
endswith_is (k_chars ∷ k_chars ∷ []) = refl
endswith_is (k_chars ∷ l ∷ []) = refl
endswith_is (k ∷ l ∷ []) = refl
endswith_is (k_chars ∷ k_chars ∷ m ∷ kinds) = refl
endswith_is (k_chars ∷ l ∷ m ∷ kinds) = refl
endswith_is (k ∷ l ∷ m ∷ kinds) = refl

indexof_is : (kinds : List KindTree) → signature_kind function.IndexOf kinds ≡ function_kind function.IndexOf kinds
indexof_is [] = refl
indexof_is (k_chars ∷ []) = refl
indexof_is (k ∷ []) = refl
indexof_is (k_chars ∷ k_chars ∷ []) = refl
indexof_is (k_chars ∷ l ∷ []) = refl
indexof_is (k ∷ l ∷ []) = refl
indexof_is (k_chars ∷ k_chars ∷ m ∷ kinds) = refl
indexof_is (k_chars ∷ l ∷ m ∷ kinds) = refl
indexof_is (k ∷ l ∷ m ∷ kinds) = refl

pub signature_is : (f : Function) (kinds : List KindTree) → signature_kind f kinds ≡ function_kind f kinds
signature_is function.Count kinds = count_is kinds
signature_is function.CountStar kinds = count_star_is kinds
signature_is function.Sum kinds = sum_is kinds
signature_is function.Min kinds = min_is kinds
signature_is function.Max kinds = max_is kinds
signature_is function.Size kinds = size_is kinds
signature_is function.Concat kinds = refl
signature_is function.IsEmpty kinds = isempty_is kinds
signature_is function.Tokenize kinds = tokenize_is kinds
signature_is function.Substring kinds = substring_is kinds
signature_is function.StartsWith kinds = startswith_is kinds
signature_is function.EndsWith kinds = endswith_is kinds
signature_is function.IndexOf kinds = indexof_is kinds
signature_is function.Abs kinds = abs_is kinds
signature_is function.ToTuple kinds = refl
signature_is (function.ToBag width) kinds = refl

pub column_is : (kinds : List KindTree) → only kinds ≡ column (kinds_of kinds)
column_is [] = refl
column_is (k ∷ []) = refl
column_is (k ∷ l ∷ kinds) = refl
