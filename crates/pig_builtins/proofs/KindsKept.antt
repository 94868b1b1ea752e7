-- A function gives a value of its kind of arguments of the kinds that it takes.
use Rattle.std.proofs.Common.{◌≡◌, ℕ, List, [], ◌∷◌, length, map, refl, sym, ap, subst}
use Rattle.std.specs.Prelude.{ℤ, Bool, true, false, ◌==◌, ⊤, Option, Some, None, cond}
use Rattle.std.specs.List.{AllByRecursion, concat, filter, filter_map, list_all}
use Rattle.std.specs.Option.{option_map, option_or}
use Rattle.std.specs.Str.{chars, encode_utf8_all}
use Rattle.std.proofs.Math.ListN.{replicate}
use Rattle.std.proofs.lemmas.Bool.Decides.{Decides-eqb}
use Rattle.pig_value.specs.FieldReader.{all_of}
use Rattle.pig_value.specs.FunctionKinds.{function_kind, sum_kind, ranked_kind, concat_kind, tobag_kind}
use Rattle.pig_value.specs.Functions.{abs_tree, apply_tree, bag_tree, bytes_in, column_tree, concat_tree, endswith_tree, first_found, first_place, indexof_tree, isempty_tree, looked_at, whole_of, one_field, place_or_none, row_from, argument_rows, size_tree, startswith_tree, substring, substring_tree, sum_found, text_in, tobag_tree, tokenize_tree, tokens, totuple_tree, is_ranked}
use Rattle.pig_value.specs.Kinds.{IsOf, FieldsOf, TuplesOf, IsRowOf, AreRowsOf, kind_eq}
use Rattle.pig_value.specs.Orders.{dir_cmp}
use Rattle.pig_value.specs.Sorts.{sort}
use Rattle.pig_value.specs.Trees.{Tree, Tuples, or_null, at, v_null, v_bool, v_int, v_long, v_chars, v_bytes, v_tuple, v_bag, v_listed, v_map, no_fields, more_fields, no_tuples, more_tuples, fields_list, tuples_list, KindTree, KindTrees, k_boolean, k_int, k_long, k_chars, k_bytes, k_tuple, k_bag, k_map, no_kinds, more_kinds, kinds_of, kinds_list}
use Rattle.pig_value.proofs.KindLaws.{kind_same, rows_of_from_each, rows_of_sorted, row_of_nulls}
use Rattle.pig_value.proofs.TreeLaws.{fields_there}
use Rattle.pig_value.proofs.list_laws.Bags.{each-sort}
use Rattle.pig_value.proofs.list_laws.Listing.{each-filter}
use Rattle.pig_value.specs.declared.functions.Function.{Function}
use Rattle.pig_value.specs.declared.functions.Function.TheVariants as f
use Rattle.pig_value.specs.declared.operators.Dir.{Dir}
use Rattle.pig_value.specs.declared.operators.Dir.TheVariants as dir
use Rattle.pig_builtins.proofs.Characters.{left_of, right_of}
use Rattle.pig_builtins.proofs.Kept.{IfThere, all_there}

-- of the kind, where there is one
abbrev OfKind : Tree → Option KindTree → Type 0
OfKind v None = ⊤
OfKind v (Some k) = IsOf v k

chosen : (v : Tree) (b : Bool) (k : KindTree) → (b ≡ true → IsOf v k) → OfKind v (cond b (Some k) None)
chosen v true k h = h refl
chosen v false k h = tt

null_of : (o : Option KindTree) → OfKind v_null o
null_of None = tt
null_of (Some k) = tt

-- longs and nulls
count_of : (function : Function) (args : List Tree) → (vs : Option (List (List Tree))) → ((rows : List (List Tree)) → IsOf (column_tree function (map (looked_at function) rows)) k_long)
    → IsOf (or_null (option_map (λ rows. column_tree function (map (looked_at function) rows)) vs)) k_long
count_of function args None h = tt
count_of function args (Some rows) h = h rows

sum_of : (zs : List ℤ) → IsOf (or_null (sum_found zs)) k_long
sum_of [] = tt
sum_of (z ∷ zs) = tt

-- the values of a column of one kind
column_of : (k : KindTree) (rows : Tuples) → TuplesOf rows (more_kinds k no_kinds) → AllByRecursion (λ v. IsOf v k) (map one_field (tuples_list rows))
column_of k no_tuples h = tt
column_of k (more_tuples (more_fields v no_fields) rows) h = (h.0.0, column_of k rows h.1)
column_of k (more_tuples no_fields rows) h = absurd h.0
column_of k (more_tuples (more_fields v (more_fields w more)) rows) h = absurd h.0.1

head_of : (k : KindTree) (vs : List Tree) → AllByRecursion (λ v. IsOf v k) vs → IsOf (at 0 vs) k
head_of k [] h = tt
head_of k (v ∷ vs) h = h.0

first_of_kind : (d : Dir) (k : KindTree) (rows : Tuples) → TuplesOf rows (more_kinds k no_kinds) → IsOf (or_null (first_found d (map one_field (tuples_list rows)))) k
first_of_kind d k rows h =
    let vs = map one_field (tuples_list rows) in
    head_of k (sort (dir_cmp d) (filter is_ranked vs)) (each-sort (dir_cmp d) (λ v. IsOf v k) (filter is_ranked vs) (each-filter is_ranked (λ v. IsOf v k) vs (column_of k rows h)))

best : (d : Dir) (function : Function) → ((rows : Tuples) → column_tree function (map (looked_at function) (tuples_list rows)) ≡ or_null (first_found d (map one_field (tuples_list rows))))
    → (v : Tree) (k : KindTree) → IsOf v (k_bag (more_kinds k no_kinds)) → IsOf (or_null (option_map (λ rows. column_tree function (map (looked_at function) rows)) (argument_rows (v ∷ [])))) k
best d function is v_null k h = tt
best d function is (v_bag rows) k h = subst (λ t. IsOf t k) (sym (is rows)) (first_of_kind d k rows h)
best d function is (v_listed rows) k h = subst (λ t. IsOf t k) (sym (is rows)) (first_of_kind d k rows h)
best d function is (v_bool b) k h = tt
best d function is (v_int z) k h = tt
best d function is (v_long z) k h = tt
best d function is (v_chars text) k h = tt
best d function is (v_bytes text) k h = tt
best d function is (v_tuple vs) k h = tt
best d function is (v_map ps) k h = tt

ranked : (v : Tree) (k : KindTree) → IsOf v k → OfKind v (ranked_kind k)
ranked v k_int h = h
ranked v k_long h = h
ranked v k_chars h = h
ranked v k h = tt

summed : (v : Tree) (k : KindTree) → IsOf v k_long → OfKind v (sum_kind k)
summed v k_int h = h
summed v k_long h = h
summed v k h = tt

size_of : (args : List Tree) → IsOf (size_tree args) k_long
size_of (v_bool b ∷ []) = tt
size_of (v_int z ∷ []) = tt
size_of (v_long z ∷ []) = tt
size_of (v_chars text ∷ []) = tt
size_of (v_bytes text ∷ []) = tt
size_of (v_tuple vs ∷ []) = tt
size_of (v_bag rows ∷ []) = tt
size_of (v_listed rows ∷ []) = tt
size_of (v_map ps ∷ []) = tt
size_of args = tt

isempty_of : (args : List Tree) → IsOf (isempty_tree args) k_boolean
isempty_of (v_bag rows ∷ []) = tt
isempty_of (v_listed rows ∷ []) = tt
isempty_of (v_map ps ∷ []) = tt
isempty_of args = tt

startswith_of : (args : List Tree) → IsOf (startswith_tree args) k_boolean
startswith_of (v_chars text ∷ v_chars front ∷ []) = tt
startswith_of args = tt

endswith_of : (args : List Tree) → IsOf (endswith_tree args) k_boolean
endswith_of (v_chars text ∷ v_chars end ∷ []) = tt
endswith_of args = tt

place_of : (o : Option ℕ) → IsOf (place_or_none o) k_int
place_of None = tt
place_of (Some place) = tt

indexof_of : (args : List Tree) → IsOf (indexof_tree args) k_int
indexof_of (v_chars text ∷ v_chars wanted ∷ []) = place_of (first_place (chars text) (chars wanted))
indexof_of args = tt

text_or_null : (o : Option (List ℕ)) → IsOf (or_null (option_map (λ cs. v_chars (encode_utf8_all cs)) o)) k_chars
text_or_null None = tt
text_or_null (Some cs) = tt

substring_of : (args : List Tree) → IsOf (substring_tree args) k_chars
substring_of (v_chars text ∷ v_int start ∷ v_int stop ∷ []) = text_or_null (substring (chars text) start stop)
substring_of args = tt

token_rows : (pieces : List (List ℕ)) → AreRowsOf (map (λ piece. v_chars piece ∷ []) pieces) (k_chars ∷ [])
token_rows [] = tt
token_rows (piece ∷ pieces) = ((tt, tt), token_rows pieces)

tokenize_of : (args : List Tree) → IsOf (tokenize_tree args) (k_bag (more_kinds k_chars no_kinds))
tokenize_of (v_chars text ∷ []) = rows_of_sorted (k_chars ∷ []) (map (λ piece. v_chars piece ∷ []) (tokens text)) (token_rows (tokens text))
tokenize_of args = tt

texts_or_null : (o : Option (List (List ℕ))) → IsOf (or_null (option_or (option_map (λ ts. v_chars (concat ts)) o) None)) k_chars
texts_or_null None = tt
texts_or_null (Some texts) = tt

bytes_or_null : (o : Option (List (List ℕ))) → IsOf (or_null (option_map (λ ts. v_bytes (concat ts)) o)) k_bytes
bytes_or_null None = tt
bytes_or_null (Some texts) = tt

concat_chars : (v w : Tree) (more : List Tree) → IsOf v k_chars → IsOf (concat_tree (v ∷ w ∷ more)) k_chars
concat_chars v_null w more h = tt
concat_chars (v_chars text) w more h = texts_or_null (all_of text_in (v_chars text ∷ w ∷ more))
concat_chars v w more h = absurd h

concat_bytes : (v w : Tree) (more : List Tree) → IsOf v k_bytes → IsOf (concat_tree (v ∷ w ∷ more)) k_bytes
concat_bytes v_null w more h = tt
concat_bytes (v_bytes text) w more h = bytes_or_null (all_of bytes_in (v_bytes text ∷ w ∷ more))
concat_bytes v w more h = absurd h

concat_of : (args : List Tree) (kinds : List KindTree) → IsRowOf args kinds → OfKind (concat_tree args) (concat_kind kinds)
concat_of (v ∷ w ∷ more) (k_chars ∷ k ∷ ks) h = chosen (concat_tree (v ∷ w ∷ more)) (list_all (kind_eq k_chars) (k ∷ ks)) k_chars (λ _. concat_chars v w more h.0)
concat_of (v ∷ w ∷ more) (k_bytes ∷ k ∷ ks) h = chosen (concat_tree (v ∷ w ∷ more)) (list_all (kind_eq k_bytes) (k ∷ ks)) k_bytes (λ _. concat_bytes v w more h.0)
concat_of [] kinds h = null_of (concat_kind kinds)
concat_of (v ∷ []) kinds h = null_of (concat_kind kinds)
concat_of args kinds h = tt

-- arguments of one kind
alike : (k : KindTree) (args : List Tree) (kinds : List KindTree) → list_all (kind_eq k) kinds ≡ true → IsRowOf args kinds → AllByRecursion (λ v. IsOf v k) args
alike k [] kinds e h = tt
alike k (v ∷ args) [] e h = absurd h
alike k (v ∷ args) (l ∷ kinds) e h =
    let same : k ≡ l = kind_same k l (left_of (kind_eq k l) (list_all (kind_eq k) kinds) e) in
    (subst (IsOf v) (sym same) h.0, alike k args kinds (right_of (kind_eq k l) (list_all (kind_eq k) kinds) e) h.1)

bag_of_kind : (kinds : List KindTree) (o : Option (List (List Tree))) → IfThere (AllByRecursion (λ row. IsRowOf row kinds)) o → IsOf (or_null (option_map bag_tree o)) (k_bag (kinds_of kinds))
bag_of_kind kinds None h = tt
bag_of_kind kinds (Some rows) h = rows_of_sorted kinds rows (rows_of_from_each kinds rows h)

alone_of : (k : KindTree) (v : Tree) → IsOf v k → IfThere (λ row. IsRowOf row (k ∷ [])) (row_from None v)
alone_of k (v_tuple vs) h = tt
alone_of k v h = (h, tt)

kinds_there : (kinds : KindTrees) → kinds_of (kinds_list kinds) ≡ kinds
kinds_there no_kinds = refl
kinds_there (more_kinds k ks) = ap (λ more. more_kinds k more) (kinds_there ks)

wide_of : (width : ℕ) (kinds : KindTrees) → length (kinds_list kinds) ≡ width → (v : Tree) → IsOf v (k_tuple kinds) → IfThere (λ row. IsRowOf row (kinds_list kinds)) (row_from (Some width) v)
wide_of width kinds e v_null h = subst (λ n. IsRowOf (replicate n v_null) (kinds_list kinds)) e (row_of_nulls (kinds_list kinds))
wide_of width kinds e (v_tuple vs) h = wide (length (fields_list vs) == width)
  where
    wide : (b : Bool) → IfThere (λ row. IsRowOf row (kinds_list kinds)) (cond b (Some (fields_list vs)) None)
    wide true = subst (λ fs. FieldsOf fs (kinds_of (kinds_list kinds))) (sym (fields_there vs)) (subst (FieldsOf vs) (sym (kinds_there kinds)) h)
    wide false = tt
wide_of width kinds e v h = tt

tobag_alone : (k : KindTree) (kinds : List KindTree) (args : List Tree) → IsRowOf args (k ∷ kinds) → list_all (kind_eq k) kinds ≡ true
    → IsOf (tobag_tree None args) (k_bag (more_kinds k no_kinds))
tobag_alone k kinds [] h e = tt
tobag_alone k kinds (v ∷ vs) h e =
    bag_of_kind (k ∷ []) (all_of (row_from None) (v ∷ vs))
    (all_there (λ w. IsOf w k) (λ row. IsRowOf row (k ∷ [])) (row_from None) (alone_of k) (v ∷ vs) (h.0, alike k vs kinds e h.1))

tobag_wide : (width : ℕ) (fields : KindTrees) (kinds : List KindTree) (args : List Tree) → IsRowOf args (k_tuple fields ∷ kinds) → length (kinds_list fields) ≡ width
    → list_all (kind_eq (k_tuple fields)) kinds ≡ true → IsOf (tobag_tree (Some width) args) (k_bag fields)
tobag_wide width fields kinds [] h n e = tt
tobag_wide width fields kinds (v ∷ vs) h n e =
    subst (λ ks. IsOf (tobag_tree (Some width) (v ∷ vs)) (k_bag ks)) (kinds_there fields)
    (bag_of_kind (kinds_list fields) (all_of (row_from (Some width)) (v ∷ vs))
    (all_there (λ w. IsOf w (k_tuple fields)) (λ row. IsRowOf row (kinds_list fields)) (row_from (Some width)) (wide_of width fields n) (v ∷ vs)
    (h.0, alike (k_tuple fields) vs kinds e h.1)))

tobag_of : (width : Option ℕ) (args : List Tree) (kinds : List KindTree) → IsRowOf args kinds → OfKind (tobag_tree width args) (tobag_kind width kinds)
tobag_of None args [] h = tt
tobag_of None args (k_tuple fields ∷ kinds) h = tt
tobag_of None args (k ∷ kinds) h = chosen (tobag_tree None args) (list_all (kind_eq k) kinds) (k_bag (more_kinds k no_kinds)) (λ e. tobag_alone k kinds args h e)
tobag_of (Some width) args (k_tuple fields ∷ kinds) h = wide (length (kinds_list fields) == width) (λ e. (Decides-eqb (length (kinds_list fields)) width).0 e)
  where
    wide : (b : Bool) → (b ≡ true → length (kinds_list fields) ≡ width)
        → OfKind (tobag_tree (Some width) args) (cond b (cond (list_all (kind_eq (k_tuple fields)) kinds) (Some (k_bag fields)) None) None)
    wide true n = chosen (tobag_tree (Some width) args) (list_all (kind_eq (k_tuple fields)) kinds) (k_bag fields) (λ e. tobag_wide width fields kinds args h (n refl) e)
    wide false n = tt
tobag_of (Some width) args kinds h = tt

abs_int : (args : List Tree) → IsRowOf args (k_int ∷ []) → IsOf (abs_tree args) k_int
abs_int (v_int z ∷ []) h = tt
abs_int (v_long z ∷ []) h = absurd h.0
abs_int args h = tt

abs_long : (args : List Tree) → IsRowOf args (k_long ∷ []) → IsOf (abs_tree args) k_long
abs_long (v_long z ∷ []) h = tt
abs_long (v_int z ∷ []) h = absurd h.0
abs_long args h = tt

abs_of : (args : List Tree) (kinds : List KindTree) → IsRowOf args kinds → OfKind (abs_tree args) (function_kind f.Abs kinds)
abs_of args (k_int ∷ []) h = abs_int args h
abs_of args (k_long ∷ []) h = abs_long args h
abs_of args kinds h = tt

totuple_of : (args : List Tree) (kinds : List KindTree) → IsRowOf args kinds → OfKind (totuple_tree args) (function_kind f.ToTuple kinds)
totuple_of [] kinds h = null_of (function_kind f.ToTuple kinds)
totuple_of (v ∷ vs) [] h = tt
totuple_of (v ∷ vs) (k ∷ kinds) h = h

-- an algebraic function of a bag of one field
sum_kept : (args : List Tree) (kinds : List KindTree) → IsRowOf args kinds → OfKind (apply_tree f.Sum args) (function_kind f.Sum kinds)
sum_kept args (k_bag (more_kinds k no_kinds) ∷ []) h = summed (apply_tree f.Sum args) k (count_of f.Sum args (argument_rows args) (λ rows. sum_of (filter_map whole_of (map one_field rows))))
sum_kept args kinds h = tt

best_kept : (args : List Tree) (k : KindTree) (d : Dir) (function : Function)
    → ((rows : Tuples) → column_tree function (map (looked_at function) (tuples_list rows)) ≡ or_null (first_found d (map one_field (tuples_list rows))))
    → IsRowOf args (k_bag (more_kinds k no_kinds) ∷ []) → OfKind (or_null (option_map (λ rows. column_tree function (map (looked_at function) rows)) (argument_rows args))) (ranked_kind k)
best_kept [] k d function is h = absurd h
best_kept (v ∷ []) k d function is h = ranked _ k (best d function is v k h.0)
best_kept (v ∷ w ∷ more) k d function is h = absurd h.1

pub kinds_of_result : (function : Function) (args : List Tree) (kinds : List KindTree) → IsRowOf args kinds → OfKind (apply_tree function args) (function_kind function kinds)
kinds_of_result f.Count args (k_bag fields ∷ []) h = count_of f.Count args (argument_rows args) (λ rows. tt)
kinds_of_result f.Count args kinds h = tt
kinds_of_result f.CountStar args (k_bag fields ∷ []) h = count_of f.CountStar args (argument_rows args) (λ rows. tt)
kinds_of_result f.CountStar args kinds h = tt
kinds_of_result f.Sum args kinds h = sum_kept args kinds h
kinds_of_result f.Min args (k_bag (more_kinds k no_kinds) ∷ []) h = best_kept args k dir.Asc f.Min (λ rows. refl) h
kinds_of_result f.Min args kinds h = tt
kinds_of_result f.Max args (k_bag (more_kinds k no_kinds) ∷ []) h = best_kept args k dir.Desc f.Max (λ rows. refl) h
kinds_of_result f.Max args kinds h = tt
kinds_of_result f.Size args (k ∷ []) h = size_of args
kinds_of_result f.Size args kinds h = tt
kinds_of_result f.Concat args kinds h = concat_of args kinds h
kinds_of_result f.IsEmpty args (k_bag fields ∷ []) h = isempty_of args
kinds_of_result f.IsEmpty args (k_map k ∷ []) h = isempty_of args
kinds_of_result f.IsEmpty args kinds h = tt
kinds_of_result f.Tokenize args (k_chars ∷ []) h = tokenize_of args
kinds_of_result f.Tokenize args kinds h = tt
kinds_of_result f.Substring args (k_chars ∷ k_int ∷ k_int ∷ []) h = substring_of args
kinds_of_result f.Substring args kinds h = tt
kinds_of_result f.StartsWith args (k_chars ∷ k_chars ∷ []) h = startswith_of args
kinds_of_result f.StartsWith args kinds h = tt
kinds_of_result f.EndsWith args (k_chars ∷ k_chars ∷ []) h = endswith_of args
kinds_of_result f.EndsWith args kinds h = tt
kinds_of_result f.IndexOf args (k_chars ∷ k_chars ∷ []) h = indexof_of args
kinds_of_result f.IndexOf args kinds h = tt
kinds_of_result f.Abs args kinds h = abs_of args kinds h
kinds_of_result f.ToTuple args kinds h = totuple_of args kinds h
kinds_of_result (f.ToBag width) args kinds h = tobag_of width args kinds h

pub kinds_kept : (function : Function) (args : List Tree) (kinds : List KindTree) (given : KindTree) → IsRowOf args kinds → function_kind function kinds ≡ Some given → IsOf (apply_tree function args) given
kinds_kept function args kinds given h is = subst (OfKind (apply_tree function args)) is (kinds_of_result function args kinds h)
