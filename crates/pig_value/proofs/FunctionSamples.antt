-- What the functions give, computed: a column of nulls, texts by their characters, a sum that wraps, a counted column.
use Rattle.std.proofs.Common.{◌≡◌, [], ◌∷◌, refl}
use Rattle.std.specs.Prelude.{pos, negsuc, codes, true, false, Some}
use Rattle.std.specs.Char.{encode_utf8}
use Rattle.std.specs.Int.{int_wrap}
use Rattle.std.specs.Str.{chars}
use Rattle.pig_value.specs.Functions.{apply_tree}
use Rattle.pig_value.specs.Trees.{Tree, v_null, v_bool, v_int, v_long, v_chars, v_bag, tuples_of}
use Rattle.pig_value.specs.declared.functions.Function.TheVariants as f

-- the bag of two rows of one null
abbrev two_nulls : Tree
two_nulls = v_bag (tuples_of ((v_null ∷ []) ∷ (v_null ∷ []) ∷ []))

counts_no_null : apply_tree f.Count (two_nulls ∷ []) ≡ v_long (pos 0)
unfolding int_wrap
counts_no_null = refl

counts_all : apply_tree f.CountStar (two_nulls ∷ []) ≡ v_long (pos 2)
unfolding int_wrap
counts_all = refl

sums_nothing : apply_tree f.Sum (two_nulls ∷ []) ≡ v_null
sums_nothing = refl

finds_no_least : apply_tree f.Min (two_nulls ∷ []) ≡ v_null
finds_no_least = refl

-- 9223372036854775807 + 1 + 5
sum_wraps : apply_tree f.Sum (v_bag (tuples_of ((v_long (pos 1) ∷ []) ∷ (v_long (pos 5) ∷ []) ∷ (v_long (pos 9223372036854775807) ∷ []) ∷ [])) ∷ [])
    ≡ v_long (negsuc 9223372036854775802)
unfolding int_wrap
sum_wraps = refl

-- the tuples (null, 1) and (x, 1)
counts_first_fields : apply_tree f.Count (v_bag (tuples_of ((v_null ∷ v_int (pos 1) ∷ []) ∷ (v_chars (codes "x") ∷ v_int (pos 1) ∷ []) ∷ [])) ∷ []) ≡ v_long (pos 1)
unfolding int_wrap
counts_first_fields = refl

-- `héllo`
size_of_text : apply_tree f.Size (v_chars (104 ∷ 195 ∷ 169 ∷ 108 ∷ 108 ∷ 111 ∷ []) ∷ []) ≡ v_long (pos 5)
unfolding chars int_wrap
size_of_text = refl

part_of_text : apply_tree f.Substring (v_chars (104 ∷ 195 ∷ 169 ∷ 108 ∷ 108 ∷ 111 ∷ []) ∷ v_int (pos 1) ∷ v_int (pos 3) ∷ []) ≡ v_chars (195 ∷ 169 ∷ 108 ∷ [])
unfolding chars encode_utf8
part_of_text = refl

end_of_text : apply_tree f.Substring (v_chars (104 ∷ 195 ∷ 169 ∷ 108 ∷ 108 ∷ 111 ∷ []) ∷ v_int (pos 3) ∷ v_int (pos 9) ∷ []) ≡ v_chars (codes "lo")
unfolding chars encode_utf8
end_of_text = refl

place_of_na : apply_tree f.IndexOf (v_chars (codes "banana") ∷ v_chars (codes "na") ∷ []) ≡ v_int (pos 2)
unfolding chars int_wrap
place_of_na = refl

place_of_x : apply_tree f.IndexOf (v_chars (codes "banana") ∷ v_chars (codes "x") ∷ []) ≡ v_int (negsuc 0)
unfolding chars
place_of_x = refl

five : apply_tree f.Abs (v_int (negsuc 4) ∷ []) ≡ v_int (pos 5)
unfolding int_wrap
five = refl

-- -2147483648
least_int : apply_tree f.Abs (v_int (negsuc 2147483647) ∷ []) ≡ v_int (negsuc 2147483647)
unfolding int_wrap
least_int = refl

starts_with_ba : apply_tree f.StartsWith (v_chars (codes "banana") ∷ v_chars (codes "ba") ∷ []) ≡ v_bool true
unfolding chars
starts_with_ba = refl

ends_with_ba : apply_tree f.EndsWith (v_chars (codes "banana") ∷ v_chars (codes "ba") ∷ []) ≡ v_bool false
unfolding chars
ends_with_ba = refl

joins_texts : apply_tree f.Concat (v_chars (codes "hello") ∷ v_chars (codes "banana") ∷ []) ≡ v_chars (codes "hellobanana")
joins_texts = refl

cuts_text : apply_tree f.Tokenize (v_chars (codes "the dog, the end") ∷ [])
    ≡ v_bag (tuples_of ((v_chars (codes "dog") ∷ []) ∷ (v_chars (codes "end") ∷ []) ∷ (v_chars (codes "the") ∷ []) ∷ (v_chars (codes "the") ∷ []) ∷ []))
cuts_text = refl

tuple_of_nulls : apply_tree (f.ToBag (Some 2)) (v_null ∷ []) ≡ v_bag (tuples_of ((v_null ∷ v_null ∷ []) ∷ []))
tuple_of_nulls = refl
