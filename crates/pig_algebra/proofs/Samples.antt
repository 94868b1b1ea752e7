-- Parts of worked rows, merged in several ways, computed.
use Rattle.std.proofs.Common.{◌≡◌, [], ◌∷◌, refl}
use Rattle.std.specs.Prelude.{pos, negsuc, codes}
use Rattle.std.specs.Int.{int_wrap}
use Rattle.pig_value.specs.Trees.{Tree, v_null, v_int, v_long, v_chars}
use Rattle.pig_value.specs.declared.functions.Function.TheVariants as f
use Rattle.pig_algebra.specs.Parts.{Way, both, merged_by, no_row, one_row, parts_of, row_part, row_parts}

abbrev g : Tree
g = v_chars (codes "g")

abbrev long_row : Tree → Way
long_row v = one_row (v ∷ [])

abbrev much : Way
much = long_row (v_long (pos 9223372036854775807))

abbrev one : Way
one = long_row (v_long (pos 1))

abbrev five : Way
five = long_row (v_long (pos 5))

wraps_from_left : merged_by (parts_of f.Sum) (both (both much one) five) ≡ v_long (negsuc 9223372036854775802)
unfolding int_wrap
wraps_from_left = refl

wraps_from_right : merged_by (parts_of f.Sum) (both five (both one much)) ≡ v_long (negsuc 9223372036854775802)
unfolding int_wrap
wraps_from_right = refl

wraps_with_none : merged_by (parts_of f.Sum) (both (both no_row five) (both much (both no_row one))) ≡ v_long (negsuc 9223372036854775802)
unfolding int_wrap
wraps_with_none = refl

sums_nothing : merged_by (parts_of f.Sum) no_row ≡ v_null
sums_nothing = refl

counts_nothing : merged_by (parts_of f.Count) no_row ≡ v_long (pos 0)
unfolding int_wrap
counts_nothing = refl

-- COUNT of the rows (null, 1) and (x, 1)
counts_first_fields : merged_by (parts_of f.Count) (both (one_row (v_null ∷ v_int (pos 1) ∷ [])) (one_row (v_chars (codes "x") ∷ v_int (pos 1) ∷ []))) ≡ v_long (pos 1)
unfolding int_wrap
counts_first_fields = refl

least_text : merged_by (parts_of f.Min) (both (long_row (v_chars (codes "b"))) (both (long_row v_null) (long_row (v_chars (codes "a"))))) ≡ v_chars (codes "a")
least_text = refl

greatest_text : merged_by (parts_of f.Max) (both (long_row (v_chars (codes "b"))) (both (long_row v_null) (long_row (v_chars (codes "a"))))) ≡ v_chars (codes "b")
greatest_text = refl

no_least : merged_by (parts_of f.Min) (both (long_row v_null) (long_row v_null)) ≡ v_null
no_least = refl

one_row_of_three : merged_by row_parts (both (long_row g) (both (long_row g) (long_row g))) ≡ row_part (g ∷ [])
one_row_of_three = refl
