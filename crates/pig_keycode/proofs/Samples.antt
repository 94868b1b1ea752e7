-- Codes that are computed: a row of an int, a null and a text that holds a zero byte, and a bag in each direction.
use Rattle.std.proofs.Common.{◌≡◌, [], ◌∷◌, refl}
use Rattle.std.specs.Prelude.{pos, true}
use Rattle.pig_value.specs.Trees.{v_null, v_bool, v_int, v_chars, v_tuple, v_bag, no_fields, more_fields, no_tuples, more_tuples}
use Rattle.pig_value.specs.declared.operators.Dir.TheVariants.{Asc, Desc}
use Rattle.pig_keycode.specs.Codes.{code_in}

mixed_row : code_in Asc (v_tuple (more_fields (v_int (pos 5)) (more_fields v_null (more_fields (v_chars (97 ∷ 0 ∷ [])) no_fields))))
    ≡ 0x06 ∷ 0x01 ∷ 0x02 ∷ 0x80 ∷ 0x00 ∷ 0x00 ∷ 0x05 ∷ 0x01 ∷ 0x00 ∷ 0x01 ∷ 0x04 ∷ 0x61 ∷ 0x00 ∷ 0xff ∷ 0x00 ∷ 0x00 ∷ 0x00 ∷ []
mixed_row = refl

ascending_bag : code_in Asc (v_bag (more_tuples (more_fields (v_bool true) no_fields) no_tuples)) ≡ 0x07 ∷ 0x01 ∷ 0x06 ∷ 0x01 ∷ 0x01 ∷ 0x01 ∷ 0x00 ∷ 0x00 ∷ []
ascending_bag = refl

descending_bag : code_in Desc (v_bag (more_tuples (more_fields (v_bool true) no_fields) no_tuples)) ≡ 0xf8 ∷ 0xfe ∷ 0xf9 ∷ 0xfe ∷ 0xfe ∷ 0xfe ∷ 0xff ∷ 0xff ∷ []
descending_bag = refl
