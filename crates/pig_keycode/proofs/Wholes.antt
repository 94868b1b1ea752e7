-- A code that is whole.
use Rattle.std.proofs.Common.{◌≡◌, ℕ, List, [], ◌++◌, sym, ◌∙◌, ap, subst, Some, Option}
use Rattle.std.proofs.lemmas.List.{append-nil}
use Rattle.std.specs.Prelude.{MatchOption, option_map}
use Rattle.std.specs.declared.option.Option.TheVariants as option
use Rattle.pig_value.specs.Trees.{Tree, v_tuple, fields_of, fields_list, tree, row_tree}
use Rattle.pig_value.proofs.TreeLaws.{fields_back}
use Rattle.pig_value.specs.declared.values.Value.{Value}
use Rattle.pig_keycode.specs.Codes.{code}
use Rattle.pig_keycode.specs.Codable.{IsCodeOf, IsCodeOfRow}
use Rattle.pig_value.specs.Valid.{IsValue, IsRow}
use Rattle.pig_keycode.specs.Reading.{StandsFirst, NoneFirst, row_code}
use Rattle.pig_keycode.proofs.Unique.{code_told}

-- what `decode` finds in bytes
abbrev pub IsDecoded : List ℕ → Option Value → Type 0
IsDecoded bytes found = MatchOption found ((v : Tree) → ¬ (IsCodeOf bytes v)) (λ v. IsCodeOf bytes (tree v))

-- what `decode_row` finds
abbrev pub IsDecodedRow : List ℕ → Option (List Value) → Type 0
IsDecodedRow bytes found = MatchOption found ((row : List Tree) → ¬ (IsCodeOfRow bytes row)) (λ row. IsCodeOfRow bytes (row_tree row))

first_of : (bytes : List ℕ) (v : Tree) → IsCodeOf bytes v → StandsFirst code IsValue bytes v []
first_of bytes v h = record { is = h.is ∙ sym (append-nil (code v)); good = h.value }

pub one_decoded : (bytes : List ℕ) (v w : Tree) → IsCodeOf bytes v → IsCodeOf bytes w → v ≡ w
one_decoded bytes v w h k = (code_told v w [] [] h.value k.value (ap (λ l. l ++ []) (sym h.is ∙ k.is))).0

pub decoded : (bytes : List ℕ) (value : Value) (rest : List ℕ) (found : Option Value) → StandsFirst code IsValue bytes (tree value) rest
    → MatchOption found (¬ (rest ≡ [])) (λ v. (v ≡ value) × (rest ≡ [])) → IsDecoded bytes found
decoded bytes value rest option.None h k = λ v whole. k ((code_told (tree value) v rest [] h.good whole.value (sym h.is ∙ (first_of bytes v whole).is)).1)
decoded bytes value rest (option.Some found) h k =
    let is : bytes ≡ code (tree value) = h.is ∙ (ap (λ l. code (tree value) ++ l) k.1 ∙ append-nil (code (tree value))) in
    subst (λ v. IsCodeOf bytes (tree v)) (sym k.0) (record { is = is; value = h.good })

pub off_decoded : (bytes : List ℕ) → NoneFirst code IsValue bytes → IsDecoded bytes option.None
off_decoded bytes none = λ v whole. none v [] (first_of bytes v whole)

-- the row of a tuple
pub row_decoded : (bytes : List ℕ) (value : Value) (found : Option (List Value)) → IsCodeOf bytes (tree value)
    → MatchOption found ((row : List Tree) → ¬ (tree value ≡ v_tuple (fields_of row))) (λ row. tree value ≡ v_tuple (fields_of (row_tree row))) → IsDecodedRow bytes found
row_decoded bytes value option.None h k = λ row whole. k row (one_decoded bytes (tree value) (v_tuple (fields_of row)) h whole)
row_decoded bytes value (option.Some row) h k = subst (IsCodeOf bytes) k h

pub no_row_decoded : (bytes : List ℕ) → ((v : Tree) → ¬ (IsCodeOf bytes v)) → IsDecodedRow bytes option.None
no_row_decoded bytes none = λ row. none (v_tuple (fields_of row))

abbrev fields_held : Tree → List Tree
fields_held (v_tuple vs) = fields_list vs
fields_held v = []

pub row_back : (bytes : List ℕ) (found : Option (List Value)) → IsDecodedRow bytes found → (row : List Tree) → IsCodeOfRow bytes row → option_map row_tree found ≡ Some row
row_back bytes option.None h row k = absurd (h row k)
row_back bytes (option.Some found) h row k =
    ap (λ l. option.Some l)
    (sym (fields_back (row_tree found)) ∙ (ap fields_held (one_decoded bytes (v_tuple (fields_of (row_tree found))) (v_tuple (fields_of row)) h k) ∙ fields_back row))

pub decoded_back : (bytes : List ℕ) (found : Option Value) → IsDecoded bytes found → (v : Tree) → IsCodeOf bytes v → option_map tree found ≡ Some v
decoded_back bytes option.None h v k = absurd (h v k)
decoded_back bytes (option.Some w) h v k = ap (λ u. option.Some u) (one_decoded bytes (tree w) v h k)

-- the code of a row tells it
pub one_row : (x y : List Tree) → IsRow x → IsRow y → row_code x ≡ row_code y → x ≡ y
one_row x y h k e =
    sym (fields_back x) ∙ (ap fields_held (code_told (v_tuple (fields_of x)) (v_tuple (fields_of y)) [] [] h k (ap (λ l. l ++ []) e)).0 ∙ fields_back y)
