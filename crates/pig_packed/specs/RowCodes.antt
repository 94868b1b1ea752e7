-- Rows kept as their codes in one list of bytes: what stands there, and that it tells the rows.
use Rattle.std.specs.Prelude.{◌≡◌, ◌+◌, ℕ, List, [], ◌∷◌, length, refl}
use Rattle.std.proofs.Common.{sym, ◌∙◌, ap}
use Rattle.std.specs.Coded.{Coded-set, coded_ℕ, coded_list, ×_prop}
use Rattle.std.specs.List.{flat_map}
use Rattle.std.proofs.Math.Logic.{∥∥₁_prop, ∥∥₁_elim}
use mathlib.Core.HLevel.{Σ_prop_path}
use Rattle.pig_value.specs.Trees.{Tree, v_tuple, fields_of}
use Rattle.pig_value.specs.TreeCode.{coded_tree}
use Rattle.pig_value.specs.Valid.{AreRows}
use Rattle.pig_value.proofs.TreeLaws.{fields_back}
use Rattle.pig_keycode.specs.Keys.{fields_of_key}
use Rattle.pig_keycode.specs.Reading.{row_code}
use Rattle.pig_keycode.proofs.Unique.{code_told}

-- the codes of rows, one behind another
abbrev pub codes_of : List (List Tree) → List ℕ
codes_of = flat_map row_code

-- where the code of each row ends
abbrev pub ends_from : ℕ → List (List Tree) → List ℕ
ends_from begin [] = []
ends_from begin (row ∷ rows) = (begin + length (row_code row)) ∷ ends_from (begin + length (row_code row)) rows

-- ---- the bytes tell the rows

-- the rows whose codes the bytes are
abbrev pub HeldRows : List ℕ → Type 0
HeldRows bytes = (rows : List (List Tree)) × (∥ AreRows rows ∥₁ × (codes_of rows ≡ bytes))

pub codes_told : (xs ys : List (List Tree)) → AreRows xs → AreRows ys → codes_of xs ≡ codes_of ys → xs ≡ ys
codes_told [] [] h k same = refl
codes_told [] (y ∷ ys) h k same = absurd (cc)
codes_told (x ∷ xs) [] h k same = absurd (cc)
codes_told (x ∷ xs) (y ∷ ys) h k same =
    let both = code_told (v_tuple (fields_of x)) (v_tuple (fields_of y)) (codes_of xs) (codes_of ys) h.0 k.0 same in
    let head : x ≡ y = sym (fields_back x) ∙ (ap fields_of_key both.0 ∙ fields_back y) in
    let tail = codes_told xs ys h.1 k.1 both.1 in
    λ i. head i ∷ tail i

pub held_rows_prop : (bytes : List ℕ) → IsProp (HeldRows bytes)
held_rows_prop bytes x y =
    Σ_prop_path {A = List (List Tree)} {B = λ rows. ∥ AreRows rows ∥₁ × (codes_of rows ≡ bytes)}
    (λ rows. ×_prop ∥∥₁_prop (Coded-set (coded_list coded_ℕ) (codes_of rows) bytes)) {u = x} {v = y}
    (∥∥₁_elim x.1.0 (Coded-set (coded_list (coded_list coded_tree)) x.0 y.0)
    (λ h. ∥∥₁_elim y.1.0 (Coded-set (coded_list (coded_list coded_tree)) x.0 y.0) (λ k. codes_told x.0 y.0 h k (x.1.1 ∙ sym y.1.1))))
