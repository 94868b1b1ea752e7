-- What a code begins with: a text without a zero byte, and the value that it tells.
use Rattle.std.proofs.Common.{◌≡◌, ℕ, zero, suc, List, [], ◌∷◌, ◌++◌, length, take, drop, refl, sym, ◌∙◌, ap, subst, inl, inr}
use Rattle.std.proofs.lemmas.List.{append_assoc}
use Rattle.pig_value.specs.Texts.{text_of}
use Rattle.pig_value.specs.Trees.{Tree, v_null, v_bool, v_int, v_long, v_chars, v_bytes, v_tuple, v_bag, v_listed, v_map}
use Rattle.pig_value.specs.Valid.{IsValue}
use Rattle.pig_keycode.specs.Codes.{code, escaped, text_code}
use Rattle.pig_keycode.specs.Reading.{HasNoZero, StandsFirst}
use Rattle.pig_keycode.proofs.Unique.{code_told, text_told}
use Rattle.pig_packed_text.specs.SeenTexts.{BeginsWithText}

escaped_plain : (t : List ℕ) → HasNoZero t → escaped t ≡ t
escaped_plain [] h = refl
escaped_plain (zero ∷ t) h = absurd (h.0 refl)
escaped_plain (suc b ∷ t) h = ap (λ l. suc b ∷ l) (escaped_plain t h.1)

-- a text without a zero byte, up to two of these, is its own code
pub plain_front : (content t marked rest : List ℕ) → content ≡ t ++ 0 ∷ marked → marked ≡ 0 ∷ rest → HasNoZero t → content ≡ text_code t ++ rest
plain_front content t marked rest is mark plain =
    is ∙ (ap (λ l. t ++ 0 ∷ l) mark ∙ (ap (λ l. l ++ 0 ∷ 0 ∷ rest) (sym (escaped_plain t plain)) ∙ sym (append_assoc (escaped t) (0 ∷ 0 ∷ []) rest)))

chars_tell : (v : Tree) (rest t left : List ℕ) → 4 ∷ (text_code t ++ left) ≡ code v ++ rest → (t ≡ text_of v) × (left ≡ rest)
chars_tell v_null rest t left e = absurd (cc)
chars_tell (v_bool b) rest t left e = absurd (cc)
chars_tell (v_int z) rest t left e = absurd (cc)
chars_tell (v_long z) rest t left e = absurd (cc)
chars_tell (v_chars text) rest t left e = text_told t text left rest (cc)
chars_tell (v_bytes bytes) rest t left e = absurd (cc)
chars_tell (v_tuple vs) rest t left e = absurd (cc)
chars_tell (v_bag rs) rest t left e = absurd (cc)
chars_tell (v_listed rs) rest t left e = absurd (cc)
chars_tell (v_map ps) rest t left e = absurd (cc)

bytes_tell : (v : Tree) (rest t left : List ℕ) → 5 ∷ (text_code t ++ left) ≡ code v ++ rest → (t ≡ text_of v) × (left ≡ rest)
bytes_tell v_null rest t left e = absurd (cc)
bytes_tell (v_bool b) rest t left e = absurd (cc)
bytes_tell (v_int z) rest t left e = absurd (cc)
bytes_tell (v_long z) rest t left e = absurd (cc)
bytes_tell (v_chars text) rest t left e = absurd (cc)
bytes_tell (v_bytes bytes) rest t left e = text_told t bytes left rest (cc)
bytes_tell (v_tuple vs) rest t left e = absurd (cc)
bytes_tell (v_bag rs) rest t left e = absurd (cc)
bytes_tell (v_listed rs) rest t left e = absurd (cc)
bytes_tell (v_map ps) rest t left e = absurd (cc)

-- a text that is lent is that of the value
pub lent_tells : (bytes t left : List ℕ) → BeginsWithText bytes t left → (v : Tree) (rest : List ℕ) → IsValue v → bytes ≡ code v ++ rest → (t ≡ text_of v) × (left ≡ rest)
lent_tells bytes t left h v rest good e = elim h [
  | inl is ↦ chars_tell v rest t left (sym is ∙ e)
  | inr is ↦ bytes_tell v rest t left (sym is ∙ e)
]

-- so is that of a value that is read
pub read_tells : (bytes : List ℕ) (w : Tree) (left : List ℕ) → StandsFirst code IsValue bytes w left → (v : Tree) (rest : List ℕ) → IsValue v → bytes ≡ code v ++ rest
    → (text_of w ≡ text_of v) × (left ≡ rest)
read_tells bytes w left h v rest good e =
    let both = code_told w v left rest h.good good (sym h.is ∙ e) in
    (ap text_of both.0, both.1)
