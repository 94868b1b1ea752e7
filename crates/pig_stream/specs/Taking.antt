-- What takes rows, and what gives them; and the laws of what takes them: nothing changes nothing, and rows that are taken in turn are
-- joined.
use Rattle.std.specs.Prelude.{◌≡◌, ◌∷◌, ◌++◌, ◌+◌, ◌-◌, ℕ, zero, suc, min, List, [], drop, length, take, refl}
use Rattle.std.proofs.Common.{ap, sym, ◌∙◌, arith, append-nil, append_assoc}
use Rattle.std.proofs.Math.Seq.{take-nil}
use Rattle.std.proofs.lemmas.List.{length-append, length-take}
use Rattle.std.proofs.lemmas.Grind.{flat_map-append}
use Rattle.pig_value.specs.Texts.{row_text, rows_text}
use Rattle.pig_value.specs.Trees.{Tree}
use Rattle.pig_stream.specs.declared.unpacking.Unpacked.{Unpacked}

-- bytes behind which the text of rows stands
pub record HasText (bytes : List ℕ) (delim : ℕ) (rows : List (List Tree)) (more : List ℕ) (same : ℕ) : Type 0 where
  pub text : more ≡ bytes ++ rows_text delim rows
  pub delim_is : same ≡ delim

-- as many of the rows behind others as there is room for up to a limit
pub record HasFirst (old : List (List Tree)) (limit : ℕ) (rows new : List (List Tree)) (same : ℕ) : Type 0 where
  pub first : new ≡ old ++ take (limit - length old) rows
  pub limit_is : same ≡ limit

-- the packed rows that were not given yet
abbrev pub rows_left : Unpacked → List (List Tree)
rows_left u = drop u.next u.rows.now

-- ---- laws

abbrev Rows : Type 0
Rows = List (List Tree)

pub list_nothing : (rows : Rows) → rows ≡ rows ++ []
list_nothing rows = sym (append-nil rows)

pub list_onwards : (a b c xs ys : Rows) → b ≡ a ++ xs → c ≡ b ++ ys → c ≡ a ++ (xs ++ ys)
list_onwards a b c xs ys h k = k ∙ ap (λ l. l ++ ys) h ∙ append_assoc a xs ys

pub text_nothing : (bytes : List ℕ) (delim : ℕ) → HasText bytes delim [] bytes delim
text_nothing bytes delim = record { text = sym (append-nil bytes); delim_is = refl }

pub text_onwards : (a b c : List ℕ) (d e f : ℕ) (xs ys : Rows) → HasText a d xs b e → HasText b e ys c f → HasText a d (xs ++ ys) c f
text_onwards a b c d e f xs ys h k = record {
  text =
      k.text
      ∙ (λ i. h.text i ++ rows_text (h.delim_is i) ys)
      ∙ append_assoc a (rows_text d xs) (rows_text d ys)
      ∙ ap (λ l. a ++ l) (sym (flat_map-append (λ row. row_text d row ++ (10 ∷ [])) xs ys));
  delim_is = k.delim_is ∙ h.delim_is;
}

take_both : (n : ℕ) (xs ys : Rows) → take n (xs ++ ys) ≡ take n xs ++ take (n - length xs) ys
take_both zero xs ys = (let e : 0 ≡ 0 - length xs = omega arith in ap (λ m. take m ys) e)
take_both (suc n) [] ys = (let e : suc n ≡ suc n - 0 = omega arith in ap (λ m. take m ys) e)
take_both (suc n) (x ∷ xs) ys = ap (λ l. x ∷ l) (take_both n xs ys ∙ (let e : n - length xs ≡ suc n - suc (length xs) = omega arith in ap (λ m. take n xs ++ take m ys) e))

pub first_nothing : (rows : Rows) (limit : ℕ) → HasFirst rows limit [] rows limit
first_nothing rows limit = record { first = sym (ap (λ l. rows ++ l) (take-nil (limit - length rows)) ∙ append-nil rows); limit_is = refl }

pub first_onwards : (a b c : Rows) (k l m : ℕ) (xs ys : Rows) → HasFirst a k xs b l → HasFirst b l ys c m → HasFirst a k (xs ++ ys) c m
first_onwards a b c k l m xs ys h j =
    let n : ℕ = k - length a in
    let size : length b ≡ length a + length (take n xs) = ap length h.first ∙ length-append a (take n xs) in
    let some : length (take n xs) ≡ min n (length xs) = length-take n xs in
    let same = h.limit_is in
    let left : l - length b ≡ n - length xs = omega (arith, size, some, same) in
    record {
      first =
          j.first
          ∙ (λ i. h.first i ++ take (left i) ys)
          ∙ append_assoc a (take n xs) (take (n - length xs) ys)
          ∙ ap (λ r. a ++ r) (sym (take_both n xs ys));
      limit_is = j.limit_is ∙ h.limit_is;
    }
