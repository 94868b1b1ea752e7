-- UTF-8 in names and texts.
use Rattle.std.proofs.Common.{◌≡◌, ℕ, ◌<◌, List, [], ◌∷◌, Bool, true, false, refl, arith, Some, None}
use Rattle.std.specs.List.{list_all}
use Rattle.std.specs.Str.{IsAscii, IsUtf8, is_utf8}
use Rattle.std.proofs.lemmas.Grind.{common_steps}
use Rattle.std.proofs.lemmas.List.Elements.{All-cons}
use Rattle.std.proofs.lemmas.Str.{IsUtf8-from_ascii, IsUtf8-from_is_utf8, is_utf8-from_IsUtf8}
use Rattle.std.proofs.lemmas.Str.Ascii.{All-from_ascii, IsAscii-from_all, IsAscii-nil}
use Rattle.pig_syntax.specs.Tokens.{is_word_byte}
use Rattle.pig_syntax.specs.Scanner.{text_of}
use Rattle.pig_syntax.proofs.Runs.{both_first, both_second}

low_byte : (b : ℕ) → is_word_byte b ≡ true → b < 128
unfolding is_word_byte
low_byte b h = grind (arith, common_steps)

word_ascii : (w : List ℕ) → list_all is_word_byte w ≡ true → IsAscii w
word_ascii [] h = IsAscii-nil
word_ascii (b ∷ bs) h =
    let rest : IsAscii bs = word_ascii bs (both_second (is_word_byte b) (list_all is_word_byte bs) h) in
    IsAscii-from_all (b ∷ bs) (All-cons (λ x. x < 128) b bs (low_byte b (both_first (is_word_byte b) (list_all is_word_byte bs) h)) (All-from_ascii bs rest))

-- the bytes of a word are UTF-8
pub word_utf8 : (w : List ℕ) → list_all is_word_byte w ≡ true → IsUtf8 w
word_utf8 w h = IsUtf8-from_ascii w (word_ascii w h)

-- what is no UTF-8 fails the test
not_utf8 : (bs : List ℕ) → (IsUtf8 bs → ⊥) → is_utf8 bs ≡ false
not_utf8 bs h = by_test (is_utf8 bs) refl
  where
    by_test : (t : Bool) → is_utf8 bs ≡ t → t ≡ false
    by_test true e = absurd (h (IsUtf8-from_is_utf8 bs e))
    by_test false e = refl

pub text_found : (body content text : List ℕ) → IsUtf8 body → text ≡ content → Some text ≡ text_of body content
unfolding text_of
text_found body content text front is = rw (is_utf8-from_IsUtf8 body front, is) refl

pub text_lost : (body content : List ℕ) → (IsUtf8 body → ⊥) → None ≡ text_of body content
unfolding text_of
text_lost body content h = rw (not_utf8 body h) refl
