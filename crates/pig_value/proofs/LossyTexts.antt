-- Bytes that are read as text give text.
use Rattle.std.proofs.Common.{◌≡◌, ◌+◌, ◌<◌, ◌≤◌, ◌==◌, ℕ, zero, suc, Bool, true, false, cond, nat_lt, None, Some, if◌then◌else◌, List, [], ◌∷◌, ◌++◌, length, take, drop, refl, subst, arith, rules}
use Rattle.std.specs.Str.{IsUtf8, is_utf8}
use Rattle.std.specs.Int.{is_in_range}
use Rattle.std.specs.Option.{unwrap_or}
use Rattle.std.specs.Str.Lossy.{after_first_chunk, error_len_of_some, replacement_bytes, second_byte_max, second_byte_min, utf8_error_len, utf8_invalid_len, utf8_lossy, utf8_lossy_within, utf8_valid_len, valid_len_up_to}
use Rattle.std.specs.List.{All, slice_index}
use Rattle.std.proofs.lemmas.Bool.Decides.{Decides-eqb, not_from_Decides}
use Rattle.std.proofs.lemmas.List.{length-drop, take_all}
use Rattle.std.proofs.lemmas.List.Elements.{All-append, All-drop, All-take}
use Rattle.std.proofs.lemmas.Str.{IsUtf8-append, IsUtf8-encode, IsUtf8-from_is_utf8, IsUtf8-nil, utf8_valid_len_le}

-- the longest front that is text is text
valid_front : (bs : List ℕ) (m : ℕ) → IsUtf8 (take (valid_len_up_to bs m) bs)
valid_front bs zero = IsUtf8-nil
valid_front bs (suc m) = by_test (valid_front bs m) (is_utf8 (take (suc m) bs)) refl
  where
    by_test : IsUtf8 (take (valid_len_up_to bs m) bs) → (t : Bool) → is_utf8 (take (suc m) bs) ≡ t → IsUtf8 (take (if t then suc m else valid_len_up_to bs m) bs)
    by_test shorter true e = IsUtf8-from_is_utf8 (take (suc m) bs) e
    by_test shorter false e = shorter

front_is_text : (bs : List ℕ) → IsUtf8 (take (utf8_valid_len bs) bs)
unfolding utf8_valid_len
front_is_text bs = valid_front bs (length bs)

-- one U+FFFD stands for a byte or more
stands_by : (a b c d e f : Bool) (n : ℕ) → 0 < n → 0 < unwrap_or (cond a (cond b None (cond c (cond d None (cond e (cond f None (Some 3)) (Some 2))) (Some 1))) (Some 1)) n
stands_by true true c d e f n some = some
stands_by true false true true e f n some = some
stands_by true false true false true true n some = some
stands_by true false true false true false n some = omega arith
stands_by true false true false false f n some = omega arith
stands_by true false false d e f n some = omega arith
stands_by false b c d e f n some = omega arith

stands_for_some : (bs : List ℕ) → 0 < length bs → 0 < utf8_invalid_len bs
unfolding utf8_error_len
stands_for_some bs some = by_test (length bs == 0)
  where
    x : ℕ
    x = slice_index bs 0

    by_test : (t : Bool) → 0 < unwrap_or (if t then None else error_len_of_some bs) (length bs)
    by_test true = some
    by_test false = stands_by (is_in_range 0xC2 0xF4 x) (nat_lt (length bs) 2) (is_in_range (second_byte_min x) (second_byte_max x) (slice_index bs 1)) (nat_lt (length bs) 3) (is_in_range 0x80 0xBF (slice_index bs 2)) (nat_lt (length bs) 4) (length bs) some

shorter_behind : (bs : List ℕ) → ¬ (utf8_valid_len bs ≡ length bs) → length (after_first_chunk bs) < length bs
shorter_behind bs other =
    let n : ℕ = utf8_valid_len bs in
    let within : n < length bs = omega (arith, utf8_valid_len_le bs) in
    let some : 0 < utf8_invalid_len (drop n bs) = stands_for_some (drop n bs) (omega (arith, length-drop n bs)) in
    omega (arith, length-drop (n + utf8_invalid_len (drop n bs)) bs)

replacement_is_text : IsUtf8 replacement_bytes
unfolding lib.Utf8.encode
replacement_is_text = IsUtf8-encode 0xFFFD (search rules)

within_is_text : (k : ℕ) (bs : List ℕ) → length bs ≤ k → IsUtf8 (utf8_lossy_within k bs)
within_is_text zero [] few = IsUtf8-nil
within_is_text zero (b ∷ bs) few = absurd (omega arith)
within_is_text (suc k) bs few = by_test (λ less. within_is_text k (after_first_chunk bs) less) (n == length bs) refl
  where
    n : ℕ
    n = utf8_valid_len bs

    rest : List ℕ
    rest = after_first_chunk bs

    by_test : (length rest ≤ k → IsUtf8 (utf8_lossy_within k rest)) → (t : Bool) → (n == length bs) ≡ t → IsUtf8 (cond t bs (take n bs ++ (replacement_bytes ++ utf8_lossy_within k rest)))
    by_test later true e =
        let whole : n ≡ length bs = (Decides-eqb n (length bs)).0 e in
        subst IsUtf8 (take_all n bs (omega arith)) (front_is_text bs)
    by_test later false e =
        let shorter : length rest < length bs = shorter_behind bs (not_from_Decides (n == length bs) (Decides-eqb n (length bs)) e) in
        IsUtf8-append (take n bs) (replacement_bytes ++ utf8_lossy_within k rest) (front_is_text bs) (IsUtf8-append replacement_bytes (utf8_lossy_within k rest) replacement_is_text (later (omega arith)))

pub lossy_is_text : (bs : List ℕ) → IsUtf8 (utf8_lossy bs)
unfolding utf8_lossy
lossy_is_text bs = within_is_text (length bs) bs (omega arith)

-- what holds of each byte, and of those that stand for a fault, holds of each of the text
module _ (G : ℕ → Type 0) (replaced : All G replacement_bytes) where
  lossy_by : (bs rest : List ℕ) → All G bs → All G rest → (n : ℕ) (b : Bool) → All G (cond b bs (take n bs ++ (replacement_bytes ++ rest)))
  lossy_by bs rest given more n true = given
  lossy_by bs rest given more n false = All-append G (take n bs) (replacement_bytes ++ rest) (All-take G n bs given) (All-append G replacement_bytes rest replaced more)

  within_keeps : (k : ℕ) (bs : List ℕ) → All G bs → All G (utf8_lossy_within k bs)
  within_keeps zero bs given = given
  within_keeps (suc k) bs given =
      let n : ℕ = utf8_valid_len bs in
      let behind : All G (after_first_chunk bs) = All-drop G (n + utf8_invalid_len (drop n bs)) bs given in
      lossy_by bs (utf8_lossy_within k (after_first_chunk bs)) given (within_keeps k (after_first_chunk bs) behind) n (n == length bs)

  pub lossy_keeps : (bs : List ℕ) → All G bs → All G (utf8_lossy bs)
  unfolding utf8_lossy
  lossy_keeps bs given = within_keeps (length bs) bs given
