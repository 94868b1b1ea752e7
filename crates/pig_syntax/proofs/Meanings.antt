-- What a text means is UTF-8 where its body is.
use Rattle.std.proofs.Common.{◌≡◌, ℕ, ◌<◌, ◌+◌, List, [], ◌∷◌, ◌++◌, length, Bool, true, false, ◌&&◌, ◌==◌, cond, refl, sym, subst, arith, append_assoc, Some, None}
use Rattle.std.specs.Char.{encode_utf8}
use Rattle.std.specs.Str.{IsUtf8}
use Rattle.std.proofs.Math.Seq.{take-append_seam, drop-append-add, get_or-append_seam}
use Rattle.std.proofs.lemmas.Grind.{common_steps}
use Rattle.std.proofs.lemmas.List.{length-append}
use Rattle.std.proofs.lemmas.Str.{IsUtf8-append, IsUtf8-encode, IsUtf8-from_ascii, IsUtf8-take, IsUtf8-drop, IsCharBoundary-before_ascii, IsCharBoundary-after_ascii}
use Rattle.std.proofs.lemmas.Str.Ascii.{IsAscii-cons, IsAscii-nil}
use Rattle.pig_syntax.specs.Tokens.{Means, nothing, plain, escaped, named, escape_of, is_hex_digit}

-- an ASCII byte parts UTF-8 text in two
parted : (front : List ℕ) (b : ℕ) (back : List ℕ) → b < 128 → IsUtf8 (front ++ b ∷ back) → IsUtf8 front × IsUtf8 back
parted front b back low h =
    let whole : List ℕ = front ++ b ∷ back in
    let within : length front < length whole = omega (arith, length-append front (b ∷ back)) in
    let here = subst (λ x. x < 128) (sym (get_or-append_seam front b back 0)) low in (
      subst IsUtf8 (take-append_seam front (b ∷ back)) (IsUtf8-take whole (length front) h (IsCharBoundary-before_ascii whole (length front) within here)),
      subst IsUtf8 (drop-append-add front (b ∷ back) 1) (IsUtf8-drop whole (length front + 1) h (IsCharBoundary-after_ascii whole (length front) h within here)),
    )

behind : (b : ℕ) (back : List ℕ) → b < 128 → IsUtf8 (b ∷ back) → IsUtf8 back
behind b back low h = (parted [] b back low h).1

ascii_first : (c : ℕ) (cs : List ℕ) → c < 128 → IsUtf8 cs → IsUtf8 (c ∷ cs)
ascii_first c cs low h = IsUtf8-append (c ∷ []) cs (IsUtf8-from_ascii (c ∷ []) (IsAscii-cons c [] low IsAscii-nil)) h

escapes_low : (e c : ℕ) → escape_of e ≡ Some c → (e < 128) × (c < 128)
unfolding escape_of
escapes_low e c h = by_tests (e == 39) (e == 92) (e == 116) refl refl refl h
  where
    by_tests : (quote slash tab : Bool) → (e == 39) ≡ quote → (e == 92) ≡ slash → (e == 116) ≡ tab
        → cond quote (Some 39) (cond slash (Some 92) (cond tab (Some 9) None)) ≡ Some c → (e < 128) × (c < 128)
    by_tests true slash tab x y z k = let is : 39 ≡ c = cc in (grind (arith, common_steps), omega (arith, is))
    by_tests false true tab x y z k = let is : 92 ≡ c = cc in (grind (arith, common_steps), omega (arith, is))
    by_tests false false true x y z k = let is : 9 ≡ c = cc in (grind (arith, common_steps), omega (arith, is))
    by_tests false false false x y z k = absurd (cc)

hex_low : (b : ℕ) → is_hex_digit b ≡ true → b < 128
unfolding is_hex_digit
hex_low b h = grind (arith, common_steps)

pub four : (a b c d : Bool) → (a && (b && (c && (d && true)))) ≡ true → (a ≡ true) × (b ≡ true) × (c ≡ true) × (d ≡ true)
four true true true true h = (refl, refl, refl, refl)
four true true true false h = absurd (cc)
four true true false d h = absurd (cc)
four true false c d h = absurd (cc)
four false b c d h = absurd (cc)

-- whatever stands before the body
means_behind : {body content : List ℕ} → Means body content → (front : List ℕ) → IsUtf8 (front ++ body) → IsUtf8 (front ++ content)
means_behind nothing front h = h
means_behind (plain {b = b} {bs = bs} {cs = cs} p m) front h =
    subst IsUtf8 (append_assoc front (b ∷ []) cs) (means_behind m (front ++ b ∷ []) (subst IsUtf8 (sym (append_assoc front (b ∷ []) bs)) h))
means_behind (escaped {e = e} {c = c} {bs = bs} {cs = cs} p m) front h =
    let low = escapes_low e c p in
    let halves = parted front 92 (e ∷ bs) (omega arith) h in
    IsUtf8-append front (c ∷ cs) halves.0 (ascii_first c cs low.1 (means_behind m [] (behind e bs low.0 halves.1)))
means_behind (named {a = a} {b = b} {c = c} {d = d} {v = v} {bs = bs} {cs = cs} p m) front h =
    let halves = parted front 92 (117 ∷ a ∷ b ∷ c ∷ d ∷ bs) (omega arith) h in
    let digits = four (is_hex_digit a) (is_hex_digit b) (is_hex_digit c) (is_hex_digit d) p.hexadecimal in
    let rest = behind d bs (hex_low d digits.3) (behind c (d ∷ bs) (hex_low c digits.2) (behind b (c ∷ d ∷ bs) (hex_low b digits.1) (behind a (b ∷ c ∷ d ∷ bs) (hex_low a digits.0) (behind 117 (a ∷ b ∷ c ∷ d ∷ bs) (omega arith) halves.1)))) in
    IsUtf8-append front (encode_utf8 v ++ cs) halves.0 (IsUtf8-append (encode_utf8 v) cs (IsUtf8-encode v p.scalar) (means_behind m [] rest))

-- the meaning of UTF-8 text is UTF-8
pub means_utf8 : {body content : List ℕ} → Means body content → IsUtf8 body → IsUtf8 content
means_utf8 m h = means_behind m [] h
