-- Texts.
use Rattle.std.proofs.Common.{◌≡◌, ◌∙◌, ℕ, zero, suc, ◌+◌, ◌-◌, ◌*◌, ◌<◌, List, [], ◌∷◌, ◌++◌, Bool, true, false, cond, length, take, refl, sym, ap, subst, arith, append-nil, append_assoc}
use Rattle.std.specs.Prelude.{Option, Some, None, not, ◌||◌, ◌==◌, option_map, option_and_then}
use Rattle.std.specs.Char.{digit_value, encode_utf8}
use Rattle.std.specs.Str.{IsUtf8, is_utf8}
use Rattle.std.specs.Str.Parse.{digits_value}
use Rattle.std.proofs.Math.Utf8.{scalar}
use Rattle.std.proofs.Math.Seq.{take-append_seam}
use Rattle.std.proofs.lemmas.Bool.Decides.{Decides-eqb}
use Rattle.std.proofs.lemmas.List.{length-append}
use Rattle.std.proofs.lemmas.Str.{IsUtf8-from_is_utf8}
use Rattle.pig_syntax.specs.declared.scanning.TextUnit.{TextUnit}
use Rattle.pig_syntax.specs.declared.scanning.TextUnit.TheVariants as u
use Rattle.pig_syntax.specs.declared.tokens.TokenForm.{TokenForm}
use Rattle.pig_syntax.specs.declared.tokens.TokenForm.TheVariants as f
use Rattle.pig_syntax.specs.Tokens.{IsNamed, IsToken, Means, nothing, plain, escaped, named, escape_of, is_hex_digit, is_plain}
use Rattle.pig_syntax.specs.Scanner.{Found, bytes_of, character_of, content_after, escape_at, form_at, hex_of, is_end, named_at, named_by, text_at, text_of, unit_at}
use Rattle.pig_syntax.proofs.Covers.{Covers, Stands, bind_some, exactly, map_some, some_same}
use Rattle.pig_syntax.proofs.Utf8.{text_found}
use Rattle.pig_syntax.proofs.Meanings.{four, means_utf8}

-- ---- the units of a text, where they stand

less_one : (n : ℕ) → suc n - 1 ≡ n
less_one n = omega arith

plain_cases : (b : ℕ) → is_plain b ≡ true → ((b == 39) ≡ false) × ((b == 92) ≡ false)
unfolding is_plain
plain_cases b h = by_tests (b == 39) (b == 92) (b == 10) h
  where
    by_tests : (quote slash feed : Bool) → not (quote || slash || feed) ≡ true → (quote ≡ false) × (slash ≡ false)
    by_tests true slash feed g = absurd (cc)
    by_tests false true feed g = absurd (cc)
    by_tests false false feed g = (refl, refl)

plain_read : (b : ℕ) (bs : List ℕ) → is_plain b ≡ true → unit_at (b ∷ bs) ≡ Some (u.Byte b, bs)
unfolding unit_at
plain_read b bs h = let none = plain_cases b h in rw (none.0, none.1, h) refl

no_u : (e c : ℕ) → escape_of e ≡ Some c → (e == 117) ≡ false
unfolding escape_of
no_u e c h = by_test (e == 117) refl
  where
    at_u : (x : ℕ) → x ≡ 117 → escape_of x ≡ Some c → ⊥
    at_u x same g = let found : escape_of 117 ≡ Some c = subst (λ y. escape_of y ≡ Some c) same g in let none : ◌≡◌ {A = Option ℕ} None (Some c) = found in cc

    by_test : (t : Bool) → (e == 117) ≡ t → t ≡ false
    by_test true same = absurd (at_u e ((Decides-eqb e 117).0 same) h)
    by_test false same = refl

escape_read : (e c : ℕ) (bs : List ℕ) → escape_of e ≡ Some c → unit_at (92 ∷ e ∷ bs) ≡ Some (u.Byte c, bs)
unfolding unit_at escape_at
escape_read e c bs h = rw (no_u e c h) (rw h refl)

hex_read : (b : ℕ) → is_hex_digit b ≡ true → hex_of b ≡ Some (digit_value b)
unfolding hex_of
hex_read b h = rw h refl

character_read : (v : ℕ) → (v == 10) ≡ false → scalar v ≡ true → character_of v ≡ Some v
unfolding character_of
character_read v feed is = rw (feed, is) refl

hex_number : (x y z w : ℕ) → ((x * 16 + y) * 16 + z) * 16 + w ≡ (((0 * 16 + x) * 16 + y) * 16 + z) * 16 + w
hex_number x y z w = omega arith

named_read : (a b c d v : ℕ) → IsNamed (a ∷ b ∷ c ∷ d ∷ []) v → named_by a b c d ≡ Some v
unfolding named_by
named_read a b c d v h =
    let digits = four (is_hex_digit a) (is_hex_digit b) (is_hex_digit c) (is_hex_digit d) h.hexadecimal in
    let value : ((digit_value a * 16 + digit_value b) * 16 + digit_value c) * 16 + digit_value d ≡ v = hex_number (digit_value a) (digit_value b) (digit_value c) (digit_value d) ∙ sym h.value in
    rw (hex_read a digits.0, hex_read b digits.1, hex_read c digits.2, hex_read d digits.3) (ap character_of value ∙ character_read v h.no_lf h.scalar)

unicode_read : (a b c d v : ℕ) (bs : List ℕ) → IsNamed (a ∷ b ∷ c ∷ d ∷ []) v → unit_at (92 ∷ 117 ∷ a ∷ b ∷ c ∷ d ∷ bs) ≡ Some (u.Char v, bs)
unfolding unit_at escape_at named_at
unicode_read a b c d v bs h = rw (named_read a b c d v h) refl

goes_on : (n : ℕ) (read bs rest : List ℕ) (unit : TextUnit) (o : Found (List ℕ)) → unit_at bs ≡ Some (unit, rest) → is_end unit ≡ false → content_after n (read ++ bytes_of unit) rest ≡ o → content_after (suc n) read bs ≡ o
unfolding content_after
goes_on n read bs rest unit o h more e = rw h (rw more e)

ends : (n : ℕ) (read rest : List ℕ) → content_after (suc n) read (39 ∷ rest) ≡ Some (read, rest)
unfolding content_after unit_at
ends n read rest = refl

-- what stands between quotes is read as what it means
content_read : {body content : List ℕ} → Means body content → (n : ℕ) (read rest : List ℕ) → length body < n → content_after n read (body ++ 39 ∷ rest) ≡ Some (read ++ content, rest)
content_read m zero read rest h = absurd (omega arith)
content_read nothing (suc n) read rest h = rw (append-nil read) (ends n read rest)
content_read (plain {b = b} {bs = bs} {cs = cs} p m) (suc n) read rest h =
    goes_on n read (b ∷ (bs ++ 39 ∷ rest)) (bs ++ 39 ∷ rest) (u.Byte b) (Some (read ++ b ∷ cs, rest)) (plain_read b (bs ++ 39 ∷ rest) p) refl
    (content_read {body = bs} {content = cs} m n (read ++ b ∷ []) rest (omega arith) ∙ rw (append_assoc read (b ∷ []) cs) refl)
content_read (escaped {e = e} {c = c} {bs = bs} {cs = cs} p m) (suc n) read rest h =
    goes_on n read (92 ∷ e ∷ (bs ++ 39 ∷ rest)) (bs ++ 39 ∷ rest) (u.Byte c) (Some (read ++ c ∷ cs, rest)) (escape_read e c (bs ++ 39 ∷ rest) p) refl
    (content_read {body = bs} {content = cs} m n (read ++ c ∷ []) rest (omega arith) ∙ rw (append_assoc read (c ∷ []) cs) refl)
content_read (named {a = a} {b = b} {c = c} {d = d} {v = v} {bs = bs} {cs = cs} p m) (suc n) read rest h =
    goes_on n read (92 ∷ 117 ∷ a ∷ b ∷ c ∷ d ∷ (bs ++ 39 ∷ rest)) (bs ++ 39 ∷ rest) (u.Char v) (Some (read ++ (encode_utf8 v ++ cs), rest)) (unicode_read a b c d v (bs ++ 39 ∷ rest) p) refl
    (content_read {body = bs} {content = cs} m n (read ++ encode_utf8 v) rest (omega arith) ∙ rw (append_assoc read (encode_utf8 v) cs) refl)

text_read : (bs : List ℕ) → form_at (39 ∷ bs) ≡ text_at bs
unfolding form_at
text_read bs = refl

body_length : (body rest : List ℕ) → length (body ++ 39 ∷ rest) - length rest - 1 ≡ length body
body_length body rest = omega (arith, length-append body (39 ∷ rest))

body_read : (body rest : List ℕ) → take (length (body ++ 39 ∷ rest) - length rest - 1) (body ++ 39 ∷ rest) ≡ body
body_read body rest = rw (body_length body rest) (take-append_seam body (39 ∷ rest))

-- a text is found, behind its first quote
found_text : (body content rest : List ℕ) → IsUtf8 body → Means body content → text_at (body ++ 39 ∷ rest) ≡ Some (f.Text content, rest)
unfolding text_at
found_text body content rest front m =
    let short : length body < length (body ++ 39 ∷ rest) = omega (arith, length-append body (39 ∷ rest)) in
    rw (content_read m (length (body ++ 39 ∷ rest)) [] rest short)
    (rw (body_read body rest) (rw (sym (text_found body content content front refl)) refl))

pub text_covers : (w rest content : List ℕ) → IsToken (f.Text content) w → Covers (form_at (w ++ rest)) (f.Text content) rest
text_covers w rest content h =
    let spelled : w ++ rest ≡ 39 ∷ (h.body ++ 39 ∷ rest) = rw h.spelled (ap (λ x. 39 ∷ x) (append_assoc h.body (39 ∷ []) rest)) in
    exactly (form_at (w ++ rest)) (f.Text content) rest (ap form_at spelled ∙ (text_read (h.body ++ 39 ∷ rest) ∙ found_text h.body content rest h.characters h.means))

-- ---- where a text is found, one stands

-- a unit that is found: the closing quote, or what goes before the meaning of the rest
record UnitStands (bs : List ℕ) (unit : TextUnit) (rest : List ℕ) : Type 0 where
  closes : is_end unit ≡ true → bs ≡ 39 ∷ rest
  goes : is_end unit ≡ false → (front : List ℕ) × (bs ≡ front ++ rest) × ((body content : List ℕ) → Means body content → Means (front ++ body) (bytes_of unit ++ content))

unit_form : {unit other : TextUnit} {rest left : List ℕ} → ◌≡◌ {A = Found TextUnit} (Some (unit, rest)) (Some (other, left)) → unit ≡ other
unit_form e = ap (λ p. p.0) (some_same e)

unit_rest : {unit other : TextUnit} {rest left : List ℕ} → ◌≡◌ {A = Found TextUnit} (Some (unit, rest)) (Some (other, left)) → rest ≡ left
unit_rest e = ap (λ p. p.1) (some_same e)

moved : (bs : List ℕ) (unit other : TextUnit) (rest left : List ℕ) → ◌≡◌ {A = Found TextUnit} (Some (unit, rest)) (Some (other, left)) → UnitStands bs unit rest → UnitStands bs other left
moved bs unit other rest left e stands = subst (λ x. UnitStands bs x left) (unit_form e) (subst (λ r. UnitStands bs unit r) (unit_rest e) stands)

end_stands : (rest : List ℕ) → UnitStands (39 ∷ rest) u.End rest
end_stands rest = record { closes = λ h. refl; goes = λ h. absurd (cc) }

plain_stands : (b : ℕ) (rest : List ℕ) → is_plain b ≡ true → UnitStands (b ∷ rest) (u.Byte b) rest
plain_stands b rest p = record { closes = λ h. absurd (cc); goes = λ h. (b ∷ [], refl, λ body content m. plain p m) }

escape_stands : (e c : ℕ) (rest : List ℕ) → escape_of e ≡ Some c → UnitStands (92 ∷ e ∷ rest) (u.Byte c) rest
escape_stands e c rest p = record { closes = λ h. absurd (cc); goes = λ h. (92 ∷ e ∷ [], refl, λ body content m. escaped p m) }

char_stands : (a b c d v : ℕ) (rest : List ℕ) → IsNamed (a ∷ b ∷ c ∷ d ∷ []) v → UnitStands (92 ∷ 117 ∷ a ∷ b ∷ c ∷ d ∷ rest) (u.Char v) rest
char_stands a b c d v rest p = record { closes = λ h. absurd (cc); goes = λ h. (92 ∷ 117 ∷ a ∷ b ∷ c ∷ d ∷ [], refl, λ body content m. named p m) }

hex_told : (b x : ℕ) → hex_of b ≡ Some x → (is_hex_digit b ≡ true) × (digit_value b ≡ x)
unfolding hex_of
hex_told b x h = by_test (is_hex_digit b) refl h
  where
    by_test : (t : Bool) → is_hex_digit b ≡ t → cond t (Some (digit_value b)) None ≡ Some x → (is_hex_digit b ≡ true) × (digit_value b ≡ x)
    by_test true e g = (e, some_same g)
    by_test false e g = absurd (cc)

character_told : (n v : ℕ) → character_of n ≡ Some v → ((n == 10) ≡ false) × (scalar n ≡ true) × (n ≡ v)
unfolding character_of
character_told n v h = by_tests (n == 10) (scalar n) refl refl h
  where
    by_tests : (feed is : Bool) → (n == 10) ≡ feed → scalar n ≡ is → cond feed None (cond is (Some n) None) ≡ Some v → ((n == 10) ≡ false) × (scalar n ≡ true) × (n ≡ v)
    by_tests true is e g k = absurd (cc)
    by_tests false true e g k = (e, g, some_same k)
    by_tests false false e g k = absurd (cc)

named_told : (a b c d v : ℕ) → named_by a b c d ≡ Some v → IsNamed (a ∷ b ∷ c ∷ d ∷ []) v
unfolding named_by
named_told a b c d v h =
    let x = bind_some (hex_of a) (λ x. option_and_then (λ y. option_and_then (λ z. option_and_then (λ w. character_of (((x * 16 + y) * 16 + z) * 16 + w)) (hex_of d)) (hex_of c)) (hex_of b)) v h in
    let y = bind_some (hex_of b) (λ y. option_and_then (λ z. option_and_then (λ w. character_of (((x.0 * 16 + y) * 16 + z) * 16 + w)) (hex_of d)) (hex_of c)) v x.2 in
    let z = bind_some (hex_of c) (λ z. option_and_then (λ w. character_of (((x.0 * 16 + y.0) * 16 + z) * 16 + w)) (hex_of d)) v y.2 in
    let w = bind_some (hex_of d) (λ w. character_of (((x.0 * 16 + y.0) * 16 + z.0) * 16 + w)) v z.2 in
    parts x.0 y.0 z.0 w.0 (hex_told a x.0 x.1) (hex_told b y.0 y.1) (hex_told c z.0 z.1) (hex_told d w.0 w.1) (character_told (((x.0 * 16 + y.0) * 16 + z.0) * 16 + w.0) v w.2)
  where
    parts : (x y z w : ℕ) → (is_hex_digit a ≡ true) × (digit_value a ≡ x) → (is_hex_digit b ≡ true) × (digit_value b ≡ y) → (is_hex_digit c ≡ true) × (digit_value c ≡ z) → (is_hex_digit d ≡ true) × (digit_value d ≡ w)
        → (((((x * 16 + y) * 16 + z) * 16 + w) == 10) ≡ false) × (scalar (((x * 16 + y) * 16 + z) * 16 + w) ≡ true) × (((x * 16 + y) * 16 + z) * 16 + w ≡ v) → IsNamed (a ∷ b ∷ c ∷ d ∷ []) v
    parts x y z w p q r s k =
        let digits : digits_value 16 (a ∷ b ∷ c ∷ d ∷ []) ≡ ((x * 16 + y) * 16 + z) * 16 + w = rw (p.1, q.1, r.1, s.1) (sym (hex_number x y z w)) in
        record {
          hexadecimal = rw (p.0, q.0, r.0, s.0) refl;
          value = sym k.2 ∙ sym digits;
          no_lf = subst (λ n. (n == 10) ≡ false) k.2 k.0;
          scalar = subst (λ n. scalar n ≡ true) k.2 k.1;
        }

named_stands : (bs rest : List ℕ) (unit : TextUnit) → named_at bs ≡ Some (unit, rest) → UnitStands (92 ∷ 117 ∷ bs) unit rest
unfolding named_at
named_stands [] rest unit h = absurd (cc)
named_stands (a ∷ []) rest unit h = absurd (cc)
named_stands (a ∷ b ∷ []) rest unit h = absurd (cc)
named_stands (a ∷ b ∷ c ∷ []) rest unit h = absurd (cc)
named_stands (a ∷ b ∷ c ∷ d ∷ bs) rest unit h = by_name (named_by a b c d) refl h
  where
    by_name : (o : Option ℕ) → named_by a b c d ≡ o → option_map {T = ℕ} {U = TextUnit × List ℕ} (λ v. (u.Char v, bs)) o ≡ Some (unit, rest) → UnitStands (92 ∷ 117 ∷ a ∷ b ∷ c ∷ d ∷ bs) unit rest
    by_name None e g = absurd (cc)
    by_name (Some v) e g = moved _ (u.Char v) unit bs rest g (char_stands a b c d v bs (named_told a b c d v e))

escaped_stands : (bs rest : List ℕ) (unit : TextUnit) → escape_at bs ≡ Some (unit, rest) → UnitStands (92 ∷ bs) unit rest
unfolding escape_at
escaped_stands [] rest unit h = absurd (cc)
escaped_stands (e ∷ bs) rest unit h = by_test (e == 117) refl h
  where
    by_letter : (o : Option ℕ) → escape_of e ≡ o → option_map {T = ℕ} {U = TextUnit × List ℕ} (λ c. (u.Byte c, bs)) o ≡ Some (unit, rest) → UnitStands (92 ∷ e ∷ bs) unit rest
    by_letter None is g = absurd (cc)
    by_letter (Some c) is g = moved _ (u.Byte c) unit bs rest g (escape_stands e c bs is)

    by_test : (t : Bool) → (e == 117) ≡ t → cond t (named_at bs) (option_map (λ c. (u.Byte c, bs)) (escape_of e)) ≡ Some (unit, rest) → UnitStands (92 ∷ e ∷ bs) unit rest
    by_test true is g = subst (λ x. UnitStands (92 ∷ x ∷ bs) unit rest) (sym ((Decides-eqb e 117).0 is)) (named_stands bs rest unit g)
    by_test false is g = by_letter (escape_of e) refl g

unit_stands : (bs rest : List ℕ) (unit : TextUnit) → unit_at bs ≡ Some (unit, rest) → UnitStands bs unit rest
unfolding unit_at
unit_stands [] rest unit h = absurd (cc)
unit_stands (b ∷ bs) rest unit h = by_quote (b == 39) refl h
  where
    by_plain : (t : Bool) → is_plain b ≡ t → cond {A = Found TextUnit} t (Some (u.Byte b, bs)) None ≡ Some (unit, rest) → UnitStands (b ∷ bs) unit rest
    by_plain true is g = moved _ (u.Byte b) unit bs rest g (plain_stands b bs is)
    by_plain false is g = absurd (cc)

    by_slash : (t : Bool) → (b == 92) ≡ t → cond t (escape_at bs) (cond {A = Found TextUnit} (is_plain b) (Some (u.Byte b, bs)) None) ≡ Some (unit, rest) → UnitStands (b ∷ bs) unit rest
    by_slash true is g = subst (λ x. UnitStands (x ∷ bs) unit rest) (sym ((Decides-eqb b 92).0 is)) (escaped_stands bs rest unit g)
    by_slash false is g = by_plain (is_plain b) refl g

    by_quote : (t : Bool) → (b == 39) ≡ t → cond {A = Found TextUnit} t (Some (u.End, bs)) (cond (b == 92) (escape_at bs) (cond {A = Found TextUnit} (is_plain b) (Some (u.Byte b, bs)) None)) ≡ Some (unit, rest) → UnitStands (b ∷ bs) unit rest
    by_quote true is g = moved _ u.End unit bs rest g (subst (λ x. UnitStands (x ∷ bs) u.End bs) (sym ((Decides-eqb b 39).0 is)) (end_stands bs))
    by_quote false is g = by_slash (b == 92) refl g

-- what is read as a content is what stands up to a quote
record ContentStands (bs read content rest : List ℕ) : Type 0 where
  body : List ℕ
  meant : List ℕ
  whole : bs ≡ body ++ 39 ∷ rest
  means : Means body meant
  is : content ≡ read ++ meant

found_content : {read content rest left : List ℕ} → ◌≡◌ {A = Found (List ℕ)} (Some (read, rest)) (Some (content, left)) → (read ≡ content) × (rest ≡ left)
found_content e = (ap (λ p. p.0) (some_same e), ap (λ p. p.1) (some_same e))

content_stands : (n : ℕ) (read bs content rest : List ℕ) → content_after n read bs ≡ Some (content, rest) → ContentStands bs read content rest
unfolding content_after
content_stands zero read bs content rest h = absurd (cc)
content_stands (suc n) read bs content rest h =
    let unit = bind_some (unit_at bs) (λ unit. cond (is_end unit.0) (Some (read, unit.1)) (content_after n (read ++ bytes_of unit.0) unit.1)) (content, rest) h in
    by_end unit.0.0 unit.0.1 (content_stands n (read ++ bytes_of unit.0.0) unit.0.1 content rest) (unit_stands bs unit.0.1 unit.0.0 unit.1) (is_end unit.0.0) refl unit.2
  where
    by_end : (unit : TextUnit) (left : List ℕ) → (content_after n (read ++ bytes_of unit) left ≡ Some (content, rest) → ContentStands left (read ++ bytes_of unit) content rest) → UnitStands bs unit left
        → (t : Bool) → is_end unit ≡ t → cond {A = Found (List ℕ)} t (Some (read, left)) (content_after n (read ++ bytes_of unit) left) ≡ Some (content, rest) → ContentStands bs read content rest
    by_end unit left ih stands true e g =
        let same = found_content g in
        record { body = []; meant = []; whole = stands.closes e ∙ ap (λ r. 39 ∷ r) same.1; means = nothing; is = sym same.0 ∙ sym (append-nil read) }
    by_end unit left ih stands false e g =
        let more = ih g in
        let front = stands.goes e in
        record {
          body = front.0 ++ more.body;
          meant = bytes_of unit ++ more.meant;
          whole = front.1 ∙ (ap (λ x. front.0 ++ x) more.whole ∙ sym (append_assoc front.0 more.body (39 ∷ rest)));
          means = front.2 more.body more.meant more.means;
          is = more.is ∙ append_assoc read (bytes_of unit) more.meant;
        }

text_told : (body content text : List ℕ) → text_of body content ≡ Some text → IsUtf8 body × (content ≡ text)
unfolding text_of
text_told body content text h = by_test (is_utf8 body) refl h
  where
    by_test : (t : Bool) → is_utf8 body ≡ t → cond t (Some content) None ≡ Some text → IsUtf8 body × (content ≡ text)
    by_test true e k = (IsUtf8-from_is_utf8 body e, some_same k)
    by_test false e k = absurd (cc)

text_is : (bs content rest text : List ℕ) → ContentStands bs [] content rest → text_of (take (length bs - length rest - 1) bs) content ≡ Some text → Stands (39 ∷ bs) (f.Text text) rest
text_is bs content rest text stands h =
    let body : take (length bs - length rest - 1) bs ≡ stands.body = ap (λ x. take (length x - length rest - 1) x) stands.whole ∙ body_read stands.body rest in
    let told = text_told (take (length bs - length rest - 1) bs) content text h in
    record {
      text = 39 ∷ (stands.body ++ 39 ∷ []);
      whole = ap (λ x. 39 ∷ x) (stands.whole ∙ sym (append_assoc stands.body (39 ∷ []) rest));
      spelled = record {
        body = stands.body;
        spelled = refl;
        characters = subst IsUtf8 body told.0;
        means = subst (λ c. Means stands.body c) (sym stands.is ∙ told.1) stands.means;
      };
    }

-- the content of a text is UTF-8 where the bytes that write it are
pub content_utf8 : (bs content rest : List ℕ) → content_after (length bs) [] bs ≡ Some (content, rest) → IsUtf8 (take (length bs - length rest - 1) bs) → IsUtf8 content
content_utf8 bs content rest h front =
    let stands : ContentStands bs [] content rest = content_stands (length bs) [] bs content rest h in
    let body : take (length bs - length rest - 1) bs ≡ stands.body = ap (λ x. take (length x - length rest - 1) x) stands.whole ∙ body_read stands.body rest in
    subst IsUtf8 (sym stands.is) (means_utf8 stands.means (subst IsUtf8 body front))

pub text_stands : (bs left : List ℕ) (form : TokenForm) → text_at bs ≡ Some (form, left) → Stands (39 ∷ bs) form left
unfolding text_at
text_stands bs left form h =
    let found = bind_some (content_after (length bs) [] bs) (λ found. option_map (λ text. (f.Text text, found.1)) (text_of (take (length bs - length found.1 - 1) bs) found.0)) (form, left) h in
    let text = map_some (text_of (take (length bs - length found.0.1 - 1) bs) found.0.0) (λ text. (f.Text text, found.0.1)) (form, left) found.2 in
    let stands : Stands (39 ∷ bs) (f.Text text.0) found.0.1 = text_is bs found.0.0 found.0.1 text.0 (content_stands (length bs) [] bs found.0.0 found.0.1 found.1) text.1 in
    placed text.0 found.0.1 text.2 stands
  where
    placed : (text rest : List ℕ) → ◌≡◌ {A = TokenForm × List ℕ} (f.Text text, rest) (form, left) → Stands (39 ∷ bs) (f.Text text) rest → Stands (39 ∷ bs) form left
    placed text rest e stands = subst (λ x. Stands (39 ∷ bs) x left) (ap (λ p. p.0) e) (subst (λ r. Stands (39 ∷ bs) (f.Text text) r) (ap (λ p. p.1) e) stands)
