-- Ints, longs and floats.
use Rattle.std.proofs.Common.{◌≡◌, ◌∙◌, ℕ, ℤ, pos, ◌<◌, ◌≤◌, List, [], ◌∷◌, ◌++◌, Bool, true, false, cond, length, refl, sym, ap, subst, arith, ◌⊎◌, inl, inr, append-nil, append_assoc}
use Rattle.std.specs.Prelude.{Option, Some, None, ◌||◌, ◌==◌, nat_le, codes, option_and_then}
use Rattle.std.specs.Char.{is_ascii_alphabetic, is_ascii_digit}
use Rattle.std.specs.List.{list_all}
use Rattle.std.specs.Option.{option_map_or}
use Rattle.std.specs.Str.Parse.{digits_value}
use Rattle.std.proofs.lemmas.Grind.{common_steps}
use Rattle.pig_syntax.specs.declared.tokens.TokenForm.{TokenForm}
use Rattle.pig_syntax.specs.declared.tokens.TokenForm.TheVariants as f
use Rattle.pig_syntax.specs.Tokens.{IsDigits, IsExponent, IsFloat, IsSign, IsSuffix, IsToken, begins_as_word, is_word_byte, strip}
use Rattle.pig_syntax.specs.Scanner.{form_at, int_of, long_of, number_after, number_at, past, past_digits, past_either, past_exponent, past_fraction, run, whole_after, with_rest}
use Rattle.pig_syntax.proofs.Covers.{Covers, at_least, bind_some, exactly, same_rest, some_same}
use Rattle.pig_syntax.proofs.Prefixes.{strip-append, strip_split}
use Rattle.pig_syntax.proofs.Runs.{both_first, past-append, past_no, past_shorter, run-append, run_no, run_passes, run_yes}

-- ---- digits

digit_no_letter : (b : ℕ) → is_ascii_digit b ≡ true → is_ascii_alphabetic b ≡ false
digit_no_letter b h = grind (arith, common_steps)

no_digit : (b : ℕ) → is_word_byte b ≡ false → is_ascii_digit b ≡ false
unfolding is_word_byte
no_digit b h = grind (arith, common_steps)

pub first_digit : (b : ℕ) (bs : List ℕ) → IsDigits (b ∷ bs) → is_ascii_digit b ≡ true
first_digit b bs h = both_first (is_ascii_digit b) (list_all is_ascii_digit bs) h.digits

number_read : (b : ℕ) (bs : List ℕ) → is_ascii_digit b ≡ true → form_at (b ∷ bs) ≡ number_at (b ∷ bs)
unfolding form_at
number_read b bs h = rw (digit_no_letter b h, h) refl

-- what is found where digits stand
pub found_digits : (ds rest : List ℕ) → IsDigits ds → form_at (ds ++ rest) ≡ number_after (ds ++ run is_ascii_digit rest) (past is_ascii_digit rest)
unfolding number_at
found_digits [] rest h = absurd (let more : 0 < length {A = ℕ} [] = h.some in omega arith)
found_digits (b ∷ bs) rest h =
    number_read b (bs ++ rest) (first_digit b bs h) ∙ rw (run-append is_ascii_digit (b ∷ bs) rest h.digits, past-append is_ascii_digit (b ∷ bs) rest h.digits) refl

-- no digit stands where no byte of a word does
pub no_run : (bs : List ℕ) → begins_as_word bs ≡ false → (run is_ascii_digit bs ≡ []) × (past is_ascii_digit bs ≡ bs)
unfolding run past
no_run [] h = (refl, refl)
no_run (b ∷ bs) h = (run_no is_ascii_digit b bs (no_digit b h), past_no is_ascii_digit b bs (no_digit b h))

-- a run of digits, where one stands
pub run_digits : (b : ℕ) (bs : List ℕ) → is_ascii_digit b ≡ true → IsDigits (run is_ascii_digit (b ∷ bs))
run_digits b bs h = record { some = rw (run_yes is_ascii_digit b bs h) (omega arith); digits = run_passes is_ascii_digit (b ∷ bs) }

-- ---- what is left behind an optional part: the bytes behind it, and all of them where no byte of a word begins them

pub record Left (rest bs : List ℕ) : Type 0 where
  pub short : length rest ≤ length bs
  pub all : begins_as_word bs ≡ false → rest ≡ bs

left_itself : (bs : List ℕ) → Left bs bs
left_itself bs = record { short = omega arith; all = λ h. refl }

left_of : (rest bs : List ℕ) → rest ≡ bs → Left rest bs
left_of rest bs e = subst (λ r. Left r bs) (sym e) (left_itself bs)

left_left : (rest mid bs : List ℕ) → Left rest mid → Left mid bs → Left rest bs
left_left rest mid bs a b = record {
  short = let one = a.short in let other = b.short in omega arith;
  all = λ h. let same : mid ≡ bs = b.all h in a.all (subst (λ x. begins_as_word x ≡ false) (sym same) h) ∙ same;
}

left_digits : (bs : List ℕ) → Left (past is_ascii_digit bs) bs
left_digits bs = record { short = past_shorter is_ascii_digit bs; all = λ h. (no_run bs h).1 }

no_suffix_byte : (b : ℕ) → is_word_byte b ≡ false → (b == 70 || b == 102) ≡ false
unfolding is_word_byte
no_suffix_byte b h = grind (arith, common_steps)

no_exponent_byte : (b : ℕ) → is_word_byte b ≡ false → (b == 69 || b == 101) ≡ false
unfolding is_word_byte
no_exponent_byte b h = grind (arith, common_steps)

either_shorter : (x y : ℕ) (bs : List ℕ) → length (past_either x y bs) ≤ length bs
unfolding past_either
either_shorter x y [] = omega arith
either_shorter x y (b ∷ bs) = by_test (b == x || b == y)
  where
    by_test : (t : Bool) → length (cond t bs (b ∷ bs)) ≤ length (b ∷ bs)
    by_test true = omega arith
    by_test false = omega arith

either_kept : (bs : List ℕ) → begins_as_word bs ≡ false → past_either 70 102 bs ≡ bs
unfolding past_either
either_kept [] h = refl
either_kept (b ∷ bs) h = rw (no_suffix_byte b h) refl

left_suffix : (bs : List ℕ) → Left (past_either 70 102 bs) bs
left_suffix bs = record { short = either_shorter 70 102 bs; all = either_kept bs }

digits_shorter : (bs rest : List ℕ) → past_digits bs ≡ Some rest → length rest ≤ length bs
unfolding past_digits
digits_shorter [] rest h = absurd (cc)
digits_shorter (b ∷ bs) rest h = by_test (is_ascii_digit b) h
  where
    by_test : (t : Bool) → cond t (Some (past is_ascii_digit (b ∷ bs))) None ≡ Some rest → length rest ≤ length (b ∷ bs)
    by_test true e = let same : past is_ascii_digit (b ∷ bs) ≡ rest = some_same e in subst (λ r. length r ≤ length (b ∷ bs)) same (past_shorter is_ascii_digit (b ∷ bs))
    by_test false e = absurd (cc)

exponent_shorter : (bs : List ℕ) → length (past_exponent bs) ≤ length bs
unfolding past_exponent
exponent_shorter [] = omega arith
exponent_shorter (b ∷ bs) = by_test (b == 69 || b == 101)
  where
    by_digits : (o : Option (List ℕ)) → past_digits (past_either 43 45 bs) ≡ o → length (option_map_or (λ rest. rest) o (b ∷ bs)) ≤ length (b ∷ bs)
    by_digits None e = omega arith
    by_digits (Some rest) e = let one = digits_shorter (past_either 43 45 bs) rest e in let other = either_shorter 43 45 bs in omega arith

    by_test : (t : Bool) → length (cond t (option_map_or (λ rest. rest) (past_digits (past_either 43 45 bs)) (b ∷ bs)) (b ∷ bs)) ≤ length (b ∷ bs)
    by_test true = by_digits (past_digits (past_either 43 45 bs)) refl
    by_test false = omega arith

exponent_kept : (bs : List ℕ) → begins_as_word bs ≡ false → past_exponent bs ≡ bs
unfolding past_exponent
exponent_kept [] h = refl
exponent_kept (b ∷ bs) h = rw (no_exponent_byte b h) refl

left_exponent : (bs : List ℕ) → Left (past_exponent bs) bs
left_exponent bs = record { short = exponent_shorter bs; all = exponent_kept bs }

-- ---- the parts of a float, where they stand

digits_read : (ds rest : List ℕ) → IsDigits ds → past_digits (ds ++ rest) ≡ Some (past is_ascii_digit rest)
unfolding past_digits
digits_read [] rest h = absurd (let more : 0 < length {A = ℕ} [] = h.some in omega arith)
digits_read (b ∷ bs) rest h = rw (first_digit b bs h) (ap Some (past-append is_ascii_digit (b ∷ bs) rest h.digits))

suffix_read : (b : ℕ) (rest : List ℕ) → (b ≡ 102) ⊎ (b ≡ 70) → (past_either 70 102 (past_exponent (past is_ascii_digit (b ∷ rest))) ≡ rest) × (past_either 70 102 (past is_ascii_digit (b ∷ rest)) ≡ rest)
unfolding past_exponent past_either
suffix_read b rest (inl e) = rw e (rw (past_no is_ascii_digit 102 rest refl) (refl, refl))
suffix_read b rest (inr e) = rw e (rw (past_no is_ascii_digit 70 rest refl) (refl, refl))

-- what is left behind an optional suffix, whether an exponent may stand before it or not
suffix_left : (suffix rest : List ℕ) → IsSuffix suffix → Left (past_either 70 102 (past_exponent (past is_ascii_digit (suffix ++ rest)))) rest × Left (past_either 70 102 (past is_ascii_digit (suffix ++ rest))) rest
suffix_left suffix rest (inl e) =
    let after_digits = past is_ascii_digit rest in
    rw e (
      left_left _ (past_exponent after_digits) rest (left_suffix (past_exponent after_digits)) (left_left _ after_digits rest (left_exponent after_digits) (left_digits rest)),
      left_left _ after_digits rest (left_suffix after_digits) (left_digits rest),
    )
suffix_left suffix rest (inr (inl e)) = rw e (left_of _ rest (suffix_read 102 rest (inl refl)).0, left_of _ rest (suffix_read 102 rest (inl refl)).1)
suffix_left suffix rest (inr (inr e)) = rw e (left_of _ rest (suffix_read 70 rest (inr refl)).0, left_of _ rest (suffix_read 70 rest (inr refl)).1)

no_sign : (b : ℕ) → is_ascii_digit b ≡ true → (b == 43 || b == 45) ≡ false
no_sign b h = grind (arith, common_steps)

sign_read : (sign ds rest : List ℕ) → IsSign sign → IsDigits ds → past_either 43 45 ((sign ++ ds) ++ rest) ≡ ds ++ rest
unfolding past_either
sign_read sign [] rest s h = absurd (let more : 0 < length {A = ℕ} [] = h.some in omega arith)
sign_read sign (b ∷ bs) rest (inl e) h = rw e (rw (no_sign b (first_digit b bs h)) refl)
sign_read sign (b ∷ bs) rest (inr (inl e)) h = rw e refl
sign_read sign (b ∷ bs) rest (inr (inr e)) h = rw e refl

marked : (mark : ℕ) (sign ds rest : List ℕ) → (mark ≡ 69) ⊎ (mark ≡ 101) → IsSign sign → IsDigits ds
    → past_exponent (past is_ascii_digit (mark ∷ ((sign ++ ds) ++ rest))) ≡ past is_ascii_digit rest
unfolding past_exponent
marked mark sign ds rest (inl e) s h = rw e (rw (past_no is_ascii_digit 69 ((sign ++ ds) ++ rest) refl) (rw (sign_read sign ds rest s h, digits_read ds rest h) refl))
marked mark sign ds rest (inr e) s h = rw e (rw (past_no is_ascii_digit 101 ((sign ++ ds) ++ rest) refl) (rw (sign_read sign ds rest s h, digits_read ds rest h) refl))

exponent_read : (exponent rest : List ℕ) → IsExponent exponent → past_exponent (past is_ascii_digit (exponent ++ rest)) ≡ past is_ascii_digit rest
exponent_read exponent rest h = rw h.spelled (marked h.mark h.sign h.ds rest h.letter h.signed h.digits)

-- what is left behind an optional exponent and an optional suffix
tail_left : (exponent suffix rest : List ℕ) → (exponent ≡ []) ⊎ IsExponent exponent → IsSuffix suffix
    → Left (past_either 70 102 (past_exponent (past is_ascii_digit (exponent ++ (suffix ++ rest))))) rest
tail_left exponent suffix rest (inl e) s = rw e (suffix_left suffix rest s).0
tail_left exponent suffix rest (inr e) s = rw (exponent_read exponent (suffix ++ rest) e) (suffix_left suffix rest s).1

-- the part of a float behind its first digits
fraction_read : (fraction rest : List ℕ) → IsDigits fraction → past_fraction (46 ∷ (fraction ++ rest)) ≡ Some (past_either 70 102 (past_exponent (past is_ascii_digit rest)))
unfolding past_fraction
fraction_read fraction rest h = rw (strip-append (codes ".") (fraction ++ rest), digits_read fraction rest h) refl

no_run_at : (b : ℕ) (bs : List ℕ) → is_ascii_digit b ≡ false → (run is_ascii_digit (b ∷ bs) ≡ []) × (past is_ascii_digit (b ∷ bs) ≡ b ∷ bs)
no_run_at b bs h = (run_no is_ascii_digit b bs h, past_no is_ascii_digit b bs h)

-- what is found where a float stands
found_float : (w rest : List ℕ) (h : IsFloat w)
    → form_at (w ++ rest) ≡ Some (f.Float, past_either 70 102 (past_exponent (past is_ascii_digit (h.exponent ++ (h.suffix ++ rest)))))
unfolding number_after
found_float w rest h =
    let point : List ℕ = 46 ∷ (h.fraction ++ (h.exponent ++ (h.suffix ++ rest))) in
    let spelled : w ++ rest ≡ h.whole ++ point = rw h.spelled (simp append_assoc) in
    let none : (run is_ascii_digit point ≡ []) × (past is_ascii_digit point ≡ point) = no_run_at 46 (h.fraction ++ (h.exponent ++ (h.suffix ++ rest))) refl in
    ap form_at spelled ∙ (found_digits h.whole point h.before ∙ rw (none.1, fraction_read h.fraction (h.exponent ++ (h.suffix ++ rest)) h.behind) refl)

pub float_covers : (w rest : List ℕ) → IsToken f.Float w → Covers (form_at (w ++ rest)) f.Float rest
float_covers w rest h =
    at_least (form_at (w ++ rest)) f.Float rest f.Float (past_either 70 102 (past_exponent (past is_ascii_digit (h.exponent ++ (h.suffix ++ rest))))) (found_float w rest h) left.short
    (λ apart. inl (found_float w rest h ∙ rw (left.all apart) refl))
  where
    left : Left (past_either 70 102 (past_exponent (past is_ascii_digit (h.exponent ++ (h.suffix ++ rest))))) rest
    left = tail_left h.exponent h.suffix rest h.scaled h.ended

-- ---- ints and longs

pub in_range : (n most : ℕ) → n ≤ most → nat_le n most ≡ true
in_range n most h = grind (arith, common_steps)

pub within : (n most : ℕ) → nat_le n most ≡ true → n ≤ most
within n most h = grind (arith, common_steps)

-- the rest of a float leaves less than it began with
fraction_shorter : (bs rest : List ℕ) → past_fraction bs ≡ Some rest → length rest < length bs
unfolding past_fraction
fraction_shorter bs rest h =
    let point = bind_some (strip (codes ".") bs) (λ point. option_and_then (λ digits. Some (past_either 70 102 (past_exponent digits))) (past_digits point)) rest h in
    let digits = bind_some (past_digits point.0) (λ digits. Some (past_either 70 102 (past_exponent digits))) rest point.2 in
    let split : bs ≡ 46 ∷ point.0 = strip_split (codes ".") bs point.0 point.1 in
    let whole : length bs ≡ length (46 ∷ point.0) = ap length split in
    let one : length digits.0 ≤ length point.0 = digits_shorter point.0 digits.0 digits.1 in
    let two : length (past_exponent digits.0) ≤ length digits.0 = exponent_shorter digits.0 in
    let three : length (past_either 70 102 (past_exponent digits.0)) ≤ length (past_exponent digits.0) = either_shorter 70 102 (past_exponent digits.0) in
    let same : length (past_either 70 102 (past_exponent digits.0)) ≡ length rest = ap length (some_same digits.2) in
    omega arith

no_mark : (b : ℕ) → is_word_byte b ≡ false → (b == 76 || b == 108) ≡ false
unfolding is_word_byte
no_mark b h = grind (arith, common_steps)

int_read : (ds : List ℕ) → digits_value 10 ds ≤ 2147483647 → int_of ds ≡ Some (f.Int (pos (digits_value 10 ds)))
unfolding int_of
int_read ds h = rw (in_range (digits_value 10 ds) 2147483647 h) refl

long_read : (ds : List ℕ) → digits_value 10 ds ≤ 9223372036854775807 → long_of ds ≡ Some (f.Long (pos (digits_value 10 ds)))
unfolding long_of
long_read ds h = rw (in_range (digits_value 10 ds) 9223372036854775807 h) refl

-- an int, where no byte of a word stands behind it
whole_int : (ds rest : List ℕ) → digits_value 10 ds ≤ 2147483647 → begins_as_word rest ≡ false → whole_after ds rest ≡ Some (f.Int (pos (digits_value 10 ds)), rest)
unfolding whole_after
whole_int ds [] h apart = rw (int_read ds h) refl
whole_int ds (b ∷ bs) h apart = rw (no_mark b apart) (rw (int_read ds h) refl)

-- behind a whole number is no more than before
with_rest_shorter : (rest left bs : List ℕ) (o : Option TokenForm) (form : TokenForm) → length rest ≤ length bs → with_rest rest o ≡ Some (form, left) → length left ≤ length bs
with_rest_shorter rest left bs None form short h = absurd (cc)
with_rest_shorter rest left bs (Some g) form short h = let same : length rest ≡ length left = ap length (same_rest h) in omega arith

whole_shorter : (ds bs left : List ℕ) (form : TokenForm) → whole_after ds bs ≡ Some (form, left) → length left ≤ length bs
unfolding whole_after
whole_shorter ds [] left form h = with_rest_shorter [] left [] (int_of ds) form (omega arith) h
whole_shorter ds (b ∷ bs) left form h = by_test (b == 76 || b == 108) h
  where
    by_test : (t : Bool) → cond t (with_rest bs (long_of ds)) (with_rest (b ∷ bs) (int_of ds)) ≡ Some (form, left) → length left ≤ length (b ∷ bs)
    by_test true e = with_rest_shorter bs left (b ∷ bs) (long_of ds) form (omega arith) e
    by_test false e = with_rest_shorter (b ∷ bs) left (b ∷ bs) (int_of ds) form (omega arith) e

number_shorter : (ds bs left : List ℕ) (form : TokenForm) → number_after ds bs ≡ Some (form, left) → length left ≤ length bs
unfolding number_after
number_shorter ds bs left form h = by_float (past_fraction bs) refl h
  where
    by_float : (o : Option (List ℕ)) → past_fraction bs ≡ o → option_map_or (λ rest. Some (f.Float, rest)) o (whole_after ds bs) ≡ Some (form, left) → length left ≤ length bs
    by_float None e g = whole_shorter ds bs left form g
    by_float (Some rest) e g = let less = fraction_shorter bs rest e in let same : length rest ≡ length left = ap length (same_rest g) in omega arith

pub int_covers : (w rest : List ℕ) (z : ℤ) → IsToken (f.Int z) w → Covers (form_at (w ++ rest)) (f.Int z) rest
unfolding number_after
int_covers w rest z h = record {
  bound = λ other left e.
      let found : number_after (w ++ run is_ascii_digit rest) (past is_ascii_digit rest) ≡ Some (other, left) = sym (found_digits w rest h.0) ∙ e in
      let one = number_shorter _ (past is_ascii_digit rest) left other found in
      let other_one = past_shorter is_ascii_digit rest in
      omega arith;
  hit = λ apart. by_float apart (past_fraction rest) refl;
}
  where
    alone : begins_as_word rest ≡ false → form_at (w ++ rest) ≡ number_after w rest
    alone apart = found_digits w rest h.0 ∙ rw ((no_run rest apart).0, (no_run rest apart).1, append-nil w) refl

    by_float : begins_as_word rest ≡ false → (o : Option (List ℕ)) → past_fraction rest ≡ o
        → (form_at (w ++ rest) ≡ Some (f.Int z, rest)) ⊎ ((other : TokenForm) × (left : List ℕ) × (form_at (w ++ rest) ≡ Some (other, left)) × (length left < length rest))
    by_float apart None e = inl (alone apart ∙ rw e (whole_int w rest h.1 apart ∙ rw h.2 refl))
    by_float apart (Some left) e = inr (f.Float, left, alone apart ∙ rw e refl, fraction_shorter rest left e)

no_long_digit : (b : ℕ) → (b ≡ 76) ⊎ (b ≡ 108) → is_ascii_digit b ≡ false
no_long_digit b (inl e) = rw e refl
no_long_digit b (inr e) = rw e refl

no_long_fraction : (b : ℕ) (bs : List ℕ) → (b ≡ 76) ⊎ (b ≡ 108) → past_fraction (b ∷ bs) ≡ None
unfolding past_fraction strip
no_long_fraction b bs (inl e) = rw e refl
no_long_fraction b bs (inr e) = rw e refl

whole_long : (ds : List ℕ) (b : ℕ) (rest : List ℕ) → (b ≡ 76) ⊎ (b ≡ 108) → whole_after ds (b ∷ rest) ≡ with_rest rest (long_of ds)
unfolding whole_after
whole_long ds b rest (inl e) = rw e refl
whole_long ds b rest (inr e) = rw e refl

found_long : (ds : List ℕ) (b : ℕ) (rest : List ℕ) → IsDigits ds → (b ≡ 76) ⊎ (b ≡ 108) → digits_value 10 ds ≤ 9223372036854775807
    → form_at (ds ++ b ∷ rest) ≡ Some (f.Long (pos (digits_value 10 ds)), rest)
unfolding number_after
found_long ds b rest h mark range =
    let none = no_run_at b rest (no_long_digit b mark) in
    found_digits ds (b ∷ rest) h ∙ rw (none.0, none.1, append-nil ds, no_long_fraction b rest mark) (whole_long ds b rest mark ∙ rw (long_read ds range) refl)

pub long_covers : (w rest : List ℕ) (z : ℤ) → IsToken (f.Long z) w → Covers (form_at (w ++ rest)) (f.Long z) rest
long_covers w rest z h =
    let long = h.1 in
    let spelled : w ++ rest ≡ long.ds ++ long.mark ∷ rest = rw long.spelled (append_assoc long.ds (long.mark ∷ []) rest) in
    let range : digits_value 10 long.ds ≤ 9223372036854775807 = subst (λ n. n ≤ 9223372036854775807) long.value h.2 in
    let is : z ≡ pos (digits_value 10 long.ds) = h.3 ∙ ap pos long.value in
    exactly (form_at (w ++ rest)) (f.Long z) rest (ap form_at spelled ∙ (found_long long.ds long.mark rest long.digits long.letter range ∙ rw is refl))
