-- Where a number is found, one stands.
use Rattle.std.proofs.Common.{◌≡◌, ◌∙◌, ℕ, pos, ◌<◌, ◌≤◌, List, [], ◌∷◌, ◌++◌, Bool, true, false, cond, length, refl, sym, ap, subst, arith, ◌⊎◌, inl, inr, append-nil, append_assoc}
use Rattle.std.specs.Prelude.{Option, Some, None, ◌&&◌, ◌||◌, ◌==◌, nat_le, nat_lt, codes, option_and_then}
use Rattle.std.specs.Char.{is_ascii_digit}
use Rattle.std.specs.Option.{option_map_or}
use Rattle.std.specs.Str.Parse.{digits_value}
use Rattle.std.proofs.lemmas.Bool.Decides.{Decides-eqb}
use Rattle.std.proofs.lemmas.Grind.{common_steps}
use Rattle.pig_syntax.specs.declared.tokens.TokenForm.{TokenForm}
use Rattle.pig_syntax.specs.declared.tokens.TokenForm.TheVariants as f
use Rattle.pig_syntax.specs.Tokens.{IsDigits, IsExponent, IsSign, IsSuffix, IsToken, strip}
use Rattle.pig_syntax.specs.Scanner.{Found, form_at, int_of, long_of, number_after, number_at, past, past_digits, past_either, past_exponent, past_fraction, position_at, run, whole_after, with_rest}
use Rattle.pig_syntax.proofs.Covers.{Covers, Stands, bind_some, same_form, same_rest, some_same}
use Rattle.pig_syntax.proofs.Numerals.{no_run, run_digits, within, in_range}
use Rattle.pig_syntax.proofs.Prefixes.{strip_split}
use Rattle.pig_syntax.proofs.Runs.{both_first, both_second, past-append, past_shorter, run-append, run_past, run_passes}

-- a byte that is one of two
one_of : (b x y : ℕ) → (b == x || b == y) ≡ true → (b ≡ x) ⊎ (b ≡ y)
one_of b x y h = by_test (b == x) refl h
  where
    by_test : (t : Bool) → (b == x) ≡ t → (t || b == y) ≡ true → (b ≡ x) ⊎ (b ≡ y)
    by_test true e g = inl ((Decides-eqb b x).0 e)
    by_test false e g = inr ((Decides-eqb b y).0 g)

-- ---- the parts of a number

digits_split : (bs rest : List ℕ) → past_digits bs ≡ Some rest → (ds : List ℕ) × (bs ≡ ds ++ rest) × IsDigits ds
unfolding past_digits
digits_split [] rest h = absurd (cc)
digits_split (b ∷ bs) rest h = by_test (is_ascii_digit b) refl h
  where
    by_test : (t : Bool) → is_ascii_digit b ≡ t → cond t (Some (past is_ascii_digit (b ∷ bs))) None ≡ Some rest → (ds : List ℕ) × (b ∷ bs ≡ ds ++ rest) × IsDigits ds
    by_test true e g =
        let same : past is_ascii_digit (b ∷ bs) ≡ rest = some_same g in
        (run is_ascii_digit (b ∷ bs), subst (λ r. b ∷ bs ≡ run is_ascii_digit (b ∷ bs) ++ r) same (run_past is_ascii_digit (b ∷ bs)), run_digits b bs e)
    by_test false e g = absurd (cc)

suffix_split : (bs : List ℕ) → (suffix : List ℕ) × (bs ≡ suffix ++ past_either 70 102 bs) × IsSuffix suffix
unfolding past_either
suffix_split [] = ([], refl, inl refl)
suffix_split (b ∷ bs) = by_test (b == 70 || b == 102) refl
  where
    by_mark : (b ≡ 70) ⊎ (b ≡ 102) → (suffix : List ℕ) × (b ∷ bs ≡ suffix ++ bs) × IsSuffix suffix
    by_mark (inl e) = (b ∷ [], refl, inr (inr (ap (λ x. x ∷ []) e)))
    by_mark (inr e) = (b ∷ [], refl, inr (inl (ap (λ x. x ∷ []) e)))

    by_test : (t : Bool) → (b == 70 || b == 102) ≡ t → (suffix : List ℕ) × (b ∷ bs ≡ suffix ++ cond t bs (b ∷ bs)) × IsSuffix suffix
    by_test true e = by_mark (one_of b 70 102 e)
    by_test false e = ([], refl, inl refl)

sign_split : (bs : List ℕ) → (sign : List ℕ) × (bs ≡ sign ++ past_either 43 45 bs) × IsSign sign
unfolding past_either
sign_split [] = ([], refl, inl refl)
sign_split (b ∷ bs) = by_test (b == 43 || b == 45) refl
  where
    by_mark : (b ≡ 43) ⊎ (b ≡ 45) → (sign : List ℕ) × (b ∷ bs ≡ sign ++ bs) × IsSign sign
    by_mark (inl e) = (b ∷ [], refl, inr (inl (ap (λ x. x ∷ []) e)))
    by_mark (inr e) = (b ∷ [], refl, inr (inr (ap (λ x. x ∷ []) e)))

    by_test : (t : Bool) → (b == 43 || b == 45) ≡ t → (sign : List ℕ) × (b ∷ bs ≡ sign ++ cond t bs (b ∷ bs)) × IsSign sign
    by_test true e = by_mark (one_of b 43 45 e)
    by_test false e = ([], refl, inl refl)

abbrev Exponents : List ℕ → List ℕ → Type 0
Exponents bs rest = (exponent : List ℕ) × (bs ≡ exponent ++ rest) × ((exponent ≡ []) ⊎ IsExponent exponent)

exponent_split : (bs : List ℕ) → Exponents bs (past_exponent bs)
unfolding past_exponent
exponent_split [] = ([], refl, inl refl)
exponent_split (b ∷ bs) = by_test (b == 69 || b == 101) refl
  where
    by_parts : (rest : List ℕ) → (b ≡ 69) ⊎ (b ≡ 101) → (sign : List ℕ) × (bs ≡ sign ++ past_either 43 45 bs) × IsSign sign → (ds : List ℕ) × (past_either 43 45 bs ≡ ds ++ rest) × IsDigits ds → Exponents (b ∷ bs) rest
    by_parts rest mark sign digits = (
      b ∷ (sign.0 ++ digits.0),
      ap (λ x. b ∷ x) (sign.1 ∙ (ap (λ x. sign.0 ++ x) digits.1 ∙ sym (append_assoc sign.0 digits.0 rest))),
      inr (record { mark = b; sign = sign.0; ds = digits.0; spelled = refl; letter = mark; signed = sign.2; digits = digits.2 }),
    )

    by_digits : (b ≡ 69) ⊎ (b ≡ 101) → (o : Option (List ℕ)) → past_digits (past_either 43 45 bs) ≡ o → Exponents (b ∷ bs) (option_map_or (λ rest. rest) o (b ∷ bs))
    by_digits mark None e = ([], refl, inl refl)
    by_digits mark (Some rest) e = by_parts rest mark (sign_split bs) (digits_split (past_either 43 45 bs) rest e)

    by_test : (t : Bool) → (b == 69 || b == 101) ≡ t → Exponents (b ∷ bs) (cond t (option_map_or (λ rest. rest) (past_digits (past_either 43 45 bs)) (b ∷ bs)) (b ∷ bs))
    by_test true e = by_digits (one_of b 69 101 e) (past_digits (past_either 43 45 bs)) refl
    by_test false e = ([], refl, inl refl)

float_of : (ds bs fraction exponent suffix rest : List ℕ) → IsDigits ds → bs ≡ 46 ∷ (fraction ++ (exponent ++ (suffix ++ rest))) → IsDigits fraction → (exponent ≡ []) ⊎ IsExponent exponent → IsSuffix suffix → Stands (ds ++ bs) f.Float rest
float_of ds bs fraction exponent suffix rest before e behind scaled ended = record {
  text = ds ++ (46 ∷ (fraction ++ (exponent ++ suffix)));
  whole = ap (λ x. ds ++ x) e ∙ simp append_assoc;
  spelled = record { whole = ds; fraction = fraction; exponent = exponent; suffix = suffix; spelled = simp append_assoc; before = before; behind = behind; scaled = scaled; ended = ended };
}

-- the digits and the rest of a float are a float
float_stands : (ds bs rest : List ℕ) → IsDigits ds → past_fraction bs ≡ Some rest → Stands (ds ++ bs) f.Float rest
unfolding past_fraction
float_stands ds bs rest h found =
    let point = bind_some (strip (codes ".") bs) (λ point. option_and_then (λ digits. Some (past_either 70 102 (past_exponent digits))) (past_digits point)) rest found in
    let digits = bind_some (past_digits point.0) (λ digits. Some (past_either 70 102 (past_exponent digits))) rest point.2 in
    let fraction = digits_split point.0 digits.0 digits.1 in
    let exponent = exponent_split digits.0 in
    let suffix = suffix_split (past_exponent digits.0) in
    let left : past_either 70 102 (past_exponent digits.0) ≡ rest = some_same digits.2 in
    let tail : past_exponent digits.0 ≡ suffix.0 ++ rest = suffix.1 ∙ ap (λ x. suffix.0 ++ x) left in
    let behind : bs ≡ 46 ∷ (fraction.0 ++ (exponent.0 ++ (suffix.0 ++ rest))) = strip_split (codes ".") bs point.0 point.1 ∙ ap (λ x. 46 ∷ x) (fraction.1 ∙ ap (λ x. fraction.0 ++ x) (exponent.1 ∙ ap (λ x. exponent.0 ++ x) tail)) in
    float_of ds bs fraction.0 exponent.0 suffix.0 rest h behind fraction.2 exponent.2 suffix.2

-- ---- ints and longs

int_stands : (ds rest left : List ℕ) (form : TokenForm) → IsDigits ds → with_rest rest (int_of ds) ≡ Some (form, left) → Stands (ds ++ rest) form left
unfolding int_of
int_stands ds rest left form h found = by_test (nat_le (digits_value 10 ds) 2147483647) refl found
  where
    by_test : (t : Bool) → nat_le (digits_value 10 ds) 2147483647 ≡ t → with_rest rest (cond t (Some (f.Int (pos (digits_value 10 ds)))) None) ≡ Some (form, left) → Stands (ds ++ rest) form left
    by_test true e g =
        let is : f.Int (pos (digits_value 10 ds)) ≡ form = same_form g in
        record { text = ds; whole = ap (λ x. ds ++ x) (same_rest g); spelled = subst (λ x. IsToken x ds) is (h, within (digits_value 10 ds) 2147483647 e, refl) }
    by_test false e g = absurd (cc)

long_stands : (ds : List ℕ) (mark : ℕ) (rest left : List ℕ) (form : TokenForm) → IsDigits ds → (mark ≡ 76) ⊎ (mark ≡ 108) → with_rest rest (long_of ds) ≡ Some (form, left) → Stands (ds ++ mark ∷ rest) form left
unfolding long_of
long_stands ds mark rest left form h letter found = by_test (nat_le (digits_value 10 ds) 9223372036854775807) refl found
  where
    by_test : (t : Bool) → nat_le (digits_value 10 ds) 9223372036854775807 ≡ t → with_rest rest (cond t (Some (f.Long (pos (digits_value 10 ds)))) None) ≡ Some (form, left) → Stands (ds ++ mark ∷ rest) form left
    by_test true e g =
        let is : f.Long (pos (digits_value 10 ds)) ≡ form = same_form g in
        record {
          text = ds ++ mark ∷ [];
          whole = ap (λ x. ds ++ mark ∷ x) (same_rest g) ∙ sym (append_assoc ds (mark ∷ []) left);
          spelled =
              subst (λ x. IsToken x (ds ++ mark ∷ [])) is
              (digits_value 10 ds, record { ds = ds; mark = mark; spelled = refl; digits = h; letter = letter; value = refl }, within (digits_value 10 ds) 9223372036854775807 e, refl);
        }
    by_test false e g = absurd (cc)

whole_stands : (ds bs left : List ℕ) (form : TokenForm) → IsDigits ds → whole_after ds bs ≡ Some (form, left) → Stands (ds ++ bs) form left
unfolding whole_after
whole_stands ds [] left form h found = int_stands ds [] left form h found
whole_stands ds (b ∷ bs) left form h found = by_test (b == 76 || b == 108) refl found
  where
    by_test : (t : Bool) → (b == 76 || b == 108) ≡ t → cond t (with_rest bs (long_of ds)) (with_rest (b ∷ bs) (int_of ds)) ≡ Some (form, left) → Stands (ds ++ b ∷ bs) form left
    by_test true e g = long_stands ds b bs left form h (one_of b 76 108 e) g
    by_test false e g = int_stands ds (b ∷ bs) left form h g

after_stands : (ds bs left : List ℕ) (form : TokenForm) → IsDigits ds → number_after ds bs ≡ Some (form, left) → Stands (ds ++ bs) form left
unfolding number_after
after_stands ds bs left form h found = by_float (past_fraction bs) refl found
  where
    by_float : (o : Option (List ℕ)) → past_fraction bs ≡ o → option_map_or (λ rest. Some (f.Float, rest)) o (whole_after ds bs) ≡ Some (form, left) → Stands (ds ++ bs) form left
    by_float None e g = whole_stands ds bs left form h g
    by_float (Some rest) e g =
        let is : f.Float ≡ form = same_form g in
        let same : rest ≡ left = same_rest g in
        subst (λ x. Stands (ds ++ bs) x left) is (subst (λ r. Stands (ds ++ bs) f.Float r) same (float_stands ds bs rest h e))

-- where a number is found, one stands
pub number_stands : (b : ℕ) (bs left : List ℕ) (form : TokenForm) → is_ascii_digit b ≡ true → number_at (b ∷ bs) ≡ Some (form, left) → Stands (b ∷ bs) form left
unfolding number_at
number_stands b bs left form h found =
    subst (λ x. Stands x form left) (sym (run_past is_ascii_digit (b ∷ bs)))
    (after_stands (run is_ascii_digit (b ∷ bs)) (past is_ascii_digit (b ∷ bs)) left form (run_digits b bs h) found)

-- ---- positions

some_digits : (ds : List ℕ) → IsDigits ds → nat_lt 0 (length ds) ≡ true
some_digits ds h = let more = h.some in grind (arith, common_steps)

few_digits : (n : ℕ) → nat_lt 0 n ≡ true → 0 < n
few_digits n h = grind (arith, common_steps)

position_read : (bs : List ℕ) → form_at (36 ∷ bs) ≡ position_at bs
unfolding form_at
position_read bs = refl

position_exact : (ds rest : List ℕ) → IsDigits ds → length ds ≤ 9 → run is_ascii_digit (ds ++ rest) ≡ ds → past is_ascii_digit (ds ++ rest) ≡ rest → position_at (ds ++ rest) ≡ Some (f.Position (digits_value 10 ds), rest)
unfolding position_at
position_exact ds rest h few front back = rw (front, back) (rw (some_digits ds h, in_range (length ds) 9 few) refl)

position_shorter : (bs left : List ℕ) (form : TokenForm) → position_at bs ≡ Some (form, left) → left ≡ past is_ascii_digit bs
unfolding position_at
position_shorter bs left form h = by_test (nat_lt 0 (length (run is_ascii_digit bs)) && nat_le (length (run is_ascii_digit bs)) 9) h
  where
    by_test : (t : Bool) → cond {A = Found TokenForm} t (Some (f.Position (digits_value 10 (run is_ascii_digit bs)), past is_ascii_digit bs)) None ≡ Some (form, left) → left ≡ past is_ascii_digit bs
    by_test true g = sym (same_rest g)
    by_test false g = absurd (cc)

pub position_covers : (w rest : List ℕ) (n : ℕ) → IsToken (f.Position n) w → Covers (form_at (w ++ rest)) (f.Position n) rest
position_covers w rest n h = record {
  bound = λ other left e.
      let is : left ≡ past is_ascii_digit rest = position_shorter (h.ds ++ rest) left other (sym reads ∙ e) ∙ past-append is_ascii_digit h.ds rest h.digits.digits in
      let short = past_shorter is_ascii_digit rest in
      subst (λ r. length r ≤ length rest) (sym is) short;
  hit = λ apart.
      inl (reads ∙ (position_exact h.ds rest h.digits h.few
      (run-append is_ascii_digit h.ds rest h.digits.digits ∙ rw (no_run rest apart).0 (append-nil h.ds))
      (past-append is_ascii_digit h.ds rest h.digits.digits ∙ (no_run rest apart).1)
      ∙ rw h.value refl));
}
  where
    reads : form_at (w ++ rest) ≡ position_at (h.ds ++ rest)
    reads = rw h.spelled (position_read (h.ds ++ rest))

pub position_stands : (bs left : List ℕ) (form : TokenForm) → position_at bs ≡ Some (form, left) → Stands (36 ∷ bs) form left
unfolding position_at
position_stands bs left form found = by_test (nat_lt 0 (length (run is_ascii_digit bs)) && nat_le (length (run is_ascii_digit bs)) 9) refl found
  where
    by_test : (t : Bool) → (nat_lt 0 (length (run is_ascii_digit bs)) && nat_le (length (run is_ascii_digit bs)) 9) ≡ t
        → cond {A = Found TokenForm} t (Some (f.Position (digits_value 10 (run is_ascii_digit bs)), past is_ascii_digit bs)) None ≡ Some (form, left) → Stands (36 ∷ bs) form left
    by_test true e g =
        let is : f.Position (digits_value 10 (run is_ascii_digit bs)) ≡ form = same_form g in
        let same : past is_ascii_digit bs ≡ left = same_rest g in
        record {
          text = 36 ∷ run is_ascii_digit bs;
          whole = ap (λ x. 36 ∷ x) (run_past is_ascii_digit bs ∙ ap (λ x. run is_ascii_digit bs ++ x) same);
          spelled =
              subst (λ x. IsToken x (36 ∷ run is_ascii_digit bs)) is
              (record {
                ds = run is_ascii_digit bs;
                spelled = refl;
                digits = record { some = few_digits (length (run is_ascii_digit bs)) (both_first _ _ e); digits = run_passes is_ascii_digit bs };
                few = within (length (run is_ascii_digit bs)) 9 (both_second _ _ e);
                value = refl;
              });
        }
    by_test false e g = absurd (cc)
