-- The token that is found is the one that begins the bytes.
use Rattle.std.proofs.Common.{◌≡◌, ◌∙◌, ℕ, ◌<◌, ◌≤◌, List, [], ◌∷◌, ◌++◌, Bool, true, false, cond, length, refl, sym, ap, subst, arith, ◌⊎◌, inl, inr}
use Rattle.std.specs.Prelude.{Option, Some, None, ◌&&◌, ◌==◌, codes, option_and_then}
use Rattle.std.specs.Char.{is_ascii_alphabetic, is_ascii_digit}
use Rattle.std.specs.Option.{option_map_or}
use Rattle.std.proofs.lemmas.Bool.Decides.{Decides-eqb}
use Rattle.std.proofs.lemmas.List.{length-append}
use Rattle.pig_syntax.specs.declared.tokens.TokenForm.{TokenForm}
use Rattle.pig_syntax.specs.declared.tokens.TokenForm.TheVariants as f
use Rattle.pig_syntax.specs.Tokens.{Begins, IsToken, Stops, after_gap, begins_as_word, is_number, strip}
use Rattle.pig_syntax.specs.Scanner.{Found, form_at, number_at, position_at, standing, symbol_at, text_at, token_at, word_at}
use Rattle.pig_syntax.proofs.Covers.{Covers, Stands, bind_some, same_form, same_rest}
use Rattle.pig_syntax.proofs.Numerals.{float_covers, int_covers, long_covers}
use Rattle.pig_syntax.proofs.NumeralsStand.{number_stands, position_covers, position_stands}
use Rattle.pig_syntax.proofs.Symbols.{symbol_covers, symbol_stands}
use Rattle.pig_syntax.proofs.Texts.{text_covers, text_stands}
use Rattle.pig_syntax.proofs.Words.{ident_covers, keyword_covers, word_stands}

-- no token is passed over
pub covers : (form : TokenForm) (w rest : List ℕ) → IsToken form w → Covers (form_at (w ++ rest)) form rest
covers (f.Ident name) w rest h = ident_covers w rest name h
covers (f.Keyword k) w rest h = keyword_covers w rest k h
covers (f.Int z) w rest h = int_covers w rest z h
covers (f.Long z) w rest h = long_covers w rest z h
covers f.Float w rest h = float_covers w rest h
covers (f.Position n) w rest h = position_covers w rest n h
covers (f.Text content) w rest h = text_covers w rest content h
covers (f.Symbol s) w rest h = symbol_covers w rest s h

-- a form that is found stands there
form_stands : (bs rest : List ℕ) (form : TokenForm) → form_at bs ≡ Some (form, rest) → Stands bs form rest
unfolding form_at
form_stands [] rest form h = absurd (cc)
form_stands (b ∷ bs) rest form h = by_letter (is_ascii_alphabetic b) refl h
  where
    by_quote : (t : Bool) → (b == 39) ≡ t → cond t (text_at bs) (symbol_at (b ∷ bs)) ≡ Some (form, rest) → Stands (b ∷ bs) form rest
    by_quote true e g = subst (λ x. Stands (x ∷ bs) form rest) (sym ((Decides-eqb b 39).0 e)) (text_stands bs rest form g)
    by_quote false e g = symbol_stands (b ∷ bs) rest form g

    by_dollar : (t : Bool) → (b == 36) ≡ t → cond t (position_at bs) (cond (b == 39) (text_at bs) (symbol_at (b ∷ bs))) ≡ Some (form, rest) → Stands (b ∷ bs) form rest
    by_dollar true e g = subst (λ x. Stands (x ∷ bs) form rest) (sym ((Decides-eqb b 36).0 e)) (position_stands bs rest form g)
    by_dollar false e g = by_quote (b == 39) refl g

    by_digit : (t : Bool) → is_ascii_digit b ≡ t → cond t (number_at (b ∷ bs)) (cond (b == 36) (position_at bs) (cond (b == 39) (text_at bs) (symbol_at (b ∷ bs)))) ≡ Some (form, rest) → Stands (b ∷ bs) form rest
    by_digit true e g = number_stands b bs rest form e g
    by_digit false e g = by_dollar (b == 36) refl g

    by_letter : (t : Bool) → is_ascii_alphabetic b ≡ t → cond t (word_at (b ∷ bs)) (cond (is_ascii_digit b) (number_at (b ∷ bs)) (cond (b == 36) (position_at bs) (cond (b == 39) (text_at bs) (symbol_at (b ∷ bs))))) ≡ Some (form, rest) → Stands (b ∷ bs) form rest
    by_letter true e g = word_stands b bs form rest e g
    by_letter false e g = by_digit (is_ascii_digit b) refl g

-- ---- whole tokens

standing_told : (form other : TokenForm) (rest left : List ℕ) → standing (form, rest) ≡ Some (other, left) → (form ≡ other) × (rest ≡ left) × ((is_number form && begins_as_word rest) ≡ false)
unfolding standing
standing_told form other rest left h = by_test (is_number form && begins_as_word rest) refl h
  where
    by_test : (t : Bool) → (is_number form && begins_as_word rest) ≡ t → cond {A = Found TokenForm} t None (Some (form, rest)) ≡ Some (other, left) → (form ≡ other) × (rest ≡ left) × ((is_number form && begins_as_word rest) ≡ false)
    by_test true e g = absurd (cc)
    by_test false e g = (same_form g, same_rest g, e)

stands_alone : (form : TokenForm) (rest : List ℕ) → (is_number form && begins_as_word rest) ≡ false → standing (form, rest) ≡ Some (form, rest)
unfolding standing
stands_alone form rest h = rw h refl

-- what a token that is found tells
token_told : (bs rest : List ℕ) (form : TokenForm) → token_at bs ≡ Some (form, rest) → (strip (codes "/*") bs ≡ None) × (form_at bs ≡ Some (form, rest)) × ((is_number form && begins_as_word rest) ≡ false)
unfolding token_at
token_told bs rest form h = by_comment (strip (codes "/*") bs) refl h
  where
    moved : (other : TokenForm) (left : List ℕ) → form_at bs ≡ Some (other, left) → (other ≡ form) × (left ≡ rest) × ((is_number other && begins_as_word left) ≡ false)
        → (form_at bs ≡ Some (form, rest)) × ((is_number form && begins_as_word rest) ≡ false)
    moved other left e told = (
      e ∙ (ap (λ x. Some (x, left)) told.0 ∙ ap (λ r. Some (form, r)) told.1),
      subst (λ x. (is_number x && begins_as_word rest) ≡ false) told.0 (subst (λ r. (is_number other && begins_as_word r) ≡ false) told.1 told.2),
    )

    by_comment : (o : Option (List ℕ)) → strip (codes "/*") bs ≡ o → option_map_or (λ comment. None) o (option_and_then standing (form_at bs)) ≡ Some (form, rest)
        → (strip (codes "/*") bs ≡ None) × (form_at bs ≡ Some (form, rest)) × ((is_number form && begins_as_word rest) ≡ false)
    by_comment (Some x) e g = absurd (cc)
    by_comment None e g =
        let found = bind_some (form_at bs) standing (form, rest) g in
        let told = moved found.0.0 found.0.1 found.1 (standing_told found.0.0 form found.0.1 rest found.2) in
        (e, told.0, told.1)

token_found : (bs rest : List ℕ) (form : TokenForm) → strip (codes "/*") bs ≡ None → form_at bs ≡ Some (form, rest) → (is_number form && begins_as_word rest) ≡ false → token_at bs ≡ Some (form, rest)
unfolding token_at
token_found bs rest form none found apart = rw none (rw found (stands_alone form rest apart))

longer : (w more rest left : List ℕ) → w ++ rest ≡ more ++ left → length rest ≤ length left → length more ≤ length w
longer w more rest left e short = omega (arith, ap length e, length-append w rest, length-append more left)

-- a token that is found begins the bytes
pub token_begins : (bs rest : List ℕ) (form : TokenForm) → after_gap bs ≡ None → token_at bs ≡ Some (form, rest) → Begins bs form rest
token_begins bs rest form none found =
    let told = token_told bs rest form found in
    let stands = form_stands bs rest form told.1 in
    record {
      no_gap = none;
      no_comment = told.0;
      text = stands.text;
      whole = stands.whole;
      spelled = stands.spelled;
      longest = λ other more left split h.
          let here : form_at (more ++ left) ≡ Some (form, rest) = ap form_at (sym split) ∙ told.1 in
          longer stands.text more rest left (sym stands.whole ∙ split) ((covers other more left h).bound form rest here);
      apart = told.2;
    }

-- a token that begins the bytes is found
pub begins_found : (bs rest : List ℕ) (form : TokenForm) → Begins bs form rest → token_at bs ≡ Some (form, rest)
begins_found bs rest form h = settled ((covers form h.text rest h.spelled).hit h.apart)
  where
    too_long : (w more left : List ℕ) → w ++ rest ≡ more ++ left → length more ≤ length w → length left < length rest → ⊥
    too_long w more left e short less = omega (arith, ap length e, length-append w rest, length-append more left)

    settled : (form_at (h.text ++ rest) ≡ Some (form, rest)) ⊎ ((other : TokenForm) × (left : List ℕ) × (form_at (h.text ++ rest) ≡ Some (other, left)) × (length left < length rest)) → token_at bs ≡ Some (form, rest)
    settled (inl e) = token_found bs rest form h.no_comment (ap form_at h.whole ∙ e) h.apart
    settled (inr more) =
        let stands : Stands (h.text ++ rest) more.0 more.1 = form_stands (h.text ++ rest) more.1 more.0 more.2 in
        absurd (too_long h.text stands.text more.1 stands.whole (h.longest more.0 stands.text more.1 (h.whole ∙ stands.whole) stands.spelled) more.3)

pub nothing_begins : (bs : List ℕ) → after_gap bs ≡ None → token_at bs ≡ None → Stops bs
nothing_begins bs none nothing = record {
  no_gap = none;
  no_token = λ form rest h. off form rest (sym nothing ∙ begins_found bs rest form h);
}
  where
    off : (form : TokenForm) (rest : List ℕ) → ◌≡◌ {A = Found TokenForm} None (Some (form, rest)) → ⊥
    off form rest e = cc

pub one_token : (bs rest left : List ℕ) (form other : TokenForm) → Begins bs form rest → Begins bs other left → (form ≡ other) × (rest ≡ left)
one_token bs rest left form other a b =
    let e : ◌≡◌ {A = Found TokenForm} (Some (form, rest)) (Some (other, left)) = sym (begins_found bs rest form a) ∙ begins_found bs left other b in
    (same_form e, same_rest e)
