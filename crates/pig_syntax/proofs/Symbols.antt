-- Symbols.
use Rattle.std.proofs.Common.{◌≡◌, ◌∙◌, ℕ, List, [], ◌∷◌, ◌++◌, Bool, true, false, cond, take, drop, refl, sym, ap, subst, arith, inr}
use Rattle.std.specs.Prelude.{Option, Some, None, not, ◌||◌, ◌==◌, bytes_eq, option_map}
use Rattle.std.specs.Char.{is_ascii_alphabetic, is_ascii_digit}
use Rattle.std.specs.List.{list_all}
use Rattle.std.specs.Option.{option_map_or}
use Rattle.std.proofs.lemmas.Slice.Eq.{bytes_eq-Decides}
use Rattle.std.proofs.lemmas.List.{take-append-drop}
use Rattle.pig_syntax.specs.declared.tokens.Symbol.{Symbol}
use Rattle.pig_syntax.specs.declared.tokens.TokenForm.{TokenForm}
use Rattle.pig_syntax.specs.declared.tokens.TokenForm.TheVariants as f
use Rattle.pig_syntax.specs.Tokens.{IsToken, among_texts, symbol_of, symbols}
use Rattle.pig_syntax.specs.Scanner.{Found, form_at, symbol_at, symbol_of_length}
use Rattle.pig_syntax.proofs.Covers.{Covers, Stands, at_least, exactly, same_form, same_rest}
use Rattle.pig_syntax.proofs.Runs.{both_first, both_second}

-- what every name of a table passes, a text that is found in it passes
found_passes : {A : Type 0} (q : List ℕ → Bool) (table : List (List ℕ × A)) (text : List ℕ) (x : A) → list_all (λ e. q e.0) table ≡ true → among_texts table text ≡ Some x → q text ≡ true
found_passes q [] text x all found = absurd (cc)
found_passes q (e ∷ es) text x all found = by_test (found_passes q es text x (both_second (q e.0) (list_all (λ e. q e.0) es) all)) (bytes_eq e.0 text) refl found
  where
    by_test : (among_texts es text ≡ Some x → q text ≡ true) → (t : Bool) → bytes_eq e.0 text ≡ t → cond t (Some e.1) (among_texts es text) ≡ Some x → q text ≡ true
    by_test ih true same h = subst (λ w. q w ≡ true) ((bytes_eq-Decides e.0 text).0 same) (both_first (q e.0) (list_all (λ e. q e.0) es) all)
    by_test ih false same h = ih h

-- a byte that no other form begins with
abbrev is_mark : ℕ → Bool
is_mark b = not (is_ascii_alphabetic b || is_ascii_digit b || b == 36 || b == 39)

-- one or two bytes, the first of which begins no other form
abbrev is_short : List ℕ → Bool
is_short [] = false
is_short (b ∷ []) = is_mark b
is_short (b ∷ c ∷ []) = is_mark b
is_short (b ∷ c ∷ d ∷ bs) = false

symbols_short : list_all (λ e. is_short e.0) symbols ≡ true
unfolding symbols
symbols_short = refl

symbol_short : (w : List ℕ) (s : Symbol) → symbol_of w ≡ Some s → is_short w ≡ true
unfolding symbol_of
symbol_short w s h = found_passes is_short symbols w s symbols_short h

mark_cases : (letter digit dollar quote : Bool) → not (letter || digit || dollar || quote) ≡ true → (letter ≡ false) × (digit ≡ false) × (dollar ≡ false) × (quote ≡ false)
mark_cases true digit dollar quote h = absurd (cc)
mark_cases false true dollar quote h = absurd (cc)
mark_cases false false true quote h = absurd (cc)
mark_cases false false false true h = absurd (cc)
mark_cases false false false false h = (refl, refl, refl, refl)

symbol_read : (b : ℕ) (bs : List ℕ) → is_mark b ≡ true → form_at (b ∷ bs) ≡ symbol_at (b ∷ bs)
unfolding form_at
symbol_read b bs h =
    let none = mark_cases (is_ascii_alphabetic b) (is_ascii_digit b) (b == 36) (b == 39) h in
    rw (none.0, none.1, none.2, none.3) refl

-- a symbol of two bytes
two_read : (b c : ℕ) (rest : List ℕ) (s : Symbol) → symbol_of (b ∷ c ∷ []) ≡ Some s → symbol_at (b ∷ c ∷ rest) ≡ Some (f.Symbol s, rest)
unfolding symbol_at symbol_of_length
two_read b c rest s h = rw h refl

-- a symbol of one byte, where it and the next are none of two
one_read : (b c : ℕ) (rest : List ℕ) (s : Symbol) → symbol_of (b ∷ c ∷ []) ≡ None → symbol_of (b ∷ []) ≡ Some s → symbol_at (b ∷ c ∷ rest) ≡ Some (f.Symbol s, c ∷ rest)
unfolding symbol_at symbol_of_length
one_read b c rest s none h = rw (none, h) refl

last_read : (b : ℕ) (s : Symbol) → symbol_of (b ∷ []) ≡ Some s → symbol_at (b ∷ []) ≡ Some (f.Symbol s, [])
unfolding symbol_at symbol_of_length
last_read b s h = rw h refl

one_covers : (b : ℕ) (rest : List ℕ) (s : Symbol) → symbol_of (b ∷ []) ≡ Some s → Covers (symbol_at (b ∷ rest)) (f.Symbol s) rest
one_covers b [] s h = exactly (symbol_at (b ∷ [])) (f.Symbol s) [] (last_read b s h)
one_covers b (c ∷ rest) s h = by_two (symbol_of (b ∷ c ∷ [])) refl
  where
    by_two : (o : Option Symbol) → symbol_of (b ∷ c ∷ []) ≡ o → Covers (symbol_at (b ∷ c ∷ rest)) (f.Symbol s) (c ∷ rest)
    by_two None e = exactly (symbol_at (b ∷ c ∷ rest)) (f.Symbol s) (c ∷ rest) (one_read b c rest s e h)
    by_two (Some two) e = at_least (symbol_at (b ∷ c ∷ rest)) (f.Symbol s) (c ∷ rest) (f.Symbol two) rest (two_read b c rest two e) (omega arith) (λ apart. inr (omega arith))

pub symbol_covers : (w rest : List ℕ) (s : Symbol) → IsToken (f.Symbol s) w → Covers (form_at (w ++ rest)) (f.Symbol s) rest
symbol_covers [] rest s h = absurd (let short : false ≡ true = symbol_short [] s h in cc)
symbol_covers (b ∷ []) rest s h = subst (λ o. Covers o (f.Symbol s) rest) (sym (symbol_read b rest (symbol_short (b ∷ []) s h))) (one_covers b rest s h)
symbol_covers (b ∷ c ∷ []) rest s h = exactly (form_at (b ∷ c ∷ rest)) (f.Symbol s) rest (symbol_read b (c ∷ rest) (symbol_short (b ∷ c ∷ []) s h) ∙ two_read b c rest s h)
symbol_covers (b ∷ c ∷ d ∷ bs) rest s h = absurd (let short : false ≡ true = symbol_short (b ∷ c ∷ d ∷ bs) s h in cc)

length_stands : (n : ℕ) (bs left : List ℕ) (form : TokenForm) → symbol_of_length n bs ≡ Some (form, left) → Stands bs form left
unfolding symbol_of_length
length_stands n bs left form found = by_symbol (symbol_of (take n bs)) refl found
  where
    by_symbol : (o : Option Symbol) → symbol_of (take n bs) ≡ o → option_map {T = Symbol} {U = TokenForm × List ℕ} (λ s. (f.Symbol s, drop n bs)) o ≡ Some (form, left) → Stands bs form left
    by_symbol None e g = absurd (cc)
    by_symbol (Some s) e g =
        let is : f.Symbol s ≡ form = same_form g in
        record {
          text = take n bs;
          whole = sym (take-append-drop n bs) ∙ ap (λ x. take n bs ++ x) (same_rest g);
          spelled = subst (λ x. IsToken x (take n bs)) is e;
        }

pub symbol_stands : (bs left : List ℕ) (form : TokenForm) → symbol_at bs ≡ Some (form, left) → Stands bs form left
unfolding symbol_at
symbol_stands bs left form found = by_two (symbol_of_length 2 bs) refl found
  where
    by_two : (o : Found TokenForm) → symbol_of_length 2 bs ≡ o → option_map_or Some o (symbol_of_length 1 bs) ≡ Some (form, left) → Stands bs form left
    by_two None e g = length_stands 1 bs left form g
    by_two (Some two) e g = length_stands 2 bs left form (e ∙ g)
