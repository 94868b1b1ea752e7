-- Words.
use Rattle.std.proofs.Common.{◌≡◌, ◌∙◌, ℕ, ◌<◌, List, [], ◌∷◌, ◌++◌, true, length, refl, sym, ap, subst, arith, ◌⊎◌, inl, inr, append-nil}
use Rattle.std.specs.Prelude.{Option, Some, None}
use Rattle.std.specs.Char.{is_ascii_alphabetic}
use Rattle.std.specs.List.{list_all}
use Rattle.std.proofs.lemmas.Grind.{common_steps}
use Rattle.pig_syntax.specs.declared.tokens.Keyword.{Keyword}
use Rattle.pig_syntax.specs.declared.tokens.TokenForm.{TokenForm}
use Rattle.pig_syntax.specs.declared.tokens.TokenForm.TheVariants as f
use Rattle.pig_syntax.specs.Tokens.{IsToken, IsWord, is_word_byte, keyword_of}
use Rattle.pig_syntax.specs.Scanner.{form_at, past, run, word_at, word_form}
use Rattle.pig_syntax.proofs.Covers.{Covers, Stands, at_least, same_form, same_rest}
use Rattle.pig_syntax.proofs.Runs.{past-append, past_shorter, run-append, run_or_more, run_passes, run_past, run_yes}

-- a letter goes on a word
letter_goes_on : (b : ℕ) → is_ascii_alphabetic b ≡ true → is_word_byte b ≡ true
unfolding is_word_byte
letter_goes_on b h = grind (arith, common_steps)

all_go_on : (w : List ℕ) → IsWord w → list_all is_word_byte w ≡ true
all_go_on [] h = absurd h
all_go_on (b ∷ bs) h = rw (letter_goes_on b h.0) h.1

word_read : (b : ℕ) (bs : List ℕ) → is_ascii_alphabetic b ≡ true → form_at (b ∷ bs) ≡ word_at (b ∷ bs)
unfolding form_at
word_read b bs h = rw h refl

form_ident : (w : List ℕ) → keyword_of w ≡ None → word_form w ≡ f.Ident w
unfolding word_form
form_ident w h = rw h refl

form_keyword : (w : List ℕ) (k : Keyword) → keyword_of w ≡ Some k → word_form w ≡ f.Keyword k
unfolding word_form
form_keyword w k h = rw h refl

-- a word's form is a token
spells : (w : List ℕ) → IsWord w → IsToken (word_form w) w
spells w h = by_case (keyword_of w) refl
  where
    by_case : (o : Option Keyword) → keyword_of w ≡ o → IsToken (word_form w) w
    by_case None e = rw (form_ident w e) (h, e, refl)
    by_case (Some k) e = rw (form_keyword w k e) (h, e)

run_word : (b : ℕ) (bs : List ℕ) → is_ascii_alphabetic b ≡ true → IsWord (run is_word_byte (b ∷ bs))
run_word b bs h = rw (run_yes is_word_byte b bs (letter_goes_on b h)) (h, run_passes is_word_byte bs)

pub word_stands : (b : ℕ) (bs : List ℕ) (form : TokenForm) (rest : List ℕ) → is_ascii_alphabetic b ≡ true → word_at (b ∷ bs) ≡ Some (form, rest) → Stands (b ∷ bs) form rest
unfolding word_at
word_stands b bs form rest h found =
    let is : word_form (run is_word_byte (b ∷ bs)) ≡ form = same_form found in
    let left : past is_word_byte (b ∷ bs) ≡ rest = same_rest found in
    record {
      text = run is_word_byte (b ∷ bs);
      whole = subst (λ r. b ∷ bs ≡ run is_word_byte (b ∷ bs) ++ r) left (run_past is_word_byte (b ∷ bs));
      spelled = subst (λ g. IsToken g (run is_word_byte (b ∷ bs))) is (spells (run is_word_byte (b ∷ bs)) (run_word b bs h));
    }

-- what is found where a word stands
found_word : (w rest : List ℕ) → IsWord w → form_at (w ++ rest) ≡ Some (word_form (w ++ run is_word_byte rest), past is_word_byte rest)
unfolding word_at
found_word [] rest h = absurd h
found_word (b ∷ bs) rest h =
    let all : list_all is_word_byte (b ∷ bs) ≡ true = all_go_on (b ∷ bs) h in
    word_read b (bs ++ rest) h.0 ∙ rw (run-append is_word_byte (b ∷ bs) rest all, past-append is_word_byte (b ∷ bs) rest all) refl

pub word_covers : (w rest : List ℕ) (form : TokenForm) → IsWord w → word_form w ≡ form → Covers (form_at (w ++ rest)) form rest
word_covers w rest form h is =
    at_least (form_at (w ++ rest)) form rest (word_form (w ++ run is_word_byte rest)) (past is_word_byte rest) (found_word w rest h) (past_shorter is_word_byte rest) (λ apart. settled (run_or_more is_word_byte rest))
  where
    settled : ((run is_word_byte rest ≡ []) × (past is_word_byte rest ≡ rest)) ⊎ (length (past is_word_byte rest) < length rest) → (form_at (w ++ rest) ≡ Some (form, rest)) ⊎ (length (past is_word_byte rest) < length rest)
    settled (inl none) = inl (found_word w rest h ∙ rw (none.0, none.1, append-nil w, is) refl)
    settled (inr less) = inr less

pub ident_covers : (w rest : List ℕ) (name : List ℕ) → IsToken (f.Ident name) w → Covers (form_at (w ++ rest)) (f.Ident name) rest
ident_covers w rest name h = word_covers w rest (f.Ident name) h.0 (form_ident w h.1 ∙ ap f.Ident (sym h.2))

pub keyword_covers : (w rest : List ℕ) (k : Keyword) → IsToken (f.Keyword k) w → Covers (form_at (w ++ rest)) (f.Keyword k) rest
keyword_covers w rest k h = word_covers w rest (f.Keyword k) h.0 (form_keyword w k h.1)
