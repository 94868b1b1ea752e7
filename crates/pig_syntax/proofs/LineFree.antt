-- No name and no text holds an LF.
use Rattle.std.proofs.Common.{◌≡◌, ℕ, ◌+◌, ◌/◌, ◌%◌, ◌≤◌, List, [], ◌∷◌, ◌++◌, Bool, true, false, cond, refl, sym, subst, arith}
use Rattle.std.specs.Prelude.{Some, None, not, ◌&&◌, ◌||◌, ◌==◌, nat_lt, All, ◌≢◌}
use Rattle.std.specs.Char.{encode_utf8, is_ascii_alphabetic}
use Rattle.std.specs.List.{list_all}
use Rattle.std.proofs.Math.Utf8.{encode}
use Rattle.std.proofs.lemmas.Grind.{common_steps}
use Rattle.std.proofs.lemmas.List.Elements.{All-cons, All-nil}
use Rattle.pig_syntax.specs.declared.tokens.Token.{Token}
use Rattle.pig_syntax.specs.declared.tokens.TokenForm.{TokenForm}
use Rattle.pig_syntax.specs.declared.tokens.TokenForm.TheVariants as f
use Rattle.pig_value.specs.Texts.{HasNoLf}
use Rattle.pig_syntax.specs.Tokens.{HoldsNoLf, IsToken, IsWord, is_word_byte, Means, Reads, escape_of, escaped, here, is_in_line, is_plain, named, nothing, plain, skips, takes}
use Rattle.pig_syntax.proofs.Covers.{some_same}

line_free-append : (xs ys : List ℕ) → list_all is_in_line xs ≡ true → list_all is_in_line ys ≡ true → list_all is_in_line (xs ++ ys) ≡ true
line_free-append [] ys h g = g
line_free-append (x ∷ xs) ys h g = by_test (line_free-append xs ys) (is_in_line x) h
  where
    by_test : (list_all is_in_line xs ≡ true → list_all is_in_line ys ≡ true → list_all is_in_line (xs ++ ys) ≡ true) → (t : Bool) → (t && list_all is_in_line xs) ≡ true → (t && list_all is_in_line (xs ++ ys)) ≡ true
    by_test ih true k = ih k g
    by_test ih false k = absurd (cc)

plain_in_line : (b : ℕ) → is_plain b ≡ true → is_in_line b ≡ true
unfolding is_plain
plain_in_line b h = by_tests (b == 39) (b == 92) (b == 10) h
  where
    by_tests : (quote slash feed : Bool) → not (quote || slash || feed) ≡ true → not feed ≡ true
    by_tests true slash feed g = absurd (cc)
    by_tests false true feed g = absurd (cc)
    by_tests false false feed g = g

escape_in_line : (e c : ℕ) → escape_of e ≡ Some c → is_in_line c ≡ true
unfolding escape_of
escape_in_line e c h = by_tests (e == 39) (e == 92) (e == 116) h
  where
    by_tests : (quote slash tab : Bool) → cond quote (Some 39) (cond slash (Some 92) (cond tab (Some 9) None)) ≡ Some c → is_in_line c ≡ true
    by_tests true slash tab g = subst (λ x. is_in_line x ≡ true) (some_same g) refl
    by_tests false true tab g = subst (λ x. is_in_line x ≡ true) (some_same g) refl
    by_tests false false true g = subst (λ x. is_in_line x ≡ true) (some_same g) refl
    by_tests false false false g = absurd (cc)

high_in_line : (b : ℕ) → 128 ≤ b → is_in_line b ≡ true
high_in_line b h = grind (arith, common_steps)

char_in_line : (c : ℕ) → (c == 10) ≡ false → list_all is_in_line (encode c) ≡ true
unfolding encode
char_in_line c h = by_size (nat_lt c 128) (nat_lt c 2048) (nat_lt c 65536)
  where
    by_size : (one two three : Bool)
        → list_all is_in_line (cond one (c ∷ []) (cond two ((192 + c / 64) ∷ (128 + c % 64) ∷ []) (cond three ((224 + c / 4096) ∷ (128 + c / 64 % 64) ∷ (128 + c % 64) ∷ []) ((240 + c / 262144) ∷ (128 + c / 4096 % 64) ∷ (128 + c / 64 % 64) ∷ (128 + c % 64) ∷ [])))) ≡ true
    by_size true two three = rw h refl
    by_size false true three = rw (high_in_line (192 + c / 64) (omega arith), high_in_line (128 + c % 64) (omega arith)) refl
    by_size false false true = rw (high_in_line (224 + c / 4096) (omega arith), high_in_line (128 + c / 64 % 64) (omega arith), high_in_line (128 + c % 64) (omega arith)) refl
    by_size false false false =
        rw (high_in_line (240 + c / 262144) (omega arith), high_in_line (128 + c / 4096 % 64) (omega arith), high_in_line (128 + c / 64 % 64) (omega arith), high_in_line (128 + c % 64) (omega arith)) refl

means_in_line : (body content : List ℕ) → Means body content → list_all is_in_line content ≡ true
means_in_line body content nothing = refl
means_in_line _ _ (plain {b = b} {bs = bs} {cs = cs} p m) = rw (plain_in_line b p) (means_in_line bs cs m)
means_in_line _ _ (escaped {e = e} {c = c} {bs = bs} {cs = cs} p m) = rw (escape_in_line e c p) (means_in_line bs cs m)
means_in_line _ _ (named {v = v} {bs = bs} {cs = cs} p m) = line_free-append (encode_utf8 v) cs (char_in_line v p.no_lf) (means_in_line bs cs m)

both : (a b : Bool) → (a && b) ≡ true → (a ≡ true) × (b ≡ true)
both true b h = (refl, h)
both false b h = absurd (cc)

-- bytes that pass a test which an LF does not
pub no_lf : (passes : ℕ → Bool) → passes 10 ≡ false → (bs : List ℕ) → list_all passes bs ≡ true → HasNoLf bs
no_lf passes out [] h = All-nil (λ b. b ≢ 10)
no_lf passes out (b ∷ bs) h =
    let split : (passes b ≡ true) × (list_all passes bs ≡ true) = both (passes b) (list_all passes bs) h in
    All-cons (λ b. b ≢ 10) b bs (λ e. let lf : passes 10 ≡ true = subst (λ x. passes x ≡ true) e split.0 in cc) (no_lf passes out bs split.1)

word_has_no_lf : (text : List ℕ) → IsWord text → HasNoLf text
unfolding is_word_byte
word_has_no_lf [] h = absurd h
word_has_no_lf (b ∷ bs) h =
    All-cons (λ b. b ≢ 10) b bs (λ e. let lf : is_ascii_alphabetic 10 ≡ true = subst (λ x. is_ascii_alphabetic x ≡ true) e h.0 in cc) (no_lf is_word_byte refl bs h.1)

token_line_free : (form : TokenForm) (text : List ℕ) → IsToken form text → HoldsNoLf form
token_line_free (f.Ident name) text h = subst HasNoLf (sym h.2) (word_has_no_lf text h.0)
token_line_free (f.Keyword k) text h = tt
token_line_free (f.Int z) text h = tt
token_line_free (f.Long z) text h = tt
token_line_free f.Float text h = tt
token_line_free (f.Position n) text h = tt
token_line_free (f.Text content) text h = no_lf is_in_line refl content (means_in_line h.body content h.means)
token_line_free (f.Symbol s) text h = tt

-- the names and texts among the tokens of a script hold no LF
pub tokens_line_free : (total : ℕ) (bs rest : List ℕ) (ts : List Token) → Reads total bs ts rest → All (λ token. HoldsNoLf token.form) ts
tokens_line_free total bs rest ts here = All-nil (λ token. HoldsNoLf token.form)
tokens_line_free total bs rest ts (skips {mid = mid} h r) = tokens_line_free total mid rest ts r
tokens_line_free total bs rest _ (takes {mid = mid} {ts = ts} {form = form} b r) = All-cons (λ token. HoldsNoLf token.form) _ ts (token_line_free form b.text b.spelled) (tokens_line_free total mid rest ts r)
