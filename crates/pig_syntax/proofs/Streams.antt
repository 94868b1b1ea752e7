-- The tokens of a script, one after the other.
use Rattle.std.proofs.Common.{◌≡◌, ◌∙◌, ℕ, ◌-◌, ◌<◌, List, [], ◌∷◌, ◌++◌, Bool, true, false, length, refl, sym, ap, subst, arith, ◌⊎◌, inl, inr}
use Rattle.std.specs.Prelude.{Option, Some, None, ◌&&◌}
use Rattle.std.proofs.lemmas.List.{length-append}
use Rattle.pig_syntax.specs.declared.tokens.Token.{Token}
use Rattle.pig_syntax.specs.declared.tokens.TokenForm.{TokenForm}
use Rattle.pig_syntax.specs.Tokens.{AreTokens, Begins, IsBadAt, IsToken, Reads, Stops, after_gap, here, is_number, skips, takes}
use Rattle.pig_syntax.specs.Scanner.{Found, form_at}
use Rattle.pig_syntax.proofs.Covers.{some_same}
use Rattle.pig_syntax.proofs.Recognised.{covers, one_token}

no_word : (number : Bool) → (number && false) ≡ false
no_word true = refl
no_word false = refl

-- no token is empty
not_empty : (form : TokenForm) → IsToken form [] → ⊥
unfolding form_at
not_empty form h = by_hit ((covers form [] [] h).hit (no_word (is_number form)))
  where
    by_hit : (◌≡◌ {A = Found TokenForm} None (Some (form, []))) ⊎ ((other : TokenForm) × (left : List ℕ) × (◌≡◌ {A = Found TokenForm} None (Some (other, left))) × (length left < length {A = ℕ} [])) → ⊥
    by_hit (inl e) = cc
    by_hit (inr more) = let none : ◌≡◌ {A = Found TokenForm} None (Some (more.0, more.1)) = more.2 in cc

-- a token leaves less than it began with
pub token_shorter : (bs rest : List ℕ) (form : TokenForm) → Begins bs form rest → length rest < length bs
token_shorter bs rest form h = by_text h.text h.whole h.spelled
  where
    by_text : (text : List ℕ) → bs ≡ text ++ rest → IsToken form text → length rest < length bs
    by_text [] e token = absurd (not_empty form token)
    by_text (b ∷ text) e token = omega (arith, ap length e, length-append text rest)

-- white space or a comment behind what is read
pub reads_gap : (total : ℕ) (bs mid rest : List ℕ) (ts : List Token) → Reads total bs ts mid → after_gap mid ≡ Some rest → Reads total bs ts rest
reads_gap total bs mid rest ts here g = skips g here
reads_gap total bs mid rest ts (skips {mid = next} h r) g = skips h (reads_gap total next mid rest ts r g)
reads_gap total bs mid rest _ (takes {mid = next} {ts = ts} b r) g = takes b (reads_gap total next mid rest ts r g)

-- a token behind what is read
pub reads_token : (total : ℕ) (bs mid rest : List ℕ) (ts : List Token) (form : TokenForm) → Reads total bs ts mid → Begins mid form rest
    → Reads total bs (ts ++ record { form = form; «from» = total - length mid } ∷ []) rest
reads_token total bs mid rest ts form here b = takes b here
reads_token total bs mid rest ts form (skips {mid = next} h r) b = skips h (reads_token total next mid rest ts form r b)
reads_token total bs mid rest _ form (takes {mid = next} {ts = ts} h r) b = takes h (reads_token total next mid rest ts form r b)

-- ---- no other tokens

off_some : {A : Type 0} (x : A) (o : Option A) → o ≡ None → o ≡ Some x → ⊥
off_some {A = A} x o e g = let none : ◌≡◌ {A = Option A} None (Some x) = sym e ∙ g in cc

abbrev Same : List Token → List Token → List ℕ → List ℕ → Type 0
Same ts us a b = (ts ≡ us) × (a ≡ b)

-- two readings of the same bytes that go as far as they can are one
pub one_reading : (total : ℕ) (bs : List ℕ) (ts us : List Token) (a b : List ℕ) → Reads total bs ts a → Stops a → Reads total bs us b → Stops b → Same ts us a b
one_reading total bs ts us a b here sa here sb = (refl, refl)
one_reading total bs ts us a b here sa (skips {mid = mid} h r) sb = absurd (off_some mid (after_gap bs) sa.no_gap h)
one_reading total bs ts us a b here sa (takes {mid = mid} {form = form} h r) sb = absurd (sa.no_token form mid h)
one_reading total bs ts us a b (skips {mid = mid} h r) sa here sb = absurd (off_some mid (after_gap bs) sb.no_gap h)
one_reading total bs ts us a b (takes {mid = mid} {form = form} h r) sa here sb = absurd (sb.no_token form mid h)
one_reading total bs ts us a b (skips {mid = mid} h r) sa (takes {mid = next} h' r') sb = absurd (off_some mid (after_gap bs) h'.no_gap h)
one_reading total bs ts us a b (takes {mid = mid} h r) sa (skips {mid = next} h' r') sb = absurd (off_some next (after_gap bs) h.no_gap h')
one_reading total bs ts us a b (skips {mid = mid} h r) sa (skips {mid = next} h' r') sb =
    let same : mid ≡ next = some_same (sym h ∙ h') in
    one_reading total mid ts us a b r sa (subst (λ m. Reads total m us b) (sym same) r') sb
one_reading total bs _ _ a b (takes {mid = mid} {ts = ts} {form = form} h r) sa (takes {mid = next} {ts = us} {form = other} h' r') sb =
    let same = one_token bs mid next form other h h' in
    let rest = one_reading total mid ts us a b r sa (subst (λ m. Reads total m us b) (sym same.1) r') sb in
    joined same.0 rest.0 rest.1
  where
    joined : form ≡ other → ts ≡ us → a ≡ b → Same (record { form = form; «from» = total - length bs } ∷ ts) (record { form = other; «from» = total - length bs } ∷ us) a b
    joined e g k = (cc, k)

-- ---- the law in full

-- no token begins where nothing stands
pub end_stops : Stops []
unfolding after_gap
end_stops = record { no_gap = refl; no_token = λ form rest h. nowhere rest (token_shorter [] rest form h) }
  where
    nowhere : (rest : List ℕ) → length rest < length {A = ℕ} [] → ⊥
    nowhere rest h = omega arith

pub one_list : (script : List ℕ) (ts us : List Token) → AreTokens script ts → AreTokens script us → ts ≡ us
one_list script ts us r s = (one_reading (length script) script ts us [] [] r end_stops s end_stops).0

pub not_both : (script : List ℕ) (ts : List Token) (offset : ℕ) → AreTokens script ts → IsBadAt script offset → ⊥
not_both script ts offset r bad = left_over bad.rest (one_reading (length script) script ts bad.tokens [] bad.rest r end_stops bad.reads bad.stops).1 bad.more
  where
    left_over : (rest : List ℕ) → [] ≡ rest → 0 < length rest → ⊥
    left_over rest e more = omega (arith, ap length e)

pub one_place : (script : List ℕ) (offset other : ℕ) → IsBadAt script offset → IsBadAt script other → offset ≡ other
one_place script offset other a b =
    let same : a.rest ≡ b.rest = (one_reading (length script) script a.tokens b.tokens a.rest b.rest a.reads a.stops b.reads b.stops).1 in
    a.place ∙ (ap (λ r. length script - length r) same ∙ sym b.place)
