-- What TOKENIZE cuts a text into.
use Rattle.std.proofs.Common.{◌≡◌, ◌<◌, ◌≤◌, ◌+◌, ℕ, zero, suc, List, [], ◌∷◌, ◌++◌, length, take, drop, get_or, refl, sym, ◌∙◌, subst, arith, length-drop}
use Rattle.std.specs.Prelude.{Bool, true, false, not, ◌||◌, ◌==◌, nat_lt}
use Rattle.std.specs.List.{slice_split, position_or_len, AllByRecursion}
use Rattle.std.specs.Str.{IsUtf8, IsCharBoundary}
use Rattle.std.proofs.lemmas.Str.{IsCharBoundary-before_ascii, IsCharBoundary-after_ascii, IsUtf8-take, IsUtf8-drop}
use Rattle.std.proofs.lemmas.Bool.{ne_eqb, ltb-true, ltb-false, true≢false}
use Rattle.std.proofs.lemmas.List.Elements.{All-from_get_or}
use Rattle.std.proofs.lemmas.List.Sums.{position_or_len_is, prefix_len_passes, passes_at_first, fails_before_first}
use Rattle.std.proofs.lemmas.List.Splits.{slice_split_first, slice_split_none}
use Rattle.bstr.specs.Bytes.{is_in}
use Rattle.bstr.specs.Find.{NoneBefore, Nowhere, Passes}
use Rattle.pig_value.specs.Functions.{is_separator}
use Rattle.pig_value.proofs.list_laws.Bags.{either_way}
use Rattle.pig_builtins.specs.Parts.{piece_rows}

abbrev separators : List ℕ
separators = 32 ∷ 34 ∷ 44 ∷ 40 ∷ 41 ∷ 42 ∷ []

or_nothing : (b : Bool) → b || false ≡ b
or_nothing true = refl
or_nothing false = refl

regrouped : (a b c d e g : Bool) → a || (b || (c || (d || (e || (g || false))))) ≡ ((((a || b) || c) || d) || e) || g
regrouped true b c d e g = refl
regrouped false true c d e g = refl
regrouped false false true d e g = refl
regrouped false false false true e g = refl
regrouped false false false false true g = refl
regrouped false false false false false g = or_nothing g

separators_are : (b : ℕ) → is_in separators b ≡ is_separator b
unfolding is_in
separators_are b = regrouped (b == 32) (b == 34) (b == 44) (b == 40) (b == 41) (b == 42)

fails : (b : Bool) → ¬ (b ≡ true) → b ≡ false
fails true h = absurd (h refl)
fails false h = refl

not_passing : (b : Bool) → not b ≡ true → b ≡ false
not_passing true h = absurd (cc)
not_passing false h = refl

-- a separator is ASCII
differs : (b c : ℕ) → c < 128 → 128 ≤ b → (b == c) ≡ false
differs b c h k = ne_eqb b c (λ e. omega (arith, e))

other : (b : ℕ) → 128 ≤ b → is_separator b ≡ false
other b h =
    rw (differs b 32 (omega arith) h, differs b 34 (omega arith) h, differs b 44 (omega arith) h, differs b 40 (omega arith) h, differs b 41 (omega arith) h, differs b 42 (omega arith) h) refl

ascii : (b : ℕ) → is_separator b ≡ true → b < 128
ascii b h = either_way (nat_lt b 128) (λ e. ltb-true b 128 e) (λ e. absurd (true≢false (sym h ∙ other b (ltb-false b 128 e))))

module _ (text : List ℕ) (at : ℕ) (before : NoneBefore (Passes (is_in separators) text) 0 (length text) at) (here : Passes (is_in separators) text at) where
  found : is_separator (get_or text at 0) ≡ true
  found = sym (separators_are (get_or text at 0)) ∙ here

  place : at ≡ position_or_len is_separator text
  place =
      let high : at < length text = before.high in
      sym (position_or_len_is is_separator text at 0 (omega arith)
      (λ k h. sym (separators_are (get_or text k 0)) ∙ fails (is_in separators (get_or text k 0)) (before.before k (omega arith) h)) (λ _. found))

  pub cut_at : slice_split is_separator text ≡ take at text ∷ slice_split is_separator (drop (at + 1) text)
  cut_at = let high : at < length text = before.high in rw place (slice_split_first is_separator text 0 (rw (sym place) high))

  pub edge_before : IsCharBoundary text at
  edge_before = IsCharBoundary-before_ascii text at before.high (ascii (get_or text at 0) found)

  pub edge_after : IsUtf8 text → IsCharBoundary text (at + 1)
  edge_after u = IsCharBoundary-after_ascii text at u before.high (ascii (get_or text at 0) found)

pub uncut : (text : List ℕ) → Nowhere (Passes (is_in separators) text) 0 (length text) → slice_split is_separator text ≡ text ∷ []
uncut text none =
    let past : length text ≡ position_or_len is_separator text
    = sym (position_or_len_is is_separator text (length text) 0 (omega arith)
    (λ k h. sym (separators_are (get_or text k 0)) ∙ fails (is_in separators (get_or text k 0)) (none k (omega arith) h)) (λ h. absurd (omega arith))) in
    slice_split_none is_separator text (All-from_get_or (λ x. is_separator x ≡ false) text 0
    (λ k h. not_passing (is_separator (get_or text k 0)) (prefix_len_passes (λ x. not (is_separator x)) text k 0 (omega arith))))

-- what a cut at a separator keeps on both sides holds of each piece
module _ (Q : List ℕ → Type 0) (keeps : (text : List ℕ) (at : ℕ) → at < length text → is_separator (get_or text at 0) ≡ true → Q text → Q (take at text) × Q (drop (at + 1) text)) where
  by_length : (fuel : ℕ) (text : List ℕ) → length text < fuel → Q text → AllByRecursion Q (slice_split is_separator text)
  by_length zero text within h = absurd (omega (arith, within))
  by_length (suc fuel) text within h = either_way (nat_lt (position_or_len is_separator text) (length text))
      (λ e. let at = position_or_len is_separator text in
      let here : at < length text = ltb-true at (length text) e in
      let both = keeps text at here (passes_at_first is_separator text 0 here) h in
      let left = length-drop (at + 1) text in
      subst (AllByRecursion Q) (sym (slice_split_first is_separator text 0 here)) (both.0, by_length fuel (drop (at + 1) text) (omega arith) both.1))
      (λ e. let past = ltb-false (position_or_len is_separator text) (length text) e in
      subst (AllByRecursion Q) (sym (slice_split_none is_separator text (All-from_get_or (λ x. is_separator x ≡ false) text 0
      (λ k i. fails_before_first is_separator text k 0 (omega arith))))) (h, tt))

  pub pieces_each : (text : List ℕ) → Q text → AllByRecursion Q (slice_split is_separator text)
  pieces_each text h = by_length (suc (length text)) text (omega arith) h

-- a text is cut into texts
pub cut_utf8 : (text : List ℕ) (at : ℕ) → at < length text → is_separator (get_or text at 0) ≡ true → IsUtf8 text → IsUtf8 (take at text) × IsUtf8 (drop (at + 1) text)
cut_utf8 text at within here u =
    let low = ascii (get_or text at 0) here in
    (IsUtf8-take text at u (IsCharBoundary-before_ascii text at within low), IsUtf8-drop text (at + 1) u (IsCharBoundary-after_ascii text at u within low))

pub texts_each : (text : List ℕ) → IsUtf8 text → AllByRecursion IsUtf8 (slice_split is_separator text)
texts_each = pieces_each IsUtf8 cut_utf8
