-- The steps of the loops over tokens.
use Rattle.std.proofs.Common.{◌≡◌, ◌<◌, ◌≤◌, ◌+◌, ◌-◌, ℕ, Bool, true, false, List, length, take, drop, get_or, refl, sym, subst, arith, ap, ◌∙◌, inl, inr, max, Some}
use Rattle.std.specs.Prelude.{if◌then◌else◌}
use Rattle.std.proofs.Math.Nat.{eq-or-lt_of_le, sub_self, max-eq_left, max-eq_right, le_of_lt}
use Rattle.std.proofs.lemmas.Bool.{cases_lt}
use Rattle.std.specs.List.{count_by, slice_range}
use Rattle.std.specs.Option.{option_map}
use Rattle.std.proofs.lemmas.List.{get_or-drop, length-drop}
use Rattle.std.proofs.lemmas.List.Sums.{count_by_more_yes, count_by_more_no}
use Rattle.std.proofs.lemmas.Option.{slice_get_read}
use Rattle.std.specs.List.{slice_get}
use mir.Val.{bool_byte}
use Rattle.pig_syntax.specs.declared.tokens.Token.{Token}
use Rattle.pig_syntax.specs.Cutting.{is_semicolon, open_braces, close_braces, IsCut, NoCut, opened, closed}

-- one more element is counted where it passes
pub count_more : {A : Type 0} (p : A → Bool) (xs : List A) (i : ℕ) (x : A) (b : Bool) (n : ℕ) → i < length xs → x ≡ get_or xs i x → b ≡ p x → n ≡ bool_byte b → count_by p (take (i + 1) xs) ≡ count_by p (take i xs) + n
count_more p xs i x true n h e t m =
    let q : p (get_or xs i x) ≡ true = ap p (sym e) ∙ sym t in
    let k : n ≡ 1 = m in
    rw k (count_by_more_yes p xs i x h q)
count_more p xs i x false n h e t m =
    let q : p (get_or xs i x) ≡ false = ap p (sym e) ∙ sym t in
    let k : n ≡ 0 = m in
    let c = count_by_more_no p xs i x h q in
    omega arith

-- the same at a known answer
count_choice : {A : Type 0} (p : A → Bool) (xs : List A) (i : ℕ) (x : A) (b : Bool) → i < length xs → x ≡ get_or xs i x → b ≡ p x → count_by p (take (i + 1) xs) ≡ count_by p (take i xs) + (if b then 1 else 0)
count_choice p xs i x true h e t = count_more p xs i x true 1 h e t refl
count_choice p xs i x false h e t = count_more p xs i x false 0 h e t refl

-- a choice of 1 and 0 is at most 1
pub choice_small : (b : Bool) → (if b then 1 else 0) ≤ 1
choice_small true = omega arith
choice_small false = omega arith

-- the same, with the number written as a choice
pub count_one : {A : Type 0} (p : A → Bool) (xs : List A) (i : ℕ) (x : A) → i < length xs → x ≡ get_or xs i x → count_by p (take (i + 1) xs) ≡ count_by p (take i xs) + (if p x then 1 else 0)
count_one p xs i x h e = count_choice p xs i x (p x) h e refl

-- what is counted at one element is at most 1
pub step_small : (b : Bool) (n : ℕ) → n ≡ bool_byte b → n ≤ 1
step_small true n e = omega (arith, e)
step_small false n e = omega (arith, e)

-- an empty range has nothing to count
pub count_none : {A : Type 0} (p : A → Bool) (xs : List A) (start : ℕ) → 0 ≡ count_by p (slice_range xs start start)
count_none p xs start = let e : start - start ≡ 0 = sub_self start in rw e

-- the same of a range
pub count_range : {A : Type 0} (p : A → Bool) (xs : List A) (start at : ℕ) (x : A) (b : Bool) (n : ℕ) → start ≤ at → at < length xs → x ≡ get_or xs at x → b ≡ p x → n ≡ bool_byte b → count_by p (slice_range xs start (at + 1)) ≡ count_by p (slice_range xs start at) + n
count_range {A = A} p xs start at x b n h k e t m =
    let i : at + 1 - start ≡ at - start + 1 = omega arith in
    let j : start + (at - start) ≡ at = omega arith in
    let w : at - start < length (drop start xs) = omega (arith, length-drop start xs) in
    let P : ℕ → Type 0 = λ n. x ≡ get_or xs n x in
    let g : x ≡ get_or (drop start xs) (at - start) x = subst P (sym j) e ∙ sym (get_or-drop start xs (at - start) x) in
    rw i (count_more p (drop start xs) (at - start) x b n w g t m)

-- the token at a place, as an option
token_at : (ts : List Token) (at : ℕ) (t : Token) → at < length ts → t ≡ get_or ts at t → slice_get ts at ≡ Some t
token_at ts at t h e = slice_get_read ts (length ts) at t refl h e

-- a `;` that ends the statement
pub cut_here : (ts : List Token) (start at : ℕ) (t : Token) → start ≤ at → at < length ts → t ≡ get_or ts at t → is_semicolon t.form ≡ true → open_braces (slice_range ts start at) ≤ close_braces (slice_range ts start at) → IsCut ts start at
cut_here ts start at t h k e s c = record {
  behind = h;
  mark = ap (option_map (λ t. is_semicolon t.form)) (token_at ts at t k e) ∙ ap Some s;
  closed = c;
}

-- a statement is not cut before its start
pub uncut_start : (ts : List Token) (start : ℕ) → NoCut ts start start
unfolding NoCut
uncut_start ts start at h cut = omega (arith, cut.behind)

-- a place that does not end the statement is passed
pub uncut_more : (ts : List Token) (start at : ℕ) → NoCut ts start at → (IsCut ts start at → ⊥) → NoCut ts start (at + 1)
unfolding NoCut
uncut_more ts start at uncut here n h cut =
    let k : n ≤ at = omega arith in
    elim (eq-or-lt_of_le k) [ inl e ↦ here (let P : ℕ → Type 0 = IsCut ts start in subst P e cut) | inr l ↦ uncut n l cut ]

-- where a statement is cut stands a `;`
pub cut_mark : (ts : List Token) (start at : ℕ) (t : Token) → at < length ts → t ≡ get_or ts at t → IsCut ts start at → is_semicolon t.form ≡ true
cut_mark ts start at t h e cut =
    let m = ap (option_map (λ t. is_semicolon t.form)) (token_at ts at t h e) in
    let n = cut.mark in
    cc

-- the greatest number of opened minus closed brackets over the prefixes of at most n tokens
pub record IsDeepest (ts : List Token) (n depth : ℕ) : Type 0 where
  pub most : (k : ℕ) → k ≤ n → opened (take k ts) ≤ depth + closed (take k ts)
  pub place : ℕ
  pub within : place ≤ n
  pub reached : opened (take place ts) ≡ depth + closed (take place ts)

-- one more prefix
pub deepest_more : (ts : List Token) (n depth more : ℕ) → IsDeepest ts n depth → more ≡ opened (take (n + 1) ts) - closed (take (n + 1) ts) → IsDeepest ts (n + 1) (max depth more)
deepest_more ts n depth more old e =
    elim (cases_lt depth more) [
      | inl l ↦
          let m : max depth more ≡ more = max-eq_right (le_of_lt l) in
          rw m (record {
            most = λ k h. elim (eq-or-lt_of_le h) [
              | inl q ↦ rw q (omega arith)
              | inr w ↦ (let o = old.most k (omega arith) in omega arith)
            ];
            place = n + 1;
            within = omega arith;
            reached = omega arith;
          })
      | inr l ↦
          let m : max depth more ≡ depth = max-eq_left l in
          rw m (record {
            most = λ k h. elim (eq-or-lt_of_le h) [
              | inl q ↦ rw q (omega arith)
              | inr w ↦ old.most k (omega arith)
            ];
            place = old.place;
            within = omega (arith, old.within);
            reached = old.reached;
          })
    ]
