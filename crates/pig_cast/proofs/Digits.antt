-- Brackets as digits of a number: one more, and one less.
use Rattle.std.proofs.Common.{◌≡◌, ℕ, zero, suc, ◌+◌, ◌*◌, ◌/◌, ◌%◌, ◌<◌, ◌==◌, Bool, true, false, List, [], ◌∷◌, ◌++◌, length, reverse, if◌then◌else◌, refl, sym, ◌∙◌, ap, arith}
use Rattle.std.proofs.lemmas.Bool.{ne_eqb}
use Rattle.std.proofs.lemmas.Bool.Decides.{Decides-eqb}
use Rattle.std.proofs.lemmas.List.{length-append, length-reverse}
use Rattle.pig_value.specs.Brackets.{is_nothing}
use Rattle.pig_cast.specs.OpenBrackets.{bracket_of, brackets}

-- the numbers of so many digits are below this one
abbrev pub room : ℕ → ℕ
room zero = 1
room (suc n) = 4 * room n

-- digits that are not there add no bracket
pub enough : (n number : ℕ) → number < room n → brackets (suc n) number ≡ brackets n number
enough zero number small =
    let none : number ≡ 0 = omega arith in
    ap (λ m. if m == 0 then [] else bracket_of (m % 4) ∷ brackets 0 (m / 4)) none
enough (suc n) number small =
    let smaller : number / 4 < room n = omega arith in
    ap (λ l. if number == 0 then [] else bracket_of (number % 4) ∷ l) (enough n (number / 4) smaller)

-- one more digit is one more bracket, the first
pub one_digit_more : (n number digit : ℕ) → 0 < digit → digit < 4 → number < room n → brackets (suc n) (number * 4 + digit) ≡ bracket_of digit ∷ brackets (suc n) number
one_digit_more n number digit some low small =
    let more : ℕ = number * 4 + digit in
    let here : (more == 0) ≡ false = ne_eqb more 0 (λ e. omega arith) in
    let last : more % 4 ≡ digit = omega arith in
    let rest : more / 4 ≡ number = omega arith in
    ap (λ t. if t then [] else bracket_of (more % 4) ∷ brackets n (more / 4)) here ∙ ((λ i. bracket_of (last i) ∷ brackets n (rest i)) ∙ ap (λ l. bracket_of digit ∷ l) (sym (enough n number small)))

-- the last digit taken off, the first bracket is
pub one_digit_less : (n number : ℕ) → 0 < number → number < room (suc n) → brackets (suc n) number ≡ bracket_of (number % 4) ∷ brackets (suc n) (number / 4)
one_digit_less n number some small =
    let here : (number == 0) ≡ false = ne_eqb number 0 (λ e. omega arith) in
    let smaller : number / 4 < room n = omega arith in
    ap (λ t. if t then [] else bracket_of (number % 4) ∷ brackets n (number / 4)) here ∙ ap (λ l. bracket_of (number % 4) ∷ l) (sym (enough n (number / 4) smaller))

-- the list of the deeper brackets is empty, and behind it the digits change
pub opened_near : (deeper : List ℕ) (len n number digit bracket : ℕ) (now : List ℕ) → len ≡ length deeper → (len == 0) ≡ true → 0 < digit → digit < 4 → number < room n → bracket_of digit ≡ bracket → reverse deeper ++ brackets (suc n) number ≡ now → reverse deeper ++ brackets (suc n) (number * 4 + digit) ≡ bracket ∷ now
opened_near [] len n number digit bracket now all none some low small is view = one_digit_more n number digit some low small ∙ (λ i. is i ∷ view i)
opened_near (b ∷ deeper) len n number digit bracket now all none some low small is view = let no : len ≡ 0 = (Decides-eqb len 0).0 none in absurd (omega arith)

pub closed_near : (deeper left : List ℕ) (len left_len n number bracket : ℕ) (now : List ℕ) → len ≡ length deeper → left_len ≡ length left → len ≡ 0 → left_len ≡ 0 → (number ≡ 0 → ⊥) → number < room (suc n) → bracket ≡ bracket_of (number % 4) → reverse deeper ++ brackets (suc n) number ≡ now → now ≡ bracket ∷ (reverse left ++ brackets (suc n) (number / 4))
closed_near [] [] len left_len n number bracket now all rest none empty some small is view = sym view ∙ (one_digit_less n number (omega arith) small ∙ ap (λ b. b ∷ brackets (suc n) (number / 4)) (sym is))
closed_near [] (b ∷ left) len left_len n number bracket now all rest none empty some small is view = absurd (omega arith)
closed_near (b ∷ deeper) left len left_len n number bracket now all rest none empty some small is view = absurd (omega arith)

-- no bracket is there where the list is empty and the number is 0
pub none_there : (deeper : List ℕ) (len n number : ℕ) (now : List ℕ) → len ≡ length deeper → (len == 0) ≡ true → reverse deeper ++ brackets (suc n) number ≡ now → (number == 0) ≡ is_nothing now
none_there [] len n number now all none view = by_test (number == 0) ∙ ap is_nothing view
  where
    by_test : (t : Bool) → t ≡ is_nothing (if t then [] else bracket_of (number % 4) ∷ brackets n (number / 4))
    by_test true = refl
    by_test false = refl
none_there (b ∷ deeper) len n number now all none view = let no : len ≡ 0 = (Decides-eqb len 0).0 none in absurd (omega arith)

some_nothing : (bs : List ℕ) → 0 < length bs → false ≡ is_nothing bs
some_nothing [] h = absurd (omega arith)
some_nothing (b ∷ bs) h = refl

pub some_there : (deeper near now : List ℕ) (len : ℕ) → len ≡ length deeper → (len == 0) ≡ false → reverse deeper ++ near ≡ now → false ≡ is_nothing now
some_there [] near now len all some view = let wrong : true ≡ false = sym ((Decides-eqb len 0).1 all) ∙ some in absurd (cc)
some_there (b ∷ deeper) near now len all some view = some_nothing (reverse (b ∷ deeper) ++ near) (omega (arith, length-append (reverse (b ∷ deeper)) near, length-reverse (b ∷ deeper))) ∙ ap is_nothing view
