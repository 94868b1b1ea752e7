-- What the numbers of values say.
use Rattle.std.proofs.Common.{◌≡◌, ◌∙◌, ◌&&◌, ◌^◌, ◌<◌, ◌≤◌, ℕ, Bool, cond, true, false, refl, sym, ap, subst, List, length, Option, Some, None, Result, true≢false, arith, nat_le, rules, le-leb, leb-true, take, take-suc, add-one, get_or, ◌+◌, ◌++◌, [], ◌∷◌}
use Rattle.std.specs.Char.{is_ascii_digit}
use Rattle.std.specs.List.{list_all}
use Rattle.std.specs.Result.{result_ok}
use Rattle.std.specs.Str.Parse.{ParsesUnsigned, digits_value}
use Rattle.std.proofs.lemmas.Str.Parse.{IsDigitsTest, IsNumeralModel, digits_value_short, numerals_by_value, parse_gives}
use Rattle.pig_words.specs.CommandWords.{IsSet, IsOptionWord, Word}
use Rattle.pig_words.specs.ClapWords.{is_value, number_at, setting_at}

abbrev AreDigits : List ℕ → Type 0
AreDigits ds = list_all is_ascii_digit ds ≡ true

tests_digits : IsDigitsTest AreDigits
tests_digits = search rules

own : IsNumeralModel AreDigits (digits_value 10)
own = numerals_by_value AreDigits tests_digits

pub both : (a b : Bool) → (a && b) ≡ true → (a ≡ true) × (b ≡ true)
both true b e = (refl, e)
both false b e = absurd (true≢false (sym e))

pub value_from : (word : Word) → is_value word ≡ true → IsOptionWord word
value_from word e =
    let p = both (nat_le 1 (length word) && nat_le (length word) 9) (list_all is_ascii_digit word) e in
    let q = both (nat_le 1 (length word)) (nat_le (length word) 9) p.0 in
    record { some = leb-true 1 (length word) q.0; few = leb-true (length word) 9 q.1; digits = p.1 }

pub value_test : (word : Word) → IsOptionWord word → is_value word ≡ true
value_test word v = rw (le-leb 1 (length word) v.some, le-leb (length word) 9 v.few, v.digits) refl

-- a value is parsed
pub value_parsed : {E : Type 0} (word : Word) (r : Result ℕ E) → ParsesUnsigned 32 10 word r → true ≡ is_value word → result_ok r ≡ cond (is_value word) (Some (digits_value 10 word)) None
value_parsed word r h e =
    let v = value_from word (sym e) in
    let small : digits_value 10 word < 10 ^ 9 = digits_value_short own word 9 v.digits v.few in
    let fits : digits_value 10 word < 2 ^ 32 = omega (arith, small) in
    let parsed = parse_gives own 32 word r h v.digits v.some fits in
    ap result_ok parsed ∙ ap (λ b. cond b (Some (digits_value 10 word)) None) e

-- what is read of a value is what it sets
pub number_set : (word : Word) (default most n : ℕ) → number_at most word ≡ Some n → IsOptionWord word × IsSet (Some word) default most n
number_set word default most n e = go (is_value word && nat_le 1 (digits_value 10 word) && nat_le (digits_value 10 word) most) refl e
  where
    go : (t : Bool) → (is_value word && nat_le 1 (digits_value 10 word) && nat_le (digits_value 10 word) most) ≡ t → cond t (Some (digits_value 10 word)) None ≡ Some n
        → IsOptionWord word × IsSet (Some word) default most n
    go false t e = cc
    go true t e =
        let p = both (is_value word && nat_le 1 (digits_value 10 word)) (nat_le (digits_value 10 word) most) t in
        let q = both (is_value word) (nat_le 1 (digits_value 10 word)) p.0 in
        let is : n ≡ digits_value 10 word = cc in
        let some = leb-true 1 (digits_value 10 word) q.1 in
        let few = leb-true (digits_value 10 word) most p.1 in
        (value_from word q.0, (is, omega (arith, is, some), omega (arith, is, few)))

pub set_number : (word : Word) (default most n : ℕ) → IsOptionWord word → IsSet (Some word) default most n → number_at most word ≡ Some n
set_number word default most n v h =
    let some : 1 ≤ digits_value 10 word = omega (arith, h.0, h.1) in
    let few : digits_value 10 word ≤ most = omega (arith, h.0, h.2) in
    rw (value_test word v, le-leb 1 (digits_value 10 word) some, le-leb (digits_value 10 word) most few) (ap Some (sym h.0))

-- the same of an option that may be given or not
pub setting_set : (value : Option Word) (default most n : ℕ) → setting_at default most value ≡ Some n → IsSet value default most n × ((v : Word) → value ≡ Some v → IsOptionWord v)
setting_set None default most n e = (cc, λ v none. cc)
setting_set (Some word) default most n e =
    let s = number_set word default most n e in
    (s.1, λ v same. let is : word ≡ v = cc in subst IsOptionWord is s.0)

pub set_setting : (value : Option Word) (default most n : ℕ) → ((v : Word) → value ≡ Some v → IsOptionWord v) → IsSet value default most n → setting_at default most value ≡ Some n
set_setting None default most n v h = ap Some (sym h)
set_setting (Some word) default most n v h = set_number word default most n (v word refl) h

-- one word more
pub one_more : (xs ys : List Word) (i : ℕ) (x : Word) → ys ≡ xs → i < length ys → x ≡ get_or ys i x → take (i + 1) xs ≡ take i xs ++ x ∷ []
one_more xs ys i x same lt is =
    ap (λ n. take n xs) (add-one i) ∙ take-suc xs i x (subst (λ zs. i < length zs) same lt) ∙ ap (λ y. take i xs ++ y ∷ []) (sym (is ∙ ap (λ zs. get_or zs i x) same))
