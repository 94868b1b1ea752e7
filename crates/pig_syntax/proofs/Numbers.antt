-- The numbers that digits write.
use Rattle.std.proofs.Common.{◌≡◌, ℕ, zero, suc, ◌+◌, ◌-◌, ◌*◌, ◌^◌, ◌<◌, ◌≤◌, min, List, [], ◌∷◌, true, length, take, get_or, arith, rules}
use Rattle.std.specs.Char.{is_ascii_digit, digit_value}
use Rattle.std.specs.List.{list_all}
use Rattle.std.specs.Str.Parse.{digits_value}
use Rattle.std.proofs.lemmas.Grind.{common_steps}
use Rattle.std.proofs.lemmas.Int.Digits.{digits_value_more}
use Rattle.pig_syntax.proofs.Runs.{both_first, both_second}
use Rattle.std.proofs.lemmas.Str.Parse.{IsDigitsTest, IsNumeralModel, digits_value_short, numerals_by_value}

abbrev pub AreDigits : List ℕ → Type 0
AreDigits ds = list_all is_ascii_digit ds ≡ true

tests_digits : IsDigitsTest AreDigits
tests_digits = search rules

own : IsNumeralModel AreDigits (digits_value 10)
own = numerals_by_value AreDigits tests_digits

-- nine digits write less than a billion
pub short_number : (ds : List ℕ) → list_all is_ascii_digit ds ≡ true → length ds ≤ 9 → digits_value 10 ds < 1000000000
short_number ds digits few = digits_value_short own ds 9 digits few

-- one more digit
pub value_more : (ds : List ℕ) (i v d w : ℕ) → i < length ds → v ≡ min (digits_value 10 (take i ds)) (2 ^ 64 - 1)
    → d ≡ get_or ds i 0 → 48 ≤ d → d ≤ 57 → w ≡ min (min (v * 10) (2 ^ 64 - 1) + (d - 48)) (2 ^ 64 - 1)
    → w ≡ min (digits_value 10 (take (i + 1) ds)) (2 ^ 64 - 1)
value_more ds i v d w within so_far is low high next =
    let value : digit_value (get_or ds i 0) ≡ d - 48 = grind (arith, common_steps) in
    let more : digits_value 10 (take (i + 1) ds) ≡ digits_value 10 (take i ds) * 10 + digit_value (get_or ds i 0) = digits_value_more 10 ds i within in
    omega arith

-- each of the digits is one
digit_range : (b : ℕ) → is_ascii_digit b ≡ true → (48 ≤ b) × (b ≤ 57)
digit_range b h = grind (arith, common_steps)

pub digit_in : (ds : List ℕ) (i : ℕ) → list_all is_ascii_digit ds ≡ true → i < length ds → (48 ≤ get_or ds i 0) × (get_or ds i 0 ≤ 57)
digit_in [] i h within = absurd (omega arith)
digit_in (b ∷ bs) zero h within = digit_range b (both_first (is_ascii_digit b) (list_all is_ascii_digit bs) h)
digit_in (b ∷ bs) (suc i) h within = digit_in bs i (both_second (is_ascii_digit b) (list_all is_ascii_digit bs) h) (omega arith)
