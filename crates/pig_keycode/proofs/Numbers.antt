-- Numbers as they are read.
use Rattle.std.proofs.Common.{◌≡◌, ◌<◌, ◌≤◌, ◌^◌, ℕ, ℤ, List, ◌++◌, length, take, drop, get_or, sym, ◌∙◌, ap, arith, inl, inr}
use Rattle.std.specs.Prelude.{FitsSigned}
use Rattle.std.specs.Int.{w32, w64, to_be_bytes, from_be_bytes}
use Rattle.std.proofs.lemmas.Nat.{be_bytes_4, be_bytes_8}
use Rattle.std.proofs.lemmas.Bool.{cases_lt}
use Rattle.std.proofs.lemmas.List.{take-append-drop, get_or-take, length-take-le, get_or_past}
use Rattle.pig_keycode.specs.Codes.{biased}
use Rattle.pig_keycode.specs.Reading.{StandsFirst}

taken_small : (n : ℕ) (bytes : List ℕ) → n ≤ length bytes → ((i : ℕ) → get_or bytes i 0 < 256) → (i : ℕ) → get_or (take n bytes) i 0 < 256
taken_small n bytes long small i = elim (cases_lt i n) [
  | inl h ↦ rw (get_or-take n bytes i 0 h) (small i)
  | inr h ↦ rw (get_or_past (take n bytes) i 0 (omega (arith, length-take-le n bytes long))) (omega arith)
]

pub int_stands : (bytes number rest : List ℕ) (n : ℕ) (z : ℤ) → number ≡ take 4 bytes → rest ≡ drop 4 bytes → 4 ≤ length bytes → ((i : ℕ) → get_or bytes i 0 < 256)
    → n ≡ from_be_bytes w32 number → biased (2 ^ 31) z ≡ n → FitsSigned w32 z → StandsFirst (λ z. to_be_bytes w32 (biased (2 ^ 31) z)) (FitsSigned w32) bytes z rest
int_stands bytes number rest n z is left long small value number_of fits =
    let back : to_be_bytes w32 n ≡ take 4 bytes = be_bytes_4 (take 4 bytes) n (length-take-le 4 bytes long) (taken_small 4 bytes long small) (value ∙ ap (from_be_bytes w32) is) in
    record {
      is = sym (take-append-drop 4 bytes) ∙ (ap (λ l. l ++ drop 4 bytes) (sym back) ∙ (ap (λ m. to_be_bytes w32 m ++ drop 4 bytes) (sym number_of) ∙ ap (λ l. to_be_bytes w32 (biased (2 ^ 31) z) ++ l) (sym left)));
      good = fits;
    }

pub long_stands : (bytes number rest : List ℕ) (n : ℕ) (z : ℤ) → number ≡ take 8 bytes → rest ≡ drop 8 bytes → 8 ≤ length bytes → ((i : ℕ) → get_or bytes i 0 < 256)
    → n ≡ from_be_bytes w64 number → biased (2 ^ 63) z ≡ n → FitsSigned w64 z → StandsFirst (λ z. to_be_bytes w64 (biased (2 ^ 63) z)) (FitsSigned w64) bytes z rest
long_stands bytes number rest n z is left long small value number_of fits =
    let back : to_be_bytes w64 n ≡ take 8 bytes = be_bytes_8 (take 8 bytes) n (length-take-le 8 bytes long) (taken_small 8 bytes long small) (value ∙ ap (from_be_bytes w64) is) in
    record {
      is = sym (take-append-drop 8 bytes) ∙ (ap (λ l. l ++ drop 8 bytes) (sym back) ∙ (ap (λ m. to_be_bytes w64 m ++ drop 8 bytes) (sym number_of) ∙ ap (λ l. to_be_bytes w64 (biased (2 ^ 63) z) ++ l) (sym left)));
      good = fits;
    }
