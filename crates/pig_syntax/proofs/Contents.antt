-- The steps through a text.
use Rattle.std.proofs.Common.{◌≡◌, ℕ, zero, suc, ◌-◌, ◌<◌, List, ◌++◌, true, false, refl, sym, arith}
use Rattle.std.specs.Prelude.{Some, None}
use Rattle.pig_syntax.specs.declared.scanning.TextUnit.{TextUnit}
use Rattle.pig_syntax.specs.Scanner.{bytes_of, content_after, is_end, unit_at}

less_one : (n : ℕ) → suc n - 1 ≡ n
less_one n = omega arith

-- the content ends in nothing where no unit stands
pub content_stops : (n : ℕ) (read bs : List ℕ) → None ≡ unit_at bs → content_after n read bs ≡ None
unfolding content_after
content_stops zero read bs h = refl
content_stops (suc n) read bs h = rw (sym h) refl

-- it ends at a quote
pub content_ends : (n : ℕ) (read bs rest : List ℕ) (u : TextUnit) → 0 < n → Some (u, rest) ≡ unit_at bs → true ≡ is_end u → content_after n read bs ≡ Some (read, rest)
unfolding content_after
content_ends zero read bs rest u more h end = absurd (omega arith)
content_ends (suc n) read bs rest u more h end = rw (sym h) (rw (sym end) refl)

-- it goes on with what another unit means
pub content_goes_on : (n : ℕ) (read longer bs rest : List ℕ) (u : TextUnit) → 0 < n → Some (u, rest) ≡ unit_at bs → false ≡ is_end u → longer ≡ read ++ bytes_of u → content_after (n - 1) longer rest ≡ content_after n read bs
unfolding content_after
content_goes_on zero read longer bs rest u more h end pushed = absurd (omega arith)
content_goes_on (suc n) read longer bs rest u more h end pushed = rw (sym h) (rw (sym end) (rw (less_one, pushed) refl))

-- no more units are looked at
pub content_over : (n : ℕ) (read bs : List ℕ) → n ≡ 0 → content_after n read bs ≡ None
unfolding content_after
content_over zero read bs h = refl
content_over (suc n) read bs h = absurd (omega arith)
