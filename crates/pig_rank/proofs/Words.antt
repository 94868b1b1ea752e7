-- Numbers that are counted modulo 2 to the 64.
use Rattle.std.specs.Prelude.{◌≡◌, ◌<◌, ◌≤◌, ◌+◌, ◌-◌, ◌%◌, ◌^◌, ℕ, pos, Bool, true, false}
use Rattle.std.proofs.Common.{ap, sym, arith, cond}
use Rattle.std.specs.Int.{cast_signed, int_wrap, w64}
use Rattle.std.proofs.Math.Nat.{mod-eq_of_lt, mod-mod}
use Rattle.pig_value.specs.Functions.{long_of}
use Rattle.pig_value.specs.Trees.{v_long}

-- ---- longs

-- a number of 64 bits as a long
pub long_number : (n : ℕ) → n < 2 ^ 64 → cast_signed w64 n ≡ int_wrap w64 (pos n)
unfolding int_wrap
long_number n h = ap (cast_signed w64) (sym (mod-eq_of_lt h))

-- a number and its remainder make the same long
pub long_word : (n : ℕ) → long_of (pos (n % 2 ^ 64)) ≡ long_of (pos n)
unfolding int_wrap
long_word n = ap (λ k. v_long (cast_signed w64 k)) (mod-mod n (2 ^ 64))

-- ---- counts

pub counts_on : (a b c : ℕ) → c ≡ a + b → (a % 2 ^ 64 + b) % 2 ^ 64 ≡ c % 2 ^ 64
counts_on a b c h = omega (arith, h)

pub keys_on : (b : Bool) (d e : ℕ) → e + cond b 1 0 ≡ d + 1 → cond b (d % 2 ^ 64) ((d % 2 ^ 64 + 1) % 2 ^ 64) ≡ e % 2 ^ 64
keys_on true d e h = omega (arith, h)
keys_on false d e h = omega (arith, h)

pub tail_on : (b : Bool) (t u : ℕ) → u ≡ cond b t 0 + 1 → cond b ((t % 2 ^ 64 + 1) % 2 ^ 64) 1 ≡ u % 2 ^ 64
tail_on true t u h = omega (arith, h)
tail_on false t u h = omega (arith, h)

pub more_keys : (b : Bool) (d p e : ℕ) → 1 ≤ p → e + cond b 1 0 ≡ d + p → (d % 2 ^ 64 + cond b (p - 1) p) % 2 ^ 64 ≡ e % 2 ^ 64
more_keys true d p e some h = omega (arith, some, h)
more_keys false d p e some h = omega (arith, some, h)

pub more_tail : (b : Bool) (t p u : ℕ) → u ≡ cond b t 0 + p → (cond b (t % 2 ^ 64) 0 + p) % 2 ^ 64 ≡ u % 2 ^ 64
more_tail true t p u h = omega (arith, h)
more_tail false t p u h = omega (arith, h)

-- the rank of the last of so many, of which some tie with it
pub ranks_on : (b t l : ℕ) → b + t ≡ l → ((l % 2 ^ 64 + (2 ^ 64 - t % 2 ^ 64)) % 2 ^ 64 + 1) % 2 ^ 64 ≡ (b + 1) % 2 ^ 64
ranks_on b t l h = omega (arith, h)

-- a count that is no greater than a number of 64 bits
pub fits : (d l : ℕ) → d ≤ l → l < 2 ^ 64 → d % 2 ^ 64 ≡ d
fits d l h k = omega (arith, h, k)
