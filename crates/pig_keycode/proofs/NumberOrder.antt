-- Numbers as they are written compare as numbers do, whatever follows them.
use Rattle.std.proofs.Common.{◌≡◌, ◌<◌, ◌≤◌, ◌+◌, ◌*◌, ◌%◌, ◌^◌, ℕ, zero, suc, ℤ, pos, negsuc, List, ◌++◌, refl, arith, sym, ◌∙◌, ap, subst, pow-suc, mul_comm}
use Rattle.std.specs.Prelude.{FitsSigned, ◌<ℤ◌}
use Rattle.std.proofs.Math.Nat.{pow-le-pow_right, mod-eq_of_lt}
use Rattle.std.proofs.Math.Arith.{mod-mul}
use Rattle.std.proofs.lemmas.Nat.{mul-le, mod_below}
use Rattle.std.specs.Ordering.{nat_cmp, int_cmp, ordering_then, MatchOrdering}
use Rattle.std.specs.Cmp.{nat_cmp_is, int_cmp_is}
use Rattle.std.specs.Cmp.Lexicographic.{slice_cmp}
use Rattle.std.specs.Int.{w32, w64, byte_at, bytes_high_first, to_be_bytes}
use Rattle.std.proofs.lemmas.Cmp.{ranked}
use Rattle.std.specs.declared.cmp.Ordering.{Ordering}
use Rattle.std.specs.declared.cmp.Ordering.TheVariants.{Less, Equal, Greater}
use Rattle.std.specs.Int.Signed.{lt_z_yes}
use lib.Dec.{lt→ltb}
use Rattle.pig_keycode.specs.Codes.{biased}
use Rattle.pig_keycode.proofs.TextOrder.{then_assoc}

-- two numbers of two digits each
below : (p a b l m : ℕ) → l < p → a < b → a * p + l < b * p + m
below p a b l m small less =
    let step : suc a * p ≤ b * p = mul-le (suc a) p b p (omega arith) (omega arith) in
    let next : suc a * p ≡ a * p + p = omega arith in
    omega arith

same : (p a b l m : ℕ) (r : Ordering) → a ≡ b → MatchOrdering r (l < m) (l ≡ m) (m < l) → MatchOrdering r (a * p + l < b * p + m) (a * p + l ≡ b * p + m) (b * p + m < a * p + l)
same p a b l m Less e h = subst (λ c. a * p + l < c * p + m) e (omega arith)
same p a b l m Equal e h = ap (λ c. c * p + l) e ∙ ap (λ d. b * p + d) h
same p a b l m Greater e h = subst (λ c. c * p + m < a * p + l) e (omega arith)

pub digits_cmp : (p a b l m : ℕ) → l < p → m < p → ordering_then (nat_cmp a b) (nat_cmp l m) ≡ nat_cmp (a * p + l) (b * p + m)
digits_cmp p a b l m lp mp = by (nat_cmp a b) (ranked a b (nat_cmp a b) refl)
  where
    by : (r : Ordering) → MatchOrdering r (a < b) (a ≡ b) (b < a) → ordering_then r (nat_cmp l m) ≡ nat_cmp (a * p + l) (b * p + m)
    by Less h = nat_cmp_is (a * p + l) (b * p + m) Less (below p a b l m lp h)
    by Equal h = nat_cmp_is (a * p + l) (b * p + m) (nat_cmp l m) (same p a b l m (nat_cmp l m) h (ranked l m (nat_cmp l m) refl))
    by Greater h = nat_cmp_is (a * p + l) (b * p + m) Greater (below p b a m l mp h)

-- the lowest bytes of a number, one more of them
one_more : (k n : ℕ) → byte_at k n * 256 ^ k + n % 256 ^ k ≡ n % 256 ^ suc k
one_more zero n = omega arith
one_more (suc k) n =
    let unit = 256 ^ suc k in
    let wider : 256 ^ suc (suc k) ≡ 256 * unit = pow-suc 256 (suc k) ∙ mul_comm unit 256 in
    let some : 0 < unit = pow-le-pow_right {n = 256} (omega arith) {i = 0} {j = suc k} (omega arith) in
    rw (wider, mod-mul n {m = 256} {c = unit} (omega arith) some) (omega arith)

low_below : (k n : ℕ) → n % 256 ^ k < 256 ^ k
low_below k n = mod_below n (256 ^ k) (pow-le-pow_right {n = 256} (omega arith) {i = 0} {j = k} (omega arith))

bytes_order : (k m n : ℕ) (s t : List ℕ) → slice_cmp nat_cmp (bytes_high_first k m ++ s) (bytes_high_first k n ++ t) ≡ ordering_then (nat_cmp (m % 256 ^ k) (n % 256 ^ k)) (slice_cmp nat_cmp s t)
bytes_order zero m n s t = ap (λ r. ordering_then r (slice_cmp nat_cmp s t)) (nat_cmp_is (m % 256 ^ 0) (n % 256 ^ 0) Equal (let a : m % 1 ≡ 0 = omega arith in let b : n % 1 ≡ 0 = omega arith in a ∙ sym b))
bytes_order (suc k) m n s t =
    ap (ordering_then (nat_cmp (byte_at k m) (byte_at k n))) (bytes_order k m n s t)
    ∙ (sym (then_assoc (nat_cmp (byte_at k m) (byte_at k n)) (nat_cmp (m % 256 ^ k) (n % 256 ^ k)) (slice_cmp nat_cmp s t))
    ∙ (ap (λ r. ordering_then r (slice_cmp nat_cmp s t)) (digits_cmp (256 ^ k) (byte_at k m) (byte_at k n) (m % 256 ^ k) (n % 256 ^ k) (low_below k m) (low_below k n))
    ∙ (ap (λ x. ordering_then (nat_cmp x (byte_at k n * 256 ^ k + n % 256 ^ k)) (slice_cmp nat_cmp s t)) (one_more k m)
    ∙ ap (λ y. ordering_then (nat_cmp (m % 256 ^ suc k) y) (slice_cmp nat_cmp s t)) (one_more k n))))

pub whole_order : (k m n : ℕ) (s t : List ℕ) → m < 256 ^ k → n < 256 ^ k → slice_cmp nat_cmp (bytes_high_first k m ++ s) (bytes_high_first k n ++ t) ≡ ordering_then (nat_cmp m n) (slice_cmp nat_cmp s t)
whole_order k m n s t p q =
    bytes_order k m n s t
    ∙ (ap (λ x. ordering_then (nat_cmp x (n % 256 ^ k)) (slice_cmp nat_cmp s t)) (mod-eq_of_lt p)
    ∙ ap (λ y. ordering_then (nat_cmp m y) (slice_cmp nat_cmp s t)) (mod-eq_of_lt q))

-- within half of the range on either side
abbrev pub IsWithin : ℕ → ℤ → Type 0
IsWithin half (pos n) = n < half
IsWithin half (negsuc n) = n < half

pub biased_below : (half : ℕ) (z : ℤ) → IsWithin half z → biased half z < 2 * half
biased_below half (pos n) h = omega arith
biased_below half (negsuc n) h = omega arith

by_signs : (half : ℕ) (x y : ℤ) (r : Ordering) → IsWithin half x → IsWithin half y → MatchOrdering r (biased half x < biased half y) (biased half x ≡ biased half y) (biased half y < biased half x) → MatchOrdering r (x <ℤ y) (x ≡ y) (y <ℤ x)
by_signs half (pos a) (pos b) Less p q h = lt_z_yes (lt→ltb a b (omega arith))
by_signs half (pos a) (pos b) Equal p q h = ap pos (omega arith)
by_signs half (pos a) (pos b) Greater p q h = lt_z_yes (lt→ltb b a (omega arith))
by_signs half (pos a) (negsuc b) Less p q h = absurd (omega arith)
by_signs half (pos a) (negsuc b) Equal p q h = absurd (omega arith)
by_signs half (pos a) (negsuc b) Greater p q h = lt_z_yes tt
by_signs half (negsuc a) (pos b) Less p q h = lt_z_yes tt
by_signs half (negsuc a) (pos b) Equal p q h = absurd (omega arith)
by_signs half (negsuc a) (pos b) Greater p q h = absurd (omega arith)
by_signs half (negsuc a) (negsuc b) Less p q h = lt_z_yes (lt→ltb b a (omega arith))
by_signs half (negsuc a) (negsuc b) Equal p q h = ap negsuc (omega arith)
by_signs half (negsuc a) (negsuc b) Greater p q h = lt_z_yes (lt→ltb a b (omega arith))

biased_cmp : (half : ℕ) (x y : ℤ) → IsWithin half x → IsWithin half y → nat_cmp (biased half x) (biased half y) ≡ int_cmp x y
biased_cmp half x y p q =
    let r = nat_cmp (biased half x) (biased half y) in
    int_cmp_is x y r (by_signs half x y r p q (ranked (biased half x) (biased half y) r refl))

pub within_int : (z : ℤ) → FitsSigned w32 z → IsWithin (2 ^ 31) z
within_int (pos n) h = omega arith
within_int (negsuc n) h = omega arith

pub within_long : (z : ℤ) → FitsSigned w64 z → IsWithin (2 ^ 63) z
within_long (pos n) h = omega arith
within_long (negsuc n) h = omega arith

pub int_order : (x y : ℤ) (s t : List ℕ) → FitsSigned w32 x → FitsSigned w32 y → slice_cmp nat_cmp (to_be_bytes w32 (biased (2 ^ 31) x) ++ s) (to_be_bytes w32 (biased (2 ^ 31) y) ++ t) ≡ ordering_then (int_cmp x y) (slice_cmp nat_cmp s t)
int_order x y s t p q =
    whole_order 4 (biased (2 ^ 31) x) (biased (2 ^ 31) y) s t (biased_below (2 ^ 31) x (within_int x p)) (biased_below (2 ^ 31) y (within_int y q))
    ∙ ap (λ r. ordering_then r (slice_cmp nat_cmp s t)) (biased_cmp (2 ^ 31) x y (within_int x p) (within_int y q))

pub long_order : (x y : ℤ) (s t : List ℕ) → FitsSigned w64 x → FitsSigned w64 y → slice_cmp nat_cmp (to_be_bytes w64 (biased (2 ^ 63) x) ++ s) (to_be_bytes w64 (biased (2 ^ 63) y) ++ t) ≡ ordering_then (int_cmp x y) (slice_cmp nat_cmp s t)
long_order x y s t p q =
    whole_order 8 (biased (2 ^ 63) x) (biased (2 ^ 63) y) s t (biased_below (2 ^ 63) x (within_long x p)) (biased_below (2 ^ 63) y (within_long y q))
    ∙ ap (λ r. ordering_then r (slice_cmp nat_cmp s t)) (biased_cmp (2 ^ 63) x y (within_long x p) (within_long y q))
