-- Texts compare as their fronts and then what is behind these.
use Rattle.std.proofs.Common.{◌≡◌, ◌<◌, ◌≤◌, ◌+◌, ◌*◌, ◌^◌, ℕ, zero, suc, List, [], ◌∷◌, length, take, drop, min, refl, arith, sym, ◌∙◌, ap, pow-suc, mul_comm, mul_assoc, zero-mul, zero-add, suc-add, add-mul}
use Rattle.std.proofs.Math.Nat.{pow-le-pow_right}
use Rattle.std.proofs.lemmas.Nat.{mul-le, pow-add}
use Rattle.std.specs.Cmp.{IsTotalOrder, nat_cmp_is}
use Rattle.std.specs.Ordering.{ordering_then, nat_cmp, MatchOrdering}
use Rattle.std.specs.declared.cmp.Ordering.{Ordering}
use Rattle.std.specs.declared.cmp.Ordering.TheVariants.{Less, Equal, Greater}
use Rattle.std.proofs.lemmas.Cmp.{ranked, nat_cmp_total, lists_total, then_total, on_total}
use Rattle.pig_value.specs.Leaves.{AreBytes}
use Rattle.pig_value.specs.Orders.{text_cmp}
use Rattle.pig_value.proofs.list_laws.Listing.{each-drop}
use Rattle.pig_keycode.proofs.NumberOrder.{digits_cmp}
use Rattle.pig_keycode.proofs.TextOrder.{then_assoc}
use Rattle.pig_runs.specs.Fronts.{first_bytes, front, front_cmp, front_len, fronted_cmp, sided_cmp}

unit_above : (k : ℕ) → 0 < 256 ^ k
unit_above k = pow-le-pow_right {n = 256} (omega arith) {i = 0} {j = k} (omega arith)

digit_below : (b n unit : ℕ) → b < 256 → n < unit → b * unit + n < 256 * unit
digit_below b n unit small low =
    let step : suc b * unit ≤ 256 * unit = mul-le (suc b) unit 256 unit (omega (arith, small)) (omega arith) in
    let next : suc b * unit ≡ b * unit + unit = omega arith in
    omega (arith, step, next, low)

first_below : (k : ℕ) (s : List ℕ) → AreBytes s → first_bytes k s < 256 ^ k
first_below zero s h = omega arith
first_below (suc k) [] h = unit_above (suc k)
first_below (suc k) (b ∷ s) h =
    let wider : 256 ^ suc k ≡ 256 * 256 ^ k = pow-suc 256 k ∙ mul_comm (256 ^ k) 256 in
    rw wider (digit_below b (first_bytes k s) (256 ^ k) h.0 (first_below k s h.1))

-- a text that has ended stands before one that goes on, whatever the front of that
none_first : (n m : ℕ) (r : Ordering) → ordering_then (nat_cmp 0 n) (ordering_then (nat_cmp 0 (suc m)) r) ≡ Less
none_first zero m r = ap (λ o. ordering_then o r) (sym (nat_cmp_is 0 (suc m) Less (omega arith)))
none_first (suc n) m r = ap (λ o. ordering_then o (ordering_then (nat_cmp 0 (suc m)) r)) (sym (nat_cmp_is 0 (suc n) Less (omega arith)))

none_last : (n m : ℕ) (r : Ordering) → ordering_then (nat_cmp n 0) (ordering_then (nat_cmp (suc m) 0) r) ≡ Greater
none_last zero m r = ap (λ o. ordering_then o r) (sym (nat_cmp_is (suc m) 0 Greater (omega arith)))
none_last (suc n) m r = ap (λ o. ordering_then o (ordering_then (nat_cmp (suc m) 0) r)) (sym (nat_cmp_is (suc n) 0 Greater (omega arith)))

bumped : (m n : ℕ) (r : Ordering) → MatchOrdering r (m < n) (m ≡ n) (n < m) → MatchOrdering r (suc m < suc n) (suc m ≡ suc n) (suc n < suc m)
bumped m n Less h = omega (arith, h)
bumped m n Equal h = ap suc h
bumped m n Greater h = omega (arith, h)

suc_cmp : (m n : ℕ) → nat_cmp (suc m) (suc n) ≡ nat_cmp m n
suc_cmp m n = sym (nat_cmp_is (suc m) (suc n) (nat_cmp m n) (bumped m n (nat_cmp m n) (ranked m n (nat_cmp m n) refl)))

-- what is compared behind the first so many bytes: how many there are, and the bytes behind them
abbrev pub from_cmp : ℕ → List ℕ → List ℕ → Ordering
from_cmp k s t = ordering_then (nat_cmp (length (take k s)) (length (take k t))) (text_cmp (drop k s) (drop k t))

behind_more : (k b c : ℕ) (s t : List ℕ) → from_cmp (suc k) (b ∷ s) (c ∷ t) ≡ from_cmp k s t
behind_more k b c s t = ap (λ o. ordering_then o (text_cmp (drop k s) (drop k t))) (suc_cmp (length (take k s)) (length (take k t)))

bytes_order : (k : ℕ) (s t : List ℕ) → AreBytes s → AreBytes t → ordering_then (nat_cmp (first_bytes k s) (first_bytes k t)) (from_cmp k s t) ≡ text_cmp s t
bytes_order zero s t h l = refl
bytes_order (suc k) [] [] h l = refl
bytes_order (suc k) [] (c ∷ t) h l = none_first (first_bytes (suc k) (c ∷ t)) (length (take k t)) (text_cmp [] (drop k t))
bytes_order (suc k) (b ∷ s) [] h l = none_last (first_bytes (suc k) (b ∷ s)) (length (take k s)) (text_cmp (drop k s) [])
bytes_order (suc k) (b ∷ s) (c ∷ t) h l =
    ap (ordering_then (nat_cmp (b * 256 ^ k + first_bytes k s) (c * 256 ^ k + first_bytes k t))) (behind_more k b c s t)
    ∙ (ap (λ o. ordering_then o (from_cmp k s t)) (sym (digits_cmp (256 ^ k) b c (first_bytes k s) (first_bytes k t) (first_below k s h.1) (first_below k t l.1)))
    ∙ (then_assoc (nat_cmp b c) (nat_cmp (first_bytes k s) (first_bytes k t)) (from_cmp k s t)
    ∙ ap (ordering_then (nat_cmp b c)) (bytes_order k s t h.1 l.1)))

first_of_none : (k : ℕ) → first_bytes k [] ≡ 0
first_of_none zero = refl
first_of_none (suc k) = refl

-- the first bytes are those up to a place, and then those behind it
first_split : (j k : ℕ) (s : List ℕ) → first_bytes (j + k) s ≡ first_bytes j s * 256 ^ k + first_bytes k (drop j s)
first_split zero k s =
    let whole : first_bytes (0 + k) s ≡ first_bytes k s = ap (λ n. first_bytes n s) (zero-add k) in
    let same : first_bytes k (drop 0 s) ≡ first_bytes k s = refl in
    let none = zero-mul (256 ^ k) in
    omega (arith, whole, same, none)
first_split (suc j) k [] =
    let whole = first_of_none (suc j + k) in
    let none = zero-mul (256 ^ k) in
    let behind : first_bytes k (drop (suc j) []) ≡ 0 = first_of_none k in
    omega (arith, whole, none, behind)
first_split (suc j) k (b ∷ s) =
    let whole : first_bytes (suc j + k) (b ∷ s) ≡ b * 256 ^ (j + k) + first_bytes (j + k) s = ap (λ n. first_bytes n (b ∷ s)) (suc-add j k) in
    let first : first_bytes (suc j) (b ∷ s) ≡ b * 256 ^ j + first_bytes j s = refl in
    let behind : first_bytes k (drop (suc j) (b ∷ s)) ≡ first_bytes k (drop j s) = refl in
    let rest = first_split j k s in
    let unit : b * 256 ^ (j + k) ≡ b * 256 ^ j * 256 ^ k = ap (λ u. b * u) (pow-add 256 j k) ∙ sym (mul_assoc b (256 ^ j) (256 ^ k)) in
    let apart : (b * 256 ^ j + first_bytes j s) * 256 ^ k ≡ b * 256 ^ j * 256 ^ k + first_bytes j s * 256 ^ k = add-mul (b * 256 ^ j) (first_bytes j s) (256 ^ k) in
    omega (arith, whole, first, behind, rest, unit, apart)

-- of texts whose fronts are right
pub front_order : (s t : List ℕ) → AreBytes s → AreBytes t → ordering_then (front_cmp (front s) (front t)) (from_cmp front_len s t) ≡ text_cmp s t
front_order s t h l =
    ap (λ o. ordering_then o (from_cmp front_len s t)) (digits_cmp (256 ^ 8) (first_bytes 8 s) (first_bytes 8 t) (first_bytes 8 (drop 8 s)) (first_bytes 8 (drop 8 t)) (low_below s h) (low_below t l)
    ∙ (λ i. nat_cmp (sym (first_split 8 8 s) i) (sym (first_split 8 8 t) i)))
    ∙ bytes_order front_len s t h l
  where
    low_below : (u : List ℕ) → AreBytes u → first_bytes 8 (drop 8 u) < 256 ^ 8
    low_below u g = first_below 8 (drop 8 u) (each-drop (λ b. b < 256) 8 u g)

pub texts_total : IsTotalOrder text_cmp
texts_total = lists_total nat_cmp_total

fronts_total : IsTotalOrder front_cmp
fronts_total = then_total (on_total (λ p. p.high) nat_cmp_total) (on_total (λ p. p.low) nat_cmp_total)

pub fronted_total : IsTotalOrder fronted_cmp
fronted_total = then_total (on_total (λ p. p.front) fronts_total) (then_total (on_total (λ p. min p.len front_len) nat_cmp_total) (on_total (λ p. drop front_len p.text) texts_total))

pub sided_total : IsTotalOrder sided_cmp
sided_total = then_total (on_total (λ p. p.side) nat_cmp_total) (on_total (λ p. p.rest) fronted_total)
