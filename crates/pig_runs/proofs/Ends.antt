-- Texts that end within their fronts: there are no bytes behind these.
use Rattle.std.proofs.Common.{◌≡◌, ◌≤◌, ℕ, true, List, [], length, drop, sym, subst, arith}
use Rattle.std.specs.Prelude.{max, nat_le}
use Rattle.std.specs.declared.cmp.Ordering.TheVariants.{Equal}
use Rattle.std.proofs.Math.Nat.{le-max_left, le-max_right, min-le_left}
use Rattle.std.proofs.lemmas.Bool.{leb-true}
use Rattle.std.proofs.lemmas.List.{drop_all, length-drop, length-take}
use Rattle.pig_value.specs.Orders.{text_cmp}
use Rattle.pig_runs.specs.declared.slots.Slot.{Slot}
use Rattle.pig_runs.specs.Fronts.{front_len, told_len}
use Rattle.pig_runs.specs.Packed.{part, row_at, row_untold, untold_len}

-- two texts that are no longer than these lengths, none of which is greater than that of a front
ended : (s t : List ℕ) (m n : ℕ) → length s ≤ m → length t ≤ n → nat_le (max m n) front_len ≡ true → Equal ≡ text_cmp (drop front_len s) (drop front_len t)
ended s t m n h k within =
    let both : max m n ≤ front_len = leb-true (max m n) front_len within in
    let one : m ≤ max m n = le-max_left m n in
    let other : n ≤ max m n = le-max_right m n in
    let first : drop front_len s ≡ [] = drop_all front_len s (omega (arith, h, one, both)) in
    let second : drop front_len t ≡ [] = drop_all front_len t (omega (arith, k, other, both)) in
    λ i. text_cmp (sym first i) (sym second i)

part_short : (bytes : List ℕ) (at len : ℕ) → length (part bytes at len) ≤ len
part_short bytes at len = subst (λ n. n ≤ len) (sym (length-take len (drop at bytes))) (min-le_left len (length (drop at bytes)))

untold_short : (bytes : List ℕ) (s : Slot) → length (row_untold bytes s) ≤ untold_len s
untold_short bytes s =
    let short = part_short bytes (row_at s) s.row_len in
    let left = length-drop (told_len s.side s.key_len) (part bytes (row_at s) s.row_len) in
    omega (arith, short, left)

pub keys_end : (bytes with : List ℕ) (s t : Slot) → nat_le (max s.key_len t.key_len) front_len ≡ true
    → Equal ≡ text_cmp (drop front_len (part bytes s.at s.key_len)) (drop front_len (part with t.at t.key_len))
keys_end bytes with s t within =
    ended (part bytes s.at s.key_len) (part with t.at t.key_len) s.key_len t.key_len (part_short bytes s.at s.key_len) (part_short with t.at t.key_len) within

pub rows_end : (bytes with : List ℕ) (s t : Slot) → nat_le (max (untold_len s) (untold_len t)) front_len ≡ true
    → Equal ≡ text_cmp (drop front_len (row_untold bytes s)) (drop front_len (row_untold with t))
rows_end bytes with s t within = ended (row_untold bytes s) (row_untold with t) (untold_len s) (untold_len t) (untold_short bytes s) (untold_short with t) within
