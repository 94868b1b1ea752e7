-- Slots whose fronts are right stand as what they find, also slots in different bytes.
use Rattle.std.proofs.Common.{◌≡◌, ◌<◌, ◌-◌, ℕ, List, map, length, take, drop, min, refl, sym, ◌∙◌, ap}
use Rattle.std.proofs.Math.Nat.{min_comm}
use Rattle.std.proofs.lemmas.List.{length-drop, length-take}
use Rattle.std.specs.Prelude.{IsPermutation}
use Rattle.std.specs.List.{AllByRecursion}
use Rattle.std.specs.List.Sorted.{IsSortedBy}
use Rattle.std.specs.Ordering.{ordering_then, nat_cmp, is_lt}
use Rattle.std.specs.declared.cmp.Ordering.{Ordering}
use Rattle.std.specs.declared.cmp.Ordering.TheVariants.{Less, Equal, Greater}
use Rattle.pig_keycode.proofs.Unique.{same_bytes}
use Rattle.pig_value.specs.Leaves.{AreBytes}
use Rattle.pig_value.specs.Orders.{text_cmp}
use Rattle.pig_value.specs.Sorts.{sort}
use Rattle.pig_value.proofs.list_laws.Listing.{each-take, each-drop}
use Rattle.pig_runs.specs.declared.slots.Slot.{Slot}
use Rattle.pig_runs.specs.Fronts.{Fronted, front, front_cmp, front_len, fronted_cmp, side_of, sided_cmp, told_len, untold}
use Rattle.pig_runs.specs.Packed.{found_at, fronted_at, fronted_entry_cmp, fronted_key, fronted_row, packed_cmp, part, row_at, sided_at, IsPlaced}
use Rattle.pig_runs.proofs.Adding.{part_len}
use Rattle.pig_runs.proofs.ByFronts.{items_sorted}
use Rattle.pig_runs.proofs.FrontOrder.{front_order}
use Rattle.pig_runs.proofs.Sides.{row_order}

-- a text with the front and the length that it has
record IsFronted (p : Fronted) : Type 0 where
  front : p.front ≡ front p.text
  len : p.len ≡ length p.text
  bytes : AreBytes p.text

len_is : (p : Fronted) → IsFronted p → min p.len front_len ≡ length (take front_len p.text)
len_is p h = ap (λ n. min n front_len) h.len ∙ (min_comm (length p.text) front_len ∙ sym (length-take front_len p.text))

text_fronted : (p q : Fronted) → IsFronted p → IsFronted q → fronted_cmp p q ≡ text_cmp p.text q.text
text_fronted p q h k =
    (λ i. ordering_then (front_cmp (h.front i) (k.front i)) (ordering_then (nat_cmp (len_is p h i) (len_is q k i)) (text_cmp (drop front_len p.text) (drop front_len q.text))))
    ∙ front_order p.text q.text h.bytes k.bytes

part_bytes : (bytes : List ℕ) → AreBytes bytes → (at len : ℕ) → AreBytes (part bytes at len)
part_bytes bytes small at len = each-take (λ b. b < 256) len _ (each-drop (λ b. b < 256) at bytes small)

untold_bytes : (side len : ℕ) (row : List ℕ) → AreBytes row → AreBytes (untold side len row)
untold_bytes side len row h = each-drop (λ b. b < 256) (told_len side len) row h

is_key : (bytes : List ℕ) (s : Slot) → AreBytes bytes → IsPlaced bytes s → IsFronted (fronted_key bytes s)
is_key bytes s small h = record {
  front = h.fronts.key;
  len = sym (part_len bytes s.at s.key_len h.within.key);
  bytes = part_bytes bytes small s.at s.key_len;
}

is_row : (bytes : List ℕ) (s : Slot) → AreBytes bytes → IsPlaced bytes s → IsFronted (fronted_row bytes s)
is_row bytes s small h =
    let row : List ℕ = part bytes (row_at s) s.row_len in
    let told : ℕ = told_len s.side s.key_len in
    record {
      front = h.fronts.row;
      len = sym (length-drop told row ∙ ap (λ n. n - told) (part_len bytes (row_at s) s.row_len h.within.row));
      bytes = untold_bytes s.side s.key_len row (part_bytes bytes small (row_at s) s.row_len);
    }

-- rows under one key
rows_sided : (bytes with : List ℕ) (s t : Slot) → AreBytes bytes → AreBytes with → IsPlaced bytes s → IsPlaced with t → part bytes s.at s.key_len ≡ part with t.at t.key_len
    → sided_cmp (sided_at bytes s) (sided_at with t) ≡ text_cmp (part bytes (row_at s) s.row_len) (part with (row_at t) t.row_len)
rows_sided bytes with s t small little h k same =
    let key : List ℕ = part bytes s.at s.key_len in
    let row : List ℕ = part bytes (row_at s) s.row_len in
    let other : List ℕ = part with (row_at t) t.row_len in
    let len : s.key_len ≡ length key = sym (part_len bytes s.at s.key_len h.within.key) in
    let other_len : t.key_len ≡ length key = sym (part_len with t.at t.key_len k.within.key) ∙ ap length (sym same) in
    let side : s.side ≡ side_of key row = h.fronts.side in
    let other_side : t.side ≡ side_of key other = k.fronts.side ∙ ap (λ key. side_of key other) (sym same) in
    ap (ordering_then (nat_cmp s.side t.side))
    (text_fronted (fronted_row bytes s) (fronted_row with t) (is_row bytes s small h) (is_row with t little k))
    ∙ ((λ i. ordering_then (nat_cmp (side i) (other_side i)) (text_cmp (untold (side i) (len i) row) (untold (other_side i) (other_len i) other)))
    ∙ row_order key row other)

where_equal : (q r u : Ordering) → (q ≡ Equal → r ≡ u) → ordering_then q r ≡ ordering_then q u
where_equal Less r u f = refl
where_equal Equal r u f = f refl
where_equal Greater r u f = refl

pub apart_order : (bytes with : List ℕ) (s t : Slot) → AreBytes bytes → AreBytes with → IsPlaced bytes s → IsPlaced with t
    → fronted_entry_cmp (fronted_at bytes s) (fronted_at with t) ≡ packed_cmp (found_at bytes s) (found_at with t)
apart_order bytes with s t small little h k =
    let key = text_fronted (fronted_key bytes s) (fronted_key with t) (is_key bytes s small h) (is_key with t little k) in
    ap (λ o. ordering_then o (ordering_then (nat_cmp s.input t.input) (sided_cmp (sided_at bytes s) (sided_at with t)))) key
    ∙ where_equal (text_cmp (part bytes s.at s.key_len) (part with t.at t.key_len)) (ordering_then (nat_cmp s.input t.input) (sided_cmp (sided_at bytes s) (sided_at with t)))
    (ordering_then (nat_cmp s.input t.input) (text_cmp (part bytes (row_at s) s.row_len) (part with (row_at t) t.row_len)))
    (λ same. ap (ordering_then (nat_cmp s.input t.input)) (rows_sided bytes with s t small little h k (same_bytes (part bytes s.at s.key_len) (part with t.at t.key_len) same)))

module _ (bytes : List ℕ) (small : AreBytes bytes) where
  pub one_order : (s t : Slot) → IsPlaced bytes s → IsPlaced bytes t → fronted_entry_cmp (fronted_at bytes s) (fronted_at bytes t) ≡ packed_cmp (found_at bytes s) (found_at bytes t)
  one_order s t h k = apart_order bytes bytes s t small small h k

  -- slots that are sorted by a sort of std
  pub slots_sorted : (slots done : List Slot) → AllByRecursion (IsPlaced bytes) slots → IsPermutation slots done
      → IsSortedBy (λ x y. is_lt (fronted_entry_cmp (fronted_at bytes x) (fronted_at bytes y))) done → map (found_at bytes) done ≡ sort packed_cmp (map (found_at bytes) slots)
  slots_sorted slots done placed moved sorted = items_sorted (fronted_at bytes) (found_at bytes) (IsPlaced bytes) one_order slots done placed moved sorted
