-- Bytes of more entries behind those of others, and what the slots then find.
use Rattle.std.proofs.Common.{◌≡◌, ◌≤◌, ◌+◌, ◌-◌, ℕ, List, [], ◌∷◌, ◌++◌, map, length, take, drop, refl, sym, ◌∙◌, ap, subst, arith}
use Rattle.std.specs.Prelude.{OnOk, OnErr, Result, Ok, Err}
use Rattle.std.specs.List.{AllByRecursion}
use Rattle.std.proofs.Math.Logic.{∥∥₁_map₂}
use Rattle.std.proofs.Math.Seq.{drop-append_seam, drop-append-add, take-append_seam}
use Rattle.std.proofs.lemmas.List.{append-nil, length-append, length-drop, length-take-le, drop-append-le, take-append-le, map-append}
use Rattle.pig_value.specs.Gathering.{Entry}
use Rattle.pig_value.specs.declared.operators.Dir.{Dir}
use Rattle.pig_value.proofs.list_laws.Listing.{each-append, each_weaker}
use Rattle.pig_runs.specs.declared.slots.Slot.{Slot}
use Rattle.pig_runs.specs.Entries.{IsEntry, AreKeyed, InDirections, and_entries}
use Rattle.pig_runs.specs.Fronts.{front, side_of, untold}
use Rattle.pig_runs.specs.Packed.{Packed, packed, part, found_at, row_at, slot_of, moved, IsPlaced, Held, held_prop}

pub part_len : (bytes : List ℕ) (at len : ℕ) → at + len ≤ length bytes → length (part bytes at len) ≡ len
part_len bytes at len within = length-take-le len (drop at bytes) (let left = length-drop at bytes in omega (arith, within, left))

pub part_kept : (bytes more : List ℕ) (at len : ℕ) → at + len ≤ length bytes → part (bytes ++ more) at len ≡ part bytes at len
part_kept bytes more at len h =
    ap (take len) (drop-append-le at bytes more (omega (arith, h)))
    ∙ take-append-le len (drop at bytes) more (let left = length-drop at bytes in omega (arith, h, left))

first_part : (bytes key row : List ℕ) → part (bytes ++ (key ++ row)) (length bytes) (length key) ≡ key
first_part bytes key row = ap (take (length key)) (drop-append_seam bytes (key ++ row)) ∙ take-append_seam key row

second_part : (bytes key row : List ℕ) → part (bytes ++ (key ++ row)) (length bytes + length key) (length row) ≡ row
second_part bytes key row =
    ap (take (length row)) (drop-append-add bytes (key ++ row) (length key) ∙ drop-append_seam key row)
    ∙ (ap (take (length row)) (sym (append-nil row)) ∙ take-append_seam row [])

-- the slot of an entry whose codes end the bytes
pub slot_last : (bytes key row whole : List ℕ) (at middle input : ℕ) → at ≡ length bytes → middle ≡ length bytes + length key
    → whole ≡ bytes ++ (key ++ row) → slot_of at (part whole at (middle - at)) (drop middle whole) input ≡ slot_of (length bytes) key row input
slot_last bytes key row whole at middle input begins ends is =
    let len : middle - at ≡ length key = omega (arith, begins, ends) in
    let first : part whole at (middle - at) ≡ key = (λ i. part (is i) (begins i) (len i)) ∙ first_part bytes key row in
    let second : drop middle whole ≡ row = (λ i. drop (ends i) (is i)) ∙ (drop-append-add bytes (key ++ row) (length key) ∙ drop-append_seam key row) in
    λ i. slot_of (begins i) (first i) (second i) input

found_kept : (bytes more : List ℕ) (s : Slot) → IsPlaced bytes s → found_at (bytes ++ more) s ≡ found_at bytes s
found_kept bytes more s h =
    let key = part_kept bytes more s.at s.key_len h.within.key in
    let row = part_kept bytes more (row_at s) s.row_len h.within.row in
    λ i. record { key = key i; input = s.input; row = row i }

pub all_kept : (bytes more : List ℕ) (slots : List Slot) → AllByRecursion (IsPlaced bytes) slots → map (found_at (bytes ++ more)) slots ≡ map (found_at bytes) slots
all_kept bytes more [] h = refl
all_kept bytes more (s ∷ slots) h = let one = found_kept bytes more s h.0 in let rest = all_kept bytes more slots h.1 in λ i. one i ∷ rest i

pub found_new : (bytes key row : List ℕ) (input : ℕ) → found_at (bytes ++ (key ++ row)) (slot_of (length bytes) key row input) ≡ record { key = key; input = input; row = row }
found_new bytes key row input =
    let first = first_part bytes key row in
    let second = second_part bytes key row in
    λ i. record { key = first i; input = input; row = second i }

-- a slot that is moved behind other bytes finds there what it found
moved_part : (bytes more : List ℕ) (at len : ℕ) → part (bytes ++ more) (length bytes + at) len ≡ part more at len
moved_part bytes more at len = ap (take len) (drop-append-add bytes more at)

moved_row : (bytes more : List ℕ) (s : Slot) → part (bytes ++ more) (row_at (moved (length bytes) s)) s.row_len ≡ part more (row_at s) s.row_len
moved_row bytes more s =
    let place : length bytes + s.at + s.key_len ≡ length bytes + (s.at + s.key_len) = omega arith in
    ap (λ at. part (bytes ++ more) at s.row_len) place ∙ moved_part bytes more (row_at s) s.row_len

pub all_moved : (bytes more : List ℕ) (slots : List Slot) → map (found_at (bytes ++ more)) (map (moved (length bytes)) slots) ≡ map (found_at more) slots
all_moved bytes more [] = refl
all_moved bytes more (s ∷ slots) =
    let key = moved_part bytes more s.at s.key_len in
    let row = moved_row bytes more s in
    let rest = all_moved bytes more slots in
    λ i. record { key = key i; input = s.input; row = row i } ∷ rest i

one_moved : (bytes more : List ℕ) (s : Slot) → IsPlaced more s → IsPlaced (bytes ++ more) (moved (length bytes) s)
one_moved bytes more s h =
    let longer = length-append bytes more in
    record {
      within = record { key = omega (arith, h.within.key, longer); row = omega (arith, h.within.row, longer) };
      fronts = record {
        key = h.fronts.key ∙ ap front (sym (moved_part bytes more s.at s.key_len));
        side = h.fronts.side ∙ (λ i. side_of (sym (moved_part bytes more s.at s.key_len) i) (sym (moved_row bytes more s) i));
        row = h.fronts.row ∙ ap (λ row. front (untold s.side s.key_len row)) (sym (moved_row bytes more s));
      };
    }

pub moved_placed : (bytes more : List ℕ) (slots : List Slot) → AllByRecursion (IsPlaced more) slots → AllByRecursion (IsPlaced (bytes ++ more)) (map (moved (length bytes)) slots)
moved_placed bytes more [] h = tt
moved_placed bytes more (s ∷ slots) h = (one_moved bytes more s h.0, moved_placed bytes more slots h.1)

one_kept : (bytes more : List ℕ) (s : Slot) → IsPlaced bytes s → IsPlaced (bytes ++ more) s
one_kept bytes more s h =
    let longer = length-append bytes more in
    let key = part_kept bytes more s.at s.key_len h.within.key in
    let row = part_kept bytes more (row_at s) s.row_len h.within.row in
    record {
      within = record { key = omega (arith, h.within.key, longer); row = omega (arith, h.within.row, longer) };
      fronts = record {
        key = h.fronts.key ∙ ap front (sym key);
        side = h.fronts.side ∙ (λ i. side_of (sym key i) (sym row i));
        row = h.fronts.row ∙ ap (λ row. front (untold s.side s.key_len row)) (sym row);
      };
    }

pub placed_more : (bytes more : List ℕ) (slots : List Slot) → AllByRecursion (IsPlaced bytes) slots → AllByRecursion (IsPlaced (bytes ++ more)) slots
placed_more bytes more slots h = each_weaker (IsPlaced bytes) (IsPlaced (bytes ++ more)) (one_kept bytes more) slots h

pub new_placed : (bytes key row : List ℕ) (input : ℕ) → AllByRecursion (IsPlaced (bytes ++ (key ++ row))) (slot_of (length bytes) key row input ∷ [])
new_placed bytes key row input =
    let outer = length-append bytes (key ++ row) in
    let inner = length-append key row in (
      record {
        within = record { key = omega (arith, outer, inner); row = omega (arith, outer, inner) };
        fronts = record {
          key = ap front (sym (first_part bytes key row));
          side = λ i. side_of (sym (first_part bytes key row) i) (sym (second_part bytes key row) i);
          row = ap (λ r. front (untold (side_of key row) (length key) r)) (sym (second_part bytes key row));
        };
      },
      tt,
    )

-- the entries that slots at the end find
abbrev pub Finds : List Dir → List ℕ → List Slot → List Entry → Type 0
Finds ds bytes slots es = ∥ AreKeyed ds es ∥₁ × (map (found_at bytes) slots ≡ map (packed ds) es)

pub finds_new : (ds : List Dir) (bytes : List ℕ) (e : Entry) → IsEntry ds e
    → Finds ds (bytes ++ ((packed ds e).key ++ (packed ds e).row)) (slot_of (length bytes) (packed ds e).key (packed ds e).row e.input ∷ []) (e ∷ [])
finds_new ds bytes e good = (∣ (good, tt) ∣₁, (let found = found_new bytes (packed ds e).key (packed ds e).row e.input in λ i. found i ∷ []))

-- the same of an entry that is lent
pub finds_lent : (ds : List Dir) (bytes : List ℕ) (p : Packed) (one : Held ds (p ∷ []))
    → Finds ds (bytes ++ (p.key ++ p.row)) (slot_of (length bytes) p.key p.row p.input ∷ []) one.0
finds_lent ds bytes p one = (one.1.0, (let found = found_new bytes p.key p.row p.input in (λ i. found i ∷ []) ∙ sym one.1.1))

-- ---- what an addition leaves

module _ (ds : List Dir) (fs : List Entry) (old new more : List ℕ) (slots grown added : List Slot) where
  grown_found : new ≡ old ++ more → grown ≡ slots ++ added → AllByRecursion (IsPlaced old) slots → map (found_at (old ++ more)) added ≡ map (packed ds) fs
      → map (found_at new) grown ≡ map (found_at old) slots ++ map (packed ds) fs
  grown_found bytes both placed found =
      (λ i. map (found_at (bytes i)) (both i))
      ∙ (map-append (found_at (old ++ more)) slots added ∙ (let kept = all_kept old more slots placed in λ i. kept i ++ found i))

  pub held_after : {T E : Type 0} (r : Result T E) → Finds ds (old ++ more) added fs → AllByRecursion (IsPlaced old) slots → Held ds (map (found_at old) slots)
      → OnOk r (new ≡ old ++ more) → OnOk r (grown ≡ slots ++ added) → OnErr r (new ≡ old) → OnErr r (grown ≡ slots) → Held ds (map (found_at new) grown)
  held_after (Ok u) finds placed held bytes both same_bytes same_slots = (
    held.0 ++ fs,
    (
      ∥∥₁_map₂ held.1.0 finds.0 (λ h k. each-append (IsEntry ds) held.0 fs h k),
      map-append (packed ds) held.0 fs ∙ (ap (λ l. l ++ map (packed ds) fs) held.1.1 ∙ sym (grown_found bytes both placed finds.1)),
    ),
  )
  held_after (Err u) finds placed held bytes both same_bytes same_slots = (held.0, (held.1.0, held.1.1 ∙ (λ i. map (found_at (sym same_bytes i)) (sym same_slots i))))

  pub placed_after : {T E : Type 0} (r : Result T E) → AllByRecursion (IsPlaced (old ++ more)) added → AllByRecursion (IsPlaced old) slots
      → OnOk r (new ≡ old ++ more) → OnOk r (grown ≡ slots ++ added) → OnErr r (new ≡ old) → OnErr r (grown ≡ slots) → AllByRecursion (IsPlaced new) grown
  placed_after (Ok u) fits placed bytes both same_bytes same_slots =
      subst (λ b. AllByRecursion (IsPlaced b) grown) (sym bytes)
      (subst (AllByRecursion (IsPlaced (old ++ more))) (sym both) (each-append (IsPlaced (old ++ more)) slots added (placed_more old more slots placed) fits))
  placed_after (Err u) fits placed bytes both same_bytes same_slots =
      subst (λ b. AllByRecursion (IsPlaced b) grown) (sym same_bytes) (subst (AllByRecursion (IsPlaced old)) (sym same_slots) placed)

  -- what is seen of the entries after it
  pub seen_after : {T E : Type 0} (r : Result T E) (finds : Finds ds (old ++ more) added fs) (placed : AllByRecursion (IsPlaced old) slots) (held : Held ds (map (found_at old) slots))
      (bytes : OnOk r (new ≡ old ++ more)) (both : OnOk r (grown ≡ slots ++ added)) (same_bytes : OnErr r (new ≡ old)) (same_slots : OnErr r (grown ≡ slots))
      (given : Held ds (map (found_at new) grown)) (b : InDirections) → b ≡ record { dirs = ds; entries = held.0 }
      → OnOk r (record { dirs = ds; entries = given.0 } ≡ and_entries fs b) × OnErr r (record { dirs = ds; entries = given.0 } ≡ b)
  unfolding held_after
  seen_after {T} {E} (Ok u) finds placed held bytes both same_bytes same_slots given b was =
      let after = held_after {T = T} {E = E} (Ok u) finds placed held bytes both same_bytes same_slots in
      let is : given.0 ≡ held.0 ++ fs = ap (λ h. h.0) (held_prop ds (map (found_at new) grown) given after) in
      (ap (λ l. record { dirs = ds; entries = l }) is ∙ ap (and_entries fs) (sym was), tt)
  seen_after {T} {E} (Err u) finds placed held bytes both same_bytes same_slots given b was =
      let after = held_after {T = T} {E = E} (Err u) finds placed held bytes both same_bytes same_slots in
      let is : given.0 ≡ held.0 = ap (λ h. h.0) (held_prop ds (map (found_at new) grown) given after) in
      (tt, ap (λ l. record { dirs = ds; entries = l }) is ∙ sym was)

-- where memory is wanting, what is seen stays
pub seen_same : {T E : Type 0} (ds : List Dir) (old new : List ℕ) (slots grown : List Slot) (r : Result T E) (held : Held ds (map (found_at old) slots))
    → OnErr r (new ≡ old) → OnErr r (grown ≡ slots) → (given : Held ds (map (found_at new) grown)) (b : InDirections) → b ≡ record { dirs = ds; entries = held.0 }
    → OnErr r (record { dirs = ds; entries = given.0 } ≡ b)
seen_same ds old new slots grown (Ok u) held same_bytes same_slots given b was = tt
seen_same ds old new slots grown (Err u) held same_bytes same_slots given b was =
    let after : Held ds (map (found_at new) grown) = (held.0, (held.1.0, held.1.1 ∙ (λ i. map (found_at (sym same_bytes i)) (sym same_slots i)))) in
    let is : given.0 ≡ held.0 = ap (λ h. h.0) (held_prop ds (map (found_at new) grown) given after) in
    ap (λ l. record { dirs = ds; entries = l }) is ∙ sym was
