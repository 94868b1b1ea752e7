-- Entries kept as bytes: what stands there for each, and that it tells the entries.
use Rattle.std.specs.Prelude.{◌≡◌, ◌≤◌, ◌+◌, ◌-◌, ℕ, List, [], ◌∷◌, map, length, take, drop, refl}
use Rattle.std.proofs.Common.{sym, ◌∙◌, ap}
use Rattle.std.specs.Ordering.{ordering_then, nat_cmp}
use Rattle.std.specs.declared.cmp.Ordering.{Ordering}
use Rattle.std.specs.Coded.{Coded, Coded-set, code_by, coded×, coded_ℕ, coded_list, ×_prop}
use Rattle.std.proofs.Math.Logic.{∥∥₁_prop, ∥∥₁_elim}
use mathlib.Core.HLevel.{Σ_prop_path}
use Rattle.std.specs.List.{AllByRecursion, flat_map}
use Rattle.pig_value.specs.Gathering.{Entry}
use Rattle.pig_value.specs.Orders.{text_cmp}
use Rattle.pig_value.specs.Sorts.{Ascends}
use Rattle.pig_value.specs.declared.operators.Dir.{Dir}
use Rattle.pig_keycode.specs.Keys.{key_code}
use Rattle.pig_keycode.specs.Reading.{row_code}
use Rattle.pig_keycode.proofs.KeyOrder.{one_key}
use Rattle.pig_keycode.proofs.Wholes.{one_row}
use Rattle.pig_runs.specs.declared.lent.Lent.{Lent}
use Rattle.pig_runs.specs.declared.slots.Slot.{Slot}
use Rattle.pig_runs.specs.Entries.{IsEntry, AreKeyed, coded_entry}
use Rattle.pig_runs.specs.Fronts.{Fronted, Sided, front, fronted_cmp, side_of, sided_cmp, told_len, untold}

-- an entry as bytes: the code of its key, the number of its input, the code of its row
pub record Packed : Type 0 where
  pub key : List ℕ
  pub input : ℕ
  pub row : List ℕ

abbrev pub packed : List Dir → Entry → Packed
packed ds e = record { key = key_code ds e.key; input = e.input; row = row_code e.row }

-- lent bytes of an entry
abbrev pub packed_lent : Lent → Packed
packed_lent l = record { key = l.key.now; input = l.input; row = l.row.now }

-- part by part, as bytes
abbrev pub packed_cmp : Packed → Packed → Ordering
packed_cmp p q = ordering_then (text_cmp p.key q.key) (ordering_then (nat_cmp p.input q.input) (text_cmp p.row q.row))

-- so many bytes from a place on
abbrev pub part : List ℕ → ℕ → ℕ → List ℕ
part bytes at len = take len (drop at bytes)

-- where the code of a slot's row begins: right behind that of its key
abbrev pub row_at : Slot → ℕ
row_at s = s.at + s.key_len

-- what a slot finds in the bytes
abbrev pub found_at : List ℕ → Slot → Packed
found_at bytes s = record { key = part bytes s.at s.key_len; input = s.input; row = part bytes (row_at s) s.row_len }

-- the slot of an entry whose bytes are appended to so many
abbrev pub slot_of : ℕ → List ℕ → List ℕ → ℕ → Slot
slot_of size key row input = record {
  key_front = front key;
  row_front = front (untold (side_of key row) (length key) row);
  side = side_of key row;
  at = size;
  key_len = length key;
  row_len = length row;
  input = input;
}

-- a slot whose bytes are moved behind so many others
abbrev pub moved : ℕ → Slot → Slot
moved base s = record {
  key_front = s.key_front;
  row_front = s.row_front;
  side = s.side;
  at = base + s.at;
  key_len = s.key_len;
  row_len = s.row_len;
  input = s.input;
}

-- both places of a slot lie within so many bytes
pub record IsWithin (size : ℕ) (s : Slot) : Type 0 where
  pub key : s.at + s.key_len ≤ size
  pub row : row_at s + s.row_len ≤ size

-- the bytes of a slot's row that its side doesn't tell, and how many these are
abbrev pub row_untold : List ℕ → Slot → List ℕ
row_untold bytes s = untold s.side s.key_len (part bytes (row_at s) s.row_len)

abbrev pub untold_len : Slot → ℕ
untold_len s = s.row_len - told_len s.side s.key_len

-- the fronts of a slot are those of what it finds
pub record HasFronts (bytes : List ℕ) (s : Slot) : Type 0 where
  pub key : s.key_front ≡ front (part bytes s.at s.key_len)
  pub side : s.side ≡ side_of (part bytes s.at s.key_len) (part bytes (row_at s) s.row_len)
  pub row : s.row_front ≡ front (row_untold bytes s)

-- a slot of the bytes
pub record IsPlaced (bytes : List ℕ) (s : Slot) : Type 0 where
  pub within : IsWithin (length bytes) s
  pub fronts : HasFronts bytes s

-- slots of the bytes that are sorted by what they find
pub record IsPart (bytes : List ℕ) (slots : List Slot) : Type 0 where
  pub placed : AllByRecursion (IsPlaced bytes) slots
  pub sorted : Ascends packed_cmp (map (found_at bytes) slots)

-- lists, one behind another
abbrev pub joined : List (List Slot) → List Slot
joined lists = flat_map (λ slots. slots) lists

-- an entry as bytes with the fronts of its key and its row
pub record FrontedEntry : Type 0 where
  pub key : Fronted
  pub input : ℕ
  pub row : Sided

abbrev pub fronted_entry_cmp : FrontedEntry → FrontedEntry → Ordering
fronted_entry_cmp p q = ordering_then (fronted_cmp p.key q.key) (ordering_then (nat_cmp p.input q.input) (sided_cmp p.row q.row))

abbrev pub fronted_key : List ℕ → Slot → Fronted
fronted_key bytes s = record { front = s.key_front; len = s.key_len; text = part bytes s.at s.key_len }

abbrev pub fronted_row : List ℕ → Slot → Fronted
fronted_row bytes s = record { front = s.row_front; len = untold_len s; text = row_untold bytes s }

abbrev pub sided_at : List ℕ → Slot → Sided
sided_at bytes s = record { side = s.side; rest = fronted_row bytes s }

abbrev pub fronted_at : List ℕ → Slot → FrontedEntry
fronted_at bytes s = record { key = fronted_key bytes s; input = s.input; row = sided_at bytes s }

-- ---- the bytes tell the entries

abbrev parts_of : Packed → List ℕ × (ℕ × List ℕ)
parts_of p = (p.key, (p.input, p.row))

abbrev of_parts : List ℕ × (ℕ × List ℕ) → Packed
of_parts p = record { key = p.0; input = p.1.0; row = p.1.1 }

abbrev pub coded_packed : Coded Packed
coded_packed = code_by (List ℕ × (ℕ × List ℕ)) (coded× (coded_list coded_ℕ) (coded× coded_ℕ (coded_list coded_ℕ))) parts_of of_parts (λ _. refl)

pub entry_told : (ds : List Dir) (e f : Entry) → IsEntry ds e → IsEntry ds f → packed ds e ≡ packed ds f → e ≡ f
entry_told ds e f h k same =
    let key : e.key ≡ f.key = one_key ds e.key f.key h.key k.key (ap (λ p. p.key) same) in
    let input : e.input ≡ f.input = ap (λ p. p.input) same in
    let row : e.row ≡ f.row = one_row e.row f.row h.row k.row (ap (λ p. p.row) same) in
    λ i. record { key = key i; input = input i; row = row i }

abbrev first_or : Packed → List Packed → Packed
first_or p [] = p
first_or p (q ∷ ps) = q

abbrev behind : List Packed → List Packed
behind [] = []
behind (p ∷ ps) = ps

pub entries_told : (ds : List Dir) (es fs : List Entry) → AreKeyed ds es → AreKeyed ds fs → map (packed ds) es ≡ map (packed ds) fs → es ≡ fs
entries_told ds [] [] h k same = refl
entries_told ds [] (f ∷ fs) h k same = absurd (cc)
entries_told ds (e ∷ es) [] h k same = absurd (cc)
entries_told ds (e ∷ es) (f ∷ fs) h k same =
    let head = entry_told ds e f h.0 k.0 (ap (first_or (packed ds e)) same) in
    let tail = entries_told ds es fs h.1 k.1 (ap behind same) in
    λ i. head i ∷ tail i

-- the bytes are those of these entries, which are of values
pub record Stand (ds : List Dir) (es : List Entry) (ps : List Packed) : Type 0 where
  pub good : ∥ AreKeyed ds es ∥₁
  pub told : map (packed ds) es ≡ ps

-- sorted lists of slots, of which all together are those of entries
pub record Joins (ds : List Dir) (es : List Entry) (bytes : List ℕ) (lists : List (List Slot)) : Type 0 where
  pub stand : Stand ds es (map (found_at bytes) (joined lists))
  pub parts : AllByRecursion (IsPart bytes) lists

-- the entries that bytes stand for
abbrev pub Held : List Dir → List Packed → Type 0
Held ds ps = (es : List Entry) × (∥ AreKeyed ds es ∥₁ × (map (packed ds) es ≡ ps))

pub held_prop : (ds : List Dir) (ps : List Packed) → IsProp (Held ds ps)
held_prop ds ps x y =
    Σ_prop_path {A = List Entry} {B = λ es. ∥ AreKeyed ds es ∥₁ × (map (packed ds) es ≡ ps)}
    (λ es. ×_prop ∥∥₁_prop (Coded-set (coded_list coded_packed) (map (packed ds) es) ps)) {u = x} {v = y}
    (∥∥₁_elim x.1.0 (Coded-set (coded_list coded_entry) x.0 y.0) (λ h. ∥∥₁_elim y.1.0 (Coded-set (coded_list coded_entry) x.0 y.0) (λ k. entries_told ds x.0 y.0 h k (x.1.1 ∙ sym y.1.1))))
