-- Places of entries in several stretches of runs, and what they find.
use Rattle.std.specs.Prelude.{ℕ, ◌+◌, List, [], ◌∷◌, map, length, Option, Some, None, get_or, slice_get}
use Rattle.std.specs.List.{AllByRecursion, flat_map, range_with_len}
use Rattle.pig_value.specs.Leaves.{AreBytes}
use Rattle.pig_runs.specs.declared.slots.Slot.{Slot}
use Rattle.pig_runs.specs.declared.stretches.Head.{Head}
use Rattle.pig_runs.specs.declared.stretches.Place.{Place}
use Rattle.pig_runs.specs.declared.stretches.Stretch.{Stretch}
use Rattle.pig_runs.specs.Packed.{FrontedEntry, IsPart, Packed, found_at, fronted_at}

-- the bytes and the slots of a stretch, and none where there is no stretch
abbrev pub bytes_in : Option Stretch → List ℕ
bytes_in None = []
bytes_in (Some s) = s.bytes.now

abbrev pub slots_in : Option Stretch → List Slot
slots_in None = []
slots_in (Some s) = s.slots.now

-- what a place shows that is none
abbrev pub no_slot : Slot
no_slot = record {
  key_front = record { high = 0; low = 0 };
  row_front = record { high = 0; low = 0 };
  side = 0;
  at = 0;
  key_len = 0;
  row_len = 0;
  input = 0;
}

-- the slot of a place, and the bytes in which it stands
abbrev pub bytes_of : List Stretch → Place → List ℕ
bytes_of stretches p = bytes_in (slice_get stretches p.stretch)

abbrev pub slot_of : List Stretch → Place → Slot
slot_of stretches p = get_or (slots_in (slice_get stretches p.stretch)) p.slot no_slot

-- what a place finds, and a slot with its place, the same with fronts
abbrev pub found_place : List Stretch → Place → Packed
found_place stretches p = found_at (bytes_of stretches p) (slot_of stretches p)

abbrev pub found_head : List Stretch → Head → Packed
found_head stretches h = found_at (bytes_of stretches h.place) h.slot

abbrev pub fronted_head : List Stretch → Head → FrontedEntry
fronted_head stretches h = fronted_at (bytes_of stretches h.place) h.slot

-- the slots of a stretch, which are numbered from one on, with their places
abbrev pub heads_from : ℕ → ℕ → List Slot → List Head
heads_from stretch slot [] = []
heads_from stretch slot (s ∷ slots) = record { slot = s; place = record { stretch = stretch; slot = slot } } ∷ heads_from stretch (slot + 1) slots

-- those of each stretch
abbrev pub lists_of_heads : List Stretch → List (List Head)
lists_of_heads stretches = map (λ i. heads_from i 0 (slots_in (slice_get stretches i))) (range_with_len 0 (length stretches))

-- ---- stretches of sorted runs

-- the slots are sorted by what they find
pub record IsStretch (s : Stretch) : Type 0 where
  pub part : IsPart s.bytes.now s.slots.now
  pub bytes : AreBytes s.bytes.now

abbrev pub AreStretches : List Stretch → Type 0
AreStretches = AllByRecursion IsStretch

-- what the slots of a stretch find, and those of all stretches
abbrev pub found_in : Stretch → List Packed
found_in s = map (found_at s.bytes.now) s.slots.now

abbrev pub found_in_all : List Stretch → List Packed
found_in_all = flat_map found_in
