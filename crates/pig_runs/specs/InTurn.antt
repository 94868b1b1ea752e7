-- Codes within a block of bytes, which are put there in the order of their slots.
use Rattle.std.specs.Prelude.{◌≡◌, map, ℕ, ◌+◌, ◌-◌, List, [], ◌∷◌, Bool, ◌&&◌, ◌||◌, nat_le, if◌then◌else◌}
use Rattle.std.specs.List.{AllByRecursion}
use Rattle.pig_runs.specs.declared.blocks.Block.{Block}
use Rattle.pig_runs.specs.declared.slots.Slot.{Slot}
use Rattle.pig_runs.specs.Packed.{found_at, part, IsPlaced}

-- how many bytes the codes of a slot take
abbrev pub codes_len : Slot → ℕ
codes_len s = s.key_len + s.row_len

-- the codes that a slot finds, that of its row right behind that of its key
abbrev pub codes_at : List ℕ → Slot → List ℕ
codes_at bytes s = part bytes s.at (codes_len s)

-- whether the codes of a slot stand within a block
abbrev pub is_within : Block → Slot → Bool
is_within b s = nat_le b.begin s.at && (nat_le s.at b.end && nat_le (codes_len s) (b.end - s.at))

-- whether they stand before it or behind it
abbrev pub is_apart : Block → Slot → Bool
is_apart b s = nat_le b.end s.at || (nat_le s.at b.begin && nat_le (codes_len s) (b.begin - s.at))

-- whether the block cuts no codes of a slot in two
abbrev pub spares : Block → Slot → Bool
spares b s = is_within b s || is_apart b s

-- a slot whose codes begin at a place
abbrev pub put_at : ℕ → Slot → Slot
put_at at s = record s { at = at }

-- of a slot within a block: its codes, itself at a place, and the place behind
abbrev pub codes_within : List ℕ → Block → Slot → List ℕ
codes_within bytes b s = if is_within b s then codes_at bytes s else []

abbrev pub put_within : Block → ℕ → Slot → Slot
put_within b at s = if is_within b s then put_at at s else s

abbrev pub behind : Block → ℕ → Slot → ℕ
behind b at s = if is_within b s then at + codes_len s else at

-- the slots within a block one behind another, from a place on, and the place behind the last
abbrev pub all_put : Block → ℕ → List Slot → List Slot
all_put b at [] = []
all_put b at (s ∷ slots) = put_within b at s ∷ all_put b (behind b at s) slots

abbrev pub behind_all : Block → ℕ → List Slot → ℕ
behind_all b at [] = at
behind_all b at (s ∷ slots) = behind_all b (behind b at s) slots

-- slots find in bytes what others found in other bytes
pub record AreLaid (old new : List ℕ) (slots moved : List Slot) : Type 0 where
  pub found : map (found_at new) moved ≡ map (found_at old) slots
  pub placed : AllByRecursion (IsPlaced new) moved
