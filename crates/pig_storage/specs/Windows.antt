-- Where a line ends, as a window tells it: the bytes between two places alone.
use Rattle.std.specs.Prelude.{◌≡◌, ℕ, ◌+◌, ◌-◌, ◌<◌, List, length, slice_range}
use Rattle.pig_storage.specs.NextLine.{line_end}

-- there is an LF at a place or behind it
abbrev pub HoldsEnd : List ℕ → ℕ → Type 0
HoldsEnd bytes place = line_end bytes place < length bytes

-- the line that starts at a place ends in the window where it ends in the bytes
abbrev pub TellsEnd : List ℕ → ℕ → ℕ → ℕ → Type 0
TellsEnd bytes from to place = from + line_end (slice_range bytes from to) (place - from) ≡ line_end bytes place
