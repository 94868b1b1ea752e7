-- How bytes are cut into lines: those of an input, and those of stored text.
use Rattle.std.specs.Prelude.{ℕ, ◌+◌, Bool, ◌==◌, ◌&&◌, nat_le, nat_lt, List, [], ◌∷◌, length, map}
use Rattle.std.specs.List.{filter, slice_split}
use Rattle.std.specs.Str.Lines.{strip_carriage_return}

-- the byte LF, which ends a line
abbrev pub is_lf : ℕ → Bool
is_lf b = b == 10

-- the pieces, without the last one if it is empty
abbrev pub without_last_empty : List (List ℕ) → List (List ℕ)
without_last_empty (piece ∷ next ∷ more) = piece ∷ without_last_empty (next ∷ more)
without_last_empty ([] ∷ []) = []
without_last_empty pieces = pieces

-- the lines of stored text: the pieces between the LFs, without an empty last one
abbrev pub stored_lines : List ℕ → List (List ℕ)
stored_lines bytes = without_last_empty (slice_split is_lf bytes)

-- the lines of an input: those pieces, each without the one CR at its end
abbrev pub lines : List ℕ → List (List ℕ)
lines bytes = map strip_carriage_return (stored_lines bytes)

-- the lines of pieces, each with its start: the place of its first byte, which is behind the LF before it
abbrev pub lines_from : ℕ → List (List ℕ) → List (ℕ × List ℕ)
lines_from at [] = []
lines_from at (piece ∷ pieces) = (at, strip_carriage_return piece) ∷ lines_from (at + length piece + 1) pieces

-- the lines of an input with their starts, of which the first is 0
abbrev pub started_lines : List ℕ → List (ℕ × List ℕ)
started_lines bytes = lines_from 0 (stored_lines bytes)

-- the line starts in the range: not before its first place, and before its end
abbrev pub starts_within : ℕ → ℕ → ℕ × List ℕ → Bool
starts_within from to line = nat_le from line.0 && nat_lt line.0 to

-- the lines of an input that start in a range
abbrev pub lines_within : ℕ → ℕ → List ℕ → List (List ℕ)
lines_within from to bytes = map (λ line. line.1) (filter (starts_within from to) (started_lines bytes))
