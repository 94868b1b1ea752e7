-- The splits of an input's pieces, and where the lines of a split stand.
use Rattle.std.specs.Prelude.{ℕ, zero, suc, ◌+◌, ◌-◌, ◌*◌, ◌/◌, min, max, List, [], ◌∷◌, ◌++◌, length, map}
use Rattle.std.specs.List.{range_with_len}
use Rattle.pig_storage.specs.NextLine.{line_end}
use Rattle.pig_storage.specs.declared.splits.Split.{Split}

-- how many splits of a size cover a piece: one of an empty piece
abbrev pub split_count : ℕ → ℕ → ℕ
split_count split size = max 1 ((size + split - 1) / split)

-- the split with a number: the last one may be shorter
abbrev pub split_at : ℕ → ℕ → ℕ → ℕ → Split
split_at split piece size i = record { piece = piece; from = i * split; to = min ((i + 1) * split) size }

-- the splits that cover a piece
abbrev pub splits_of_piece : ℕ → ℕ → ℕ → List Split
splits_of_piece split piece size = map (split_at split piece size) (range_with_len 0 (split_count split size))

-- the splits of pieces of these lengths, numbered from one on
abbrev pub splits_from : ℕ → ℕ → List ℕ → List Split
splits_from split piece [] = []
splits_from split piece (size ∷ sizes) = splits_of_piece split piece size ++ splits_from split (piece + 1) sizes

abbrev pub splits_of : ℕ → List ℕ → List Split
splits_of split sizes = splits_from split 0 sizes

-- the place of the first line that starts at a place or behind it: behind the first LF from the byte before that place on,
-- or the end of the bytes
abbrev pub first_start : List ℕ → ℕ → ℕ
first_start bytes zero = zero
first_start bytes (suc p) = min (line_end bytes p + 1) (length bytes)
