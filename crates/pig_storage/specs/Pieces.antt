-- Where a piece of a line stands.
use Rattle.std.specs.Prelude.{◌≡◌, ◌==◌, ◌+◌, ◌≤◌, ℕ, List, [], ◌∷◌, length, drop, slice_range, if◌then◌else◌}
use Rattle.pig_value.specs.FieldRows.{pieces}
use Rattle.pig_storage.specs.declared.rows.Piece.{Piece}

-- the pieces behind the one that ends at `to`: none where that is the end of the line
abbrev pub pieces_behind : ℕ → List ℕ → ℕ → List (List ℕ)
pieces_behind delimiter line to = if to == length line then [] else pieces delimiter (drop (to + 1) line)

-- the pieces from the piece's position on are the piece itself and those behind it
pub record IsPiece (delimiter : ℕ) (line : List ℕ) (p : Piece) : Type 0 where
  pub ordered : p.from ≤ p.to
  pub within : p.to ≤ length line
  pub is : drop p.position (pieces delimiter line) ≡ slice_range line p.from p.to ∷ pieces_behind delimiter line p.to
