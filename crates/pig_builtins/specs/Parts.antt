-- Parts of texts: the one between two places, either of which may be below 0, and the pieces that TOKENIZE makes rows of.
use Rattle.std.specs.Prelude.{ℕ, pos, nat_lt, List, [], ◌∷◌, length, map, Option, Some, None}
use Rattle.std.specs.List.{filter}
use Rattle.pig_value.specs.Functions.{substring}
use Rattle.pig_value.specs.Trees.{Tree, v_chars}

abbrev pub part_from : List ℕ → Option ℕ → Option ℕ → Option (List ℕ)
part_from cs (Some start) (Some stop) = substring cs (pos start) (pos stop)
part_from cs start stop = None

-- a row for each piece that is not empty
abbrev pub piece_rows : List (List ℕ) → List (List Tree)
piece_rows pieces = map (λ piece. v_chars piece ∷ []) (filter (λ piece. nat_lt 0 (length piece)) pieces)
