-- The texts of rows and of pairs within a value.
use Rattle.std.specs.Prelude.{ℕ, List, ◌∷◌, ◌++◌, map}
use Rattle.pig_value.specs.Texts.{text_of, tuple_text}
use Rattle.pig_value.specs.Trees.{Tree}

-- a row as a tuple in a bag
abbrev pub row_as_tuple : List Tree → List ℕ
row_as_tuple row = tuple_text (map text_of row)

-- a key of a map with its value
abbrev pub pair_text : List ℕ × Tree → List ℕ
pair_text pair = pair.0 ++ 35 ∷ text_of pair.1
