-- Rows that are added one by one, each in pieces, as contracts see them.
use Rattle.std.specs.Prelude.{ℕ, List, [], ◌∷◌, ◌++◌, refl}
use Rattle.std.specs.Coded.{Coded, code_by, coded×, coded_ℕ, coded_list}
use Rattle.pig_value.specs.Trees.{Tree}
use Rattle.pig_value.specs.TreeCode.{coded_tree}
use Rattle.pig_keycode.specs.Codable.{IsCodeOfRow}

-- the rows that are whole, and the bytes of one that is begun
pub record Begun : Type 0 where
  pub rows : List (List Tree)
  pub begun : List ℕ

-- rows, and nothing begun behind them
abbrev pub whole_rows : List (List Tree) → Begun
whole_rows rows = record { rows = rows; begun = [] }

-- more bytes of the row that is begun
abbrev pub and_bytes : List ℕ → Begun → Begun
and_bytes bytes b = record { rows = b.rows; begun = b.begun ++ bytes }

-- more rows behind those that are whole
abbrev pub and_rows : List (List Tree) → Begun → Begun
and_rows rows b = whole_rows (b.rows ++ rows)

abbrev pub and_row : List Tree → Begun → Begun
and_row row b = and_rows (row ∷ []) b

-- the bytes are the code of a row
abbrev pub IsWhole : List ℕ → Type 0
IsWhole bytes = ∥ ((row : List Tree) × IsCodeOfRow bytes row) ∥₁

-- ---- a code, which the `Model` of a builder asks for

abbrev halves : Begun → List (List Tree) × List ℕ
halves b = (b.rows, b.begun)

abbrev joined : List (List Tree) × List ℕ → Begun
joined p = record { rows = p.0; begun = p.1 }

abbrev pub coded_begun : Coded Begun
coded_begun = code_by (List (List Tree) × List ℕ) (coded× (coded_list (coded_list coded_tree)) (coded_list coded_ℕ)) halves joined (λ _. refl)
