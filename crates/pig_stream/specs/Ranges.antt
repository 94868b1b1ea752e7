-- The lines of a range of bytes that are handed in bit by bit.
use Rattle.std.specs.Prelude.{◌≡◌, ℕ, ◌-◌, Bool, true, List, [], ◌++◌, map, refl, if◌then◌else◌}
use Rattle.std.specs.Coded.{Coded, code_by, coded×, coded_ℕ, coded_bool, coded_list}
use Rattle.std.specs.List.{position_or_len}
use Rattle.pig_value.specs.declared.inputs.Column.{Column}
use Rattle.pig_value.specs.FieldRows.{row_of}
use Rattle.pig_value.specs.Lines.{is_lf, lines_within}
use Rattle.pig_value.specs.Trees.{Tree}

-- What is known of a range while its bytes come: the bytes that are held, which no line was given of; how many bytes from the
-- first of these on are within the range; whether the first of them is not the start of a line; and whether no more bytes come.
pub record Reading : Type 0 where
  pub held : List ℕ
  pub limit : ℕ
  pub skips : Bool
  pub ended : Bool

-- the bytes that are left, where others are handed in later
abbrev pub bytes_left : Reading → List ℕ → List ℕ
bytes_left r later = r.held ++ (if r.ended then [] else later)

-- the lines that come: those that start within the range
abbrev pub lines_coming : Reading → List ℕ → List (List ℕ)
lines_coming r later = lines_within (if r.skips then 1 else 0) r.limit (bytes_left r later)

-- their rows
abbrev pub rows_of_lines : List Column → ℕ → List (List ℕ) → List (List Tree)
rows_of_lines columns delim lines = map (row_of columns delim) lines

-- the bytes of a piece that are handed in for a range that begins at a place: those from the byte before it on, which tells
-- whether a line starts there
abbrev pub first_byte : ℕ → ℕ
first_byte from = from - 1

-- no line comes before more bytes are handed in, and none at all where no more come
abbrev pub IsDry : Reading → Type 0
IsDry r = r.ended ≡ true → (later : List ℕ) → lines_coming r later ≡ []

-- where the first LF stands, or the end of the bytes
abbrev pub lf_in : List ℕ → ℕ
lf_in = position_or_len is_lf

-- ---- a code, which the `Model` of a window asks for

abbrev parts : Reading → List ℕ × (ℕ × (Bool × Bool))
parts r = (r.held, (r.limit, (r.skips, r.ended)))

abbrev whole : List ℕ × (ℕ × (Bool × Bool)) → Reading
whole p = record { held = p.0; limit = p.1.0; skips = p.1.1.0; ended = p.1.1.1 }

abbrev pub coded_reading : Coded Reading
coded_reading = code_by (List ℕ × (ℕ × (Bool × Bool))) (coded× (coded_list coded_ℕ) (coded× coded_ℕ (coded× coded_bool coded_bool))) parts whole (λ _. refl)
