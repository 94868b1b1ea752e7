-- The bytes of a piece as they are read from a host, block by block, and what became of the rows of their lines.
use Rattle.std.specs.Prelude.{◌≡◌, ◌++◌, ℕ, List, [], Option, drop, length, unwrap_or}
use Rattle.std.specs.Option.{ForSome}
use Rattle.pig_value.specs.declared.inputs.Column.{Column}
use Rattle.pig_value.specs.declared.inputs.Input.{Input}
use Rattle.pig_value.specs.Trees.{Tree}
use Rattle.pig_value.specs.Valid.{IsValue}
use Rattle.pig_storage.specs.declared.splits.Split.{Split}
use Rattle.pig_outside.specs.Shelf.{piece_of}
use Rattle.pig_plan.specs.Laws.{PlanLiteralsAre}
use Rattle.pig_stream.specs.Driving.{HasTaken, IsAll}
use Rattle.pig_stream.specs.Ranges.{Reading, lines_coming, rows_of_lines}
use Rattle.pig_stream.specs.Stepping.{HaveNoted, plan_on}
use Rattle.pig_stream.specs.declared.steps.Steps.{Steps}
use Rattle.pig_physical.specs.Values.{split_lines}

-- steps that no rows went through yet, of a plan whose literals are values
pub record AreFresh (steps : Steps) : Type 0 where
  pub literals : PlanLiteralsAre IsValue (plan_on steps)
  pub none : HaveNoted steps []

-- the bytes of a piece of an input, and none where there is no such
abbrev pub piece_bytes : List ℕ → ℕ → List Input → List ℕ
piece_bytes path piece inputs = unwrap_or (piece_of path piece inputs) []

-- the piece has so many bytes
abbrev pub IsLong : List ℕ → ℕ → ℕ → List Input → Type 0
IsLong path piece count inputs = length (piece_bytes path piece inputs) ≡ count

-- the rows that come from a window, where bytes are handed in later
abbrev pub rows_coming : List Column → ℕ → Reading → List ℕ → List (List Tree)
rows_coming columns delim window later = rows_of_lines columns delim (lines_coming window later)

-- The bytes of a piece from one place to another were handed in, and rows that came went through steps into what takes them;
-- where a host tells its inputs, the bytes are those of the piece.
pub record HasFed (told : Option (List Input)) (path : List ℕ) (piece from at : ℕ) (before behind : List ℕ → List (List Tree))
    (steps done : Steps) (after : List (List Tree) → Type 0) (count : ℕ) : Type 0 where
  pub given : List ℕ
  pub taken : HasTaken (λ later. before (given ++ later)) behind steps done after count
  pub bytes : ForSome told (λ inputs. drop from (piece_bytes path piece inputs) ≡ given ++ drop at (piece_bytes path piece inputs))

-- All rows came that come of the piece from a place on.
pub record HasFedAll (told : Option (List Input)) (path : List ℕ) (piece from : ℕ) (before : List ℕ → List (List Tree))
    (steps done : Steps) (after : List (List Tree) → Type 0) (count : ℕ) : Type 0 where
  pub given : List ℕ
  pub all : IsAll (before given) steps done after count
  pub bytes : ForSome told (λ inputs. before given ≡ before (drop from (piece_bytes path piece inputs)))

-- The rows of some lines came; where a host tells its inputs, they are those of a split.
pub record HasLines (told : Option (List Input)) (path : List ℕ) (split : Split) (columns : List Column) (delim : ℕ)
    (steps done : Steps) (after : List (List Tree) → Type 0) (count : ℕ) : Type 0 where
  pub lines : List (List ℕ)
  pub all : IsAll (rows_of_lines columns delim lines) steps done after count
  pub told_lines : ForSome told (λ inputs. rows_of_lines columns delim lines ≡ rows_of_lines columns delim (split_lines inputs path split))
