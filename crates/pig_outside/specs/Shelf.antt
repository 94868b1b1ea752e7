-- What a depot holds, and what its calls leave.
use Rattle.std.specs.Prelude.{◌≡◌, ◌≤◌, ◌+◌, ◌++◌, ◌⊎◌, ℕ, Bool, true, false, List, [], ◌∷◌, Option, Some, None, length, map, take, drop, is_some, unwrap_or, slice_get, option_and_then, find, if◌then◌else◌}
use Rattle.std.specs.List.{AllByRecursion}
use Rattle.std.specs.Option.{option_map}
use Rattle.std.specs.Str.{bytes_eq}
use Rattle.pig_value.specs.Leaves.{AreBytes}
use Rattle.pig_value.specs.declared.inputs.Input.{Input}
use Rattle.pig_outside.specs.declared.contents.Source.{Source}
use Rattle.pig_outside.specs.declared.contents.DirState.{DirState}
use Rattle.pig_outside.specs.declared.contents.Directory.{Directory}

-- Scripts, inputs as lists of pieces, and directories with their parts and marker.
pub record Shelf : Type 0 where
  pub scripts : List Source
  pub inputs : List Input
  pub dirs : List Directory

-- The first entry of that name.
abbrev pub entry_named : {X : Type 0} → (X → List ℕ) → List ℕ → List X → Option X
entry_named name path xs = find (λ x. bytes_eq (name x) path) xs

-- The bytes of the script at a path.
abbrev pub script_of : List ℕ → Shelf → Option (List ℕ)
script_of path shelf = option_map (λ s. s.bytes) (entry_named (λ s. s.path) path shelf.scripts)

-- The first bytes of the script at a path, at most so many; none where there is no script.
abbrev pub script_bytes : List ℕ → ℕ → Shelf → List ℕ
script_bytes path most shelf = take most (unwrap_or (script_of path shelf) [])

-- The pieces of the input at a path.
abbrev pub pieces_of : List ℕ → List Input → Option (List (List ℕ))
pieces_of path inputs = option_map (λ i. i.pieces) (entry_named (λ i. i.path) path inputs)

-- The lengths of pieces.
abbrev pub lengths_of : List (List ℕ) → List ℕ
lengths_of pieces = map length pieces

-- The lengths of the pieces of the shelf's input at a path.
abbrev pub lengths_at : List ℕ → Shelf → Option (List ℕ)
lengths_at path shelf = option_map lengths_of (pieces_of path shelf.inputs)

-- One piece of the input at a path.
abbrev pub piece_of : List ℕ → ℕ → List Input → Option (List ℕ)
piece_of path piece inputs = option_and_then (λ pieces. slice_get pieces piece) (pieces_of path inputs)

-- The pieces of inputs are of bytes.
abbrev pub AreOfBytes : List Input → Type 0
AreOfBytes inputs = AllByRecursion (λ input. AllByRecursion AreBytes input.pieces) inputs

-- So many bytes of that piece from a place on.
abbrev pub range_of : List ℕ → ℕ → ℕ → ℕ → List Input → List ℕ
range_of path piece from count inputs = take count (drop from (unwrap_or (piece_of path piece inputs) []))

-- The path has that piece, and the whole range lies in it.
pub record HasRange (path : List ℕ) (piece from count : ℕ) (inputs : List Input) : Type 0 where
  pub bytes : List ℕ
  pub there : piece_of path piece inputs ≡ Some bytes
  pub within : from + count ≤ length bytes

-- What stands in the directory at a path.
abbrev pub state_of : List ℕ → List Directory → Option DirState
state_of path dirs = option_map (λ d. d.state) (entry_named (λ d. d.path) path dirs)

-- Whether the shelf has the directory.
abbrev pub has_dir : List ℕ → Shelf → Bool
has_dir path shelf = is_some (state_of path shelf.dirs)

-- The directories with this state at a path: in the place of the first of that path, or else at the end.
abbrev pub set_dir : List ℕ → DirState → List Directory → List Directory
set_dir path state [] = record { path = path; state = state } ∷ []
set_dir path state (d ∷ ds) = if bytes_eq d.path path then record d { state = state } ∷ ds else d ∷ set_dir path state ds

-- The shelf with this state at a path, and all else as it was.
abbrev pub with_dir : List ℕ → DirState → Shelf → Shelf
with_dir path state shelf = record shelf { dirs = set_dir path state shelf.dirs }

-- A directory without its marker.
abbrev pub open_state : List (List ℕ) → DirState
open_state parts = record { parts = parts; marked = false }

-- A directory with its marker.
abbrev pub whole_state : List (List ℕ) → DirState
whole_state parts = record { parts = parts; marked = true }

-- The parts of the directory at a path.
abbrev pub parts_in : List ℕ → List Directory → List (List ℕ)
parts_in path dirs = unwrap_or (option_map (λ s. s.parts) (state_of path dirs)) []

-- The same on a shelf.
abbrev pub parts_of : List ℕ → Shelf → List (List ℕ)
parts_of path shelf = parts_in path shelf.dirs

-- The shelf with a new directory.
abbrev pub with_new : List ℕ → Shelf → Shelf
with_new path = with_dir path (open_state [])

-- The shelf with one more part in that directory.
abbrev pub with_part : List ℕ → List ℕ → Shelf → Shelf
with_part path bytes shelf = with_dir path (open_state (parts_of path shelf ++ bytes ∷ [])) shelf

-- The shelf with that directory's marker.
abbrev pub with_mark : List ℕ → Shelf → Shelf
with_mark path shelf = with_dir path (whole_state (parts_of path shelf)) shelf

-- The directory is there, unmarked and with these parts.
abbrev pub IsOpenIn : List ℕ → List (List ℕ) → List Directory → Type 0
IsOpenIn path parts dirs = state_of path dirs ≡ Some (open_state parts)

-- The same on a shelf.
abbrev pub IsOpen : List ℕ → List (List ℕ) → Shelf → Type 0
IsOpen path parts shelf = IsOpenIn path parts shelf.dirs

-- The shelf has no such directory.
abbrev pub CanCreate : List ℕ → Shelf → Type 0
CanCreate path shelf = state_of path shelf.dirs ≡ None

-- The directory is there and unmarked, and `part` is the number of its parts.
pub record CanPut (path : List ℕ) (part : ℕ) (shelf : Shelf) : Type 0 where
  pub parts : List (List ℕ)
  pub is_open : IsOpen path parts shelf
  pub next : part ≡ length parts

-- The directory is there and unmarked.
pub record CanFinish (path : List ℕ) (shelf : Shelf) : Type 0 where
  pub parts : List (List ℕ)
  pub is_open : IsOpen path parts shelf

-- That directory is there and unmarked, and all else is as before.
abbrev pub LeftUnmarked : List ℕ → Option Shelf → Option Shelf → Type 0
LeftUnmarked path old new = (parts : List (List ℕ)) × (new ≡ option_map (with_dir path (open_state parts)) old)

-- That directory is absent, or empty and unmarked, and all else is as before.
abbrev pub LeftAbsentOrEmpty : List ℕ → Option Shelf → Option Shelf → Type 0
LeftAbsentOrEmpty path old new = (new ≡ old) ⊎ (new ≡ option_map (with_new path) old)

-- What stood there has grown at its end, by so many bytes at most.
pub record Grows (most : ℕ) (old new : List ℕ) : Type 0 where
  pub added : List ℕ
  pub is : new ≡ old ++ added
  pub bound : length added ≤ most
