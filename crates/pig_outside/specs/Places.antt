-- The place of an entry in a list.
use Rattle.std.specs.Prelude.{◌≡◌, ◌<◌, ◌+◌, ℕ, List, [], ◌∷◌, Option, Some, None, length, slice_set, if◌then◌else◌}
use Rattle.std.specs.List.{slice_index_or}
use Rattle.std.specs.Option.{option_map}
use Rattle.std.specs.Str.{bytes_eq}
use Rattle.pig_outside.specs.declared.contents.DirState.{DirState}
use Rattle.pig_outside.specs.declared.contents.Directory.{Directory}
use Rattle.pig_outside.specs.Shelf.{state_of, set_dir}

-- The place of the first entry of that name.
abbrev pub place_of : {X : Type 0} → (X → List ℕ) → List ℕ → List X → Option ℕ
place_of name path [] = None
place_of name path (x ∷ xs) = if bytes_eq (name x) path then Some 0 else option_map (λ n. n + 1) (place_of name path xs)

-- The directory at that place is the one that is found under the path, and changed.
pub record IsPlace (path : List ℕ) (dirs : List Directory) (k : ℕ) : Type 0 where
  pub within : k < length dirs
  pub found : (d : Directory) → state_of path dirs ≡ Some (slice_index_or dirs k d).state
  pub sets : (state : DirState) (d : Directory) → set_dir path state dirs ≡ slice_set dirs k (record (slice_index_or dirs k d) { state = state })
