-- Laws of look-ups and of changed directories.
use Rattle.std.specs.Prelude.{◌≡◌, ◌≢◌, ◌++◌, ℕ, true, false, List, [], ◌∷◌, Option, Some, None, refl, length}
use Rattle.std.proofs.Common.{ap, sym, ◌∙◌, inl, inr, subst}
use Rattle.std.proofs.lemmas.Bool.{false_from_ne_true, cases_Bool}
use Rattle.std.proofs.lemmas.Slice.Eq.{bytes_eq-Decides}
use Rattle.std.specs.Option.{option_map, ForSome}
use Rattle.std.specs.Str.{bytes_eq}
use Rattle.pig_outside.specs.declared.contents.DirState.{DirState}
use Rattle.pig_outside.specs.declared.contents.Directory.{Directory}
use Rattle.pig_outside.specs.Shelf.{Shelf, state_of, set_dir, with_dir, with_part, with_mark, open_state, whole_state, parts_of, IsOpen, CanPut, CanFinish, LeftUnmarked}

-- Bytes are equal to themselves.
pub bytes_eq-same : (path : List ℕ) → bytes_eq path path ≡ true
bytes_eq-same path = (bytes_eq-Decides path path).1 refl

-- Bytes that differ are told apart.
pub bytes_eq-other : (path q : List ℕ) → q ≢ path → bytes_eq path q ≡ false
bytes_eq-other path q other = false_from_ne_true (bytes_eq path q) (λ e. other (sym ((bytes_eq-Decides path q).0 e)))

-- The state that was set is the one that is there.
pub state_of-set_dir : (path : List ℕ) (state : DirState) (dirs : List Directory) → state_of path (set_dir path state dirs) ≡ Some state
state_of-set_dir path state [] = simp (bytes_eq-same path)
state_of-set_dir path state (d ∷ ds) =
    elim (cases_Bool (bytes_eq d.path path)) [ inl e ↦ simp e | inr e ↦ simp e (state_of-set_dir path state ds) ]

-- Where the changed entry is another one, so is the state that is found.
other_entry : (q : List ℕ) (state : DirState) (d : Directory) (ds : List Directory) → bytes_eq d.path q ≡ false → state_of q (record d { state = state } ∷ ds) ≡ state_of q (d ∷ ds)
other_entry q state d ds e = simp e

-- Behind the same entry, the same is found.
behind : (q : List ℕ) (d : Directory) (ds es : List Directory) → state_of q ds ≡ state_of q es → state_of q (d ∷ ds) ≡ state_of q (d ∷ es)
behind q d ds es same = elim (cases_Bool (bytes_eq d.path q)) [ inl e ↦ simp e | inr e ↦ simp e same ]

-- Another path's state is as before.
pub state_of-set_dir_other : (q path : List ℕ) (state : DirState) (dirs : List Directory) → q ≢ path → state_of q (set_dir path state dirs) ≡ state_of q dirs
state_of-set_dir_other q path state [] other = simp (bytes_eq-other path q other)
state_of-set_dir_other q path state (d ∷ ds) other =
    elim (cases_Bool (bytes_eq d.path path)) [
      | inl e ↦ let at : d.path ≡ path = (bytes_eq-Decides d.path path).0 e in
          simp e (other_entry q state d ds (bytes_eq-other d.path q (λ same. other (same ∙ at))))
      | inr e ↦ simp e (behind q d (set_dir path state ds) ds (state_of-set_dir_other q path state ds other))
    ]

-- Of two states that are set at a path, the last one stands.
pub set_dir-twice : (path : List ℕ) (before after : DirState) (dirs : List Directory) → set_dir path after (set_dir path before dirs) ≡ set_dir path after dirs
set_dir-twice path before after [] = simp (bytes_eq-same path)
set_dir-twice path before after (d ∷ ds) =
    elim (cases_Bool (bytes_eq d.path path)) [ inl e ↦ simp e | inr e ↦ simp e (ap (λ es. d ∷ es) (set_dir-twice path before after ds)) ]

-- A state that is there already changes nothing.
pub set_dir-same : (path : List ℕ) (state : DirState) (dirs : List Directory) → state_of path dirs ≡ Some state → set_dir path state dirs ≡ dirs
set_dir-same path state [] is = cc
set_dir-same path state (d ∷ ds) is =
    elim (cases_Bool (bytes_eq d.path path)) [
      | inl e ↦ let there : Some d.state ≡ Some state = simp e at is in
          let same : state ≡ d.state = cc in
          simp e (ap (λ (s : DirState). record d { state = s } ∷ ds) same)
      | inr e ↦ let there : state_of path ds ≡ Some state = simp e at is in
          simp e (ap (λ es. d ∷ es) (set_dir-same path state ds there))
    ]

-- A new directory stands behind the others.
pub set_dir-new : (path : List ℕ) (state : DirState) (dirs : List Directory) → state_of path dirs ≡ None → set_dir path state dirs ≡ dirs ++ record { path = path; state = state } ∷ []
set_dir-new path state [] is = refl
set_dir-new path state (d ∷ ds) is =
    elim (cases_Bool (bytes_eq d.path path)) [
      | inl e ↦ let there : ◌≡◌ {A = Option DirState} (Some d.state) None = simp e at is in cc
      | inr e ↦ let none : state_of path ds ≡ None = simp e at is in
          simp e (ap (λ es. d ∷ es) (set_dir-new path state ds none))
    ]

-- Of two states that are given to a directory, the last one stands.
pub with_dir-twice : (path : List ℕ) (before after : DirState) (shelf : Shelf) → with_dir path after (with_dir path before shelf) ≡ with_dir path after shelf
with_dir-twice path before after shelf = ap (λ ds. record shelf { dirs = ds }) (set_dir-twice path before after shelf.dirs)

-- The parts that a directory was given are there.
pub parts_of-with_dir : (path : List ℕ) (state : DirState) (shelf : Shelf) → parts_of path (with_dir path state shelf) ≡ state.parts
parts_of-with_dir path state shelf = rw (state_of-set_dir path state shelf.dirs)

-- A directory that was given its parts has one more after the next.
pub with_part-with_dir : (path bytes : List ℕ) (state : DirState) (shelf : Shelf) → with_part path bytes (with_dir path state shelf) ≡ with_dir path (open_state (state.parts ++ bytes ∷ [])) shelf
with_part-with_dir path bytes state shelf =
    with_dir-twice path state (open_state (parts_of path (with_dir path state shelf) ++ bytes ∷ [])) shelf
    ∙ ap (λ parts. with_dir path (open_state (parts ++ bytes ∷ [])) shelf) (parts_of-with_dir path state shelf)

-- A directory that was given its parts is whole with these at its marker.
pub with_mark-with_dir : (path : List ℕ) (state : DirState) (shelf : Shelf) → with_mark path (with_dir path state shelf) ≡ with_dir path (whole_state state.parts) shelf
with_mark-with_dir path state shelf =
    with_dir-twice path state (whole_state (parts_of path (with_dir path state shelf))) shelf
    ∙ ap (λ parts. with_dir path (whole_state parts) shelf) (parts_of-with_dir path state shelf)

-- The three laws where the shelf may not be told.
pub with_dir_again : (path : List ℕ) (before after : DirState) (old : Option Shelf) → option_map (with_dir path after) (option_map (with_dir path before) old) ≡ option_map (with_dir path after) old
with_dir_again path before after None = refl
with_dir_again path before after (Some shelf) = ap (λ s. Some s) (with_dir-twice path before after shelf)

pub part_added : (path bytes : List ℕ) (state : DirState) (old : Option Shelf) → option_map (with_part path bytes) (option_map (with_dir path state) old) ≡ option_map (with_dir path (open_state (state.parts ++ bytes ∷ []))) old
part_added path bytes state None = refl
part_added path bytes state (Some shelf) = ap (λ s. Some s) (with_part-with_dir path bytes state shelf)

pub mark_set : (path : List ℕ) (state : DirState) (old : Option Shelf) → option_map (with_mark path) (option_map (with_dir path state) old) ≡ option_map (with_dir path (whole_state state.parts)) old
mark_set path state None = refl
mark_set path state (Some shelf) = ap (λ s. Some s) (with_mark-with_dir path state shelf)

-- What a failed call leaves of a directory that was made before it, is left of it altogether.
pub left_unmarked : (path : List ℕ) (state : DirState) (old new : Option Shelf) → LeftUnmarked path (option_map (with_dir path state) old) new → LeftUnmarked path old new
left_unmarked path state old new (parts, is) = (parts, is ∙ with_dir_again path state (open_state parts) old)

-- A shelf with that directory, unmarked, that is as before.
pub unmarked_as_before : (path : List ℕ) (parts : List (List ℕ)) (shelf : Shelf) → IsOpen path parts shelf → LeftUnmarked path (Some shelf) (Some shelf)
unmarked_as_before path parts shelf there =
    (parts, ap (λ ds. Some (record shelf { dirs = ds })) (sym (set_dir-same path (open_state parts) shelf.dirs there)))

-- A directory that was made, and not marked, takes the next part.
pub can_put : (path : List ℕ) (parts : List (List ℕ)) (old : Option Shelf) → ForSome (option_map (with_dir path (open_state parts)) old) (CanPut path (length parts))
can_put path parts None shelf told = cc
can_put path parts (Some old) shelf told =
    let open_there : IsOpen path parts (with_dir path (open_state parts) old) = state_of-set_dir path (open_state parts) old.dirs in
    let same : with_dir path (open_state parts) old ≡ shelf = cc in
    record { parts = parts; is_open = subst (IsOpen path parts) same open_there; next = refl }

-- A directory that was made, and not marked, can be marked.
pub can_finish : (path : List ℕ) (parts : List (List ℕ)) (old : Option Shelf) → ForSome (option_map (with_dir path (open_state parts)) old) (CanFinish path)
can_finish path parts old shelf told = let there = can_put path parts old shelf told in record { parts = there.parts; is_open = there.is_open }
