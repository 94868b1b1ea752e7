-- What clap holds of the operand and the options, as what was given.
use Rattle.std.proofs.Common.{◌≡◌, ◌∙◌, ◌||◌, Bool, cond, true, false, refl, sym, ap, subst, List, [], ◌∷◌, ◌++◌, Option, Some, None, is_some, option_map, inl, inr, append-nil, true≢false}
use Rattle.std.specs.List.{find, list_any}
use Rattle.std.specs.Str.{bytes_eq}
use Rattle.std.specs.Prelude.{option_and_then, slice_get}
use Rattle.std.specs.Option.{option_map_or}
use Rattle.clap.specs.Facts.{explicit_source}
use Rattle.clap.specs.Walk.{Row, Text, at_row, first_of, has_row, more_values, used}
use Rattle.clap.specs.Takes.{is_given}
use Rattle.clap.specs.Faults.{use_fault}
use Rattle.clap.specs.declared.builder.value_parser.Reading.TheVariants as reading
use Rattle.clap.specs.declared.parser.matches.ValueSource.{ValueSource}
use Rattle.clap.specs.declared.parser.matches.ValueSource.TheVariants.{CommandLine}
use Rattle.clap.specs.declared.error.kind.ErrorKind.TheVariants as kind
use Rattle.pig_words.specs.CommandWords.{Given, Word, nothing_given}
use Rattle.pig_words.proofs.Options.{Slot, Operand, Value, arg_of, at, at_put, id_of, put, same_id, same_or_other}

-- ---- rows

or_false : (a b : Bool) → (a || b) ≡ false → (a ≡ false) × (b ≡ false)
or_false true b e = absurd (true≢false e)
or_false false b e = (refl, e)

at_row_none : (id : Text) (change : Row → List Row) (missing rows : List Row) → has_row id rows ≡ false → at_row id change missing rows ≡ rows ++ missing
at_row_none id change missing [] e = refl
at_row_none id change missing (r ∷ rs) e =
    let p = or_false (bytes_eq r.id id) (has_row id rs) e in
    rw p.0 (ap (λ xs. r ∷ xs) (at_row_none id change missing rs p.1))

abbrev pub new_row : Slot → Word → Row
new_row x v = record { id = id_of x; values = v ∷ []; count = None; source = Some CommandLine; reading = reading.AsWritten }

-- a use of an argument that has no row adds its row
pub used_new : (x : Slot) (v : Word) (rows : List Row) → has_row (id_of x) rows ≡ false → used (arg_of x) (v ∷ []) rows ≡ rows ++ new_row x v ∷ []
used_new x v rows e =
    let bare : at_row (id_of x) (λ _. []) [] rows ≡ rows = at_row_none (id_of x) (λ _. []) [] rows e ∙ append-nil rows in
    rw bare (at_row_none (id_of x) (more_values CommandLine (v ∷ [])) (new_row x v ∷ []) rows e)

-- and fails only where there is a row
pub use_passes : (x : Slot) (v : Word) (rows : List Row) → has_row (id_of x) rows ≡ false → use_fault false (arg_of x) (v ∷ []) rows ≡ []
use_passes x v rows e = rw e refl

pub use_fails : (x : Slot) (v : Word) (rows : List Row) → has_row (id_of x) rows ≡ true → use_fault false (arg_of x) (v ∷ []) rows ≡ kind.ArgumentConflict ∷ []
use_fails x v rows e = rw e refl

-- ---- rows that show what was given

abbrev Seen : Type 0
Seen = Option (List Text × Option ValueSource)

abbrev cell : Row → List Text × Option ValueSource
cell r = (r.values, r.source)

abbrev seen : Text → List Row → Seen
seen id rows = option_map cell (find (λ r. bytes_eq r.id id) rows)

abbrev shown : Option Word → Seen
shown = option_map (λ v. (v ∷ [], Some CommandLine))

-- each row is of the words, with the one value that was given
abbrev pub Shows : Given → List Row → Type 0
Shows g rows = (x : Slot) → seen (id_of x) rows ≡ shown (at x g)

any_is_some : {X : Type 0} (p : X → Bool) (xs : List X) → list_any p xs ≡ is_some (find p xs)
any_is_some p [] = refl
any_is_some p (x ∷ xs) = go (p x) (any_is_some p xs)
  where
    go : (b : Bool) → list_any p xs ≡ is_some (find p xs) → (b || list_any p xs) ≡ is_some (cond b (Some x) (find p xs))
    go true e = refl
    go false e = e

some_mapped : {X Y : Type 0} (f : X → Y) (o : Option X) → is_some o ≡ is_some (option_map f o)
some_mapped f None = refl
some_mapped f (Some x) = refl

pub row_is_given : (x : Slot) (g : Given) (rows : List Row) → Shows g rows → has_row (id_of x) rows ≡ is_some (at x g)
row_is_given x g rows h =
    any_is_some (λ r. bytes_eq r.id (id_of x)) rows ∙ some_mapped cell (find (λ r. bytes_eq r.id (id_of x)) rows)
    ∙ ap is_some (h x) ∙ sym (some_mapped _ (at x g))

-- the value that is read is the one that was given
pub first_is_given : (x : Slot) (g : Given) (rows : List Row) → Shows g rows → first_of (id_of x) rows ≡ at x g
first_is_given x g rows h = of_cell (find (λ r. bytes_eq r.id (id_of x)) rows) ∙ ap (option_and_then (λ (c : List Text × Option ValueSource). slice_get c.0 0)) (h x) ∙ of_shown (at x g)
  where
    of_cell : (o : Option Row) → option_and_then (λ r. slice_get r.values 0) o ≡ option_and_then (λ c. slice_get c.0 0) (option_map cell o)
    of_cell None = refl
    of_cell (Some r) = refl

    of_shown : (o : Option Word) → option_and_then (λ c. slice_get c.0 0) (shown o) ≡ o
    of_shown None = refl
    of_shown (Some v) = refl

pub given_is_given : (x : Slot) (g : Given) (rows : List Row) → Shows g rows → is_given (id_of x) rows ≡ is_some (at x g)
given_is_given x g rows h = of_cell (find (λ r. bytes_eq r.id (id_of x)) rows) ∙ ap (λ (o : Seen). option_map_or (λ c. explicit_source c.1) o false) (h x) ∙ of_shown (at x g)
  where
    of_cell : (o : Option Row) → option_map_or (λ r. explicit_source r.source) o false ≡ option_map_or (λ c. explicit_source c.1) (option_map cell o) false
    of_cell None = refl
    of_cell (Some r) = refl

    of_shown : (o : Option Word) → option_map_or (λ c. explicit_source c.1) (shown o) false ≡ is_some o
    of_shown None = refl
    of_shown (Some v) = refl

find_last : {X : Type 0} (p : X → Bool) (xs : List X) (y : X) → list_any p xs ≡ false → p y ≡ true → find p (xs ++ y ∷ []) ≡ Some y
find_last p [] y none hit = rw hit refl
find_last p (x ∷ xs) y none hit = let q = or_false (p x) (list_any p xs) none in rw q.0 (find_last p xs y q.1 hit)

find_before : {X : Type 0} (p : X → Bool) (xs : List X) (y : X) → p y ≡ false → find p (xs ++ y ∷ []) ≡ find p xs
find_before p [] y miss = rw miss refl
find_before p (x ∷ xs) y miss = ap (λ o. cond (p x) (Some x) o) (find_before p xs y miss)

-- one more row shows one more value
pub shows_put : (x : Slot) (v : Word) (g : Given) (rows : List Row) → Shows g rows → has_row (id_of x) rows ≡ false → Shows (put x v g) (rows ++ new_row x v ∷ [])
shows_put x v g rows h none y = elim (same_or_other x y) [
  | inl same ↦ subst (λ z. seen (id_of z) (rows ++ new_row x v ∷ []) ≡ shown (at z (put x v g))) same
      (ap (option_map cell) (find_last (λ r. bytes_eq r.id (id_of x)) rows (new_row x v) none (same_id x)) ∙ ap shown (sym (at_put x v g)))
  | inr other ↦ ap (option_map cell) (find_before (λ r. bytes_eq r.id (id_of y)) rows (new_row x v) other.0) ∙ h y ∙ ap shown (sym (other.1 v g))
]

pub shows_none : Shows nothing_given []
shows_none Operand = refl
shows_none (Value s) = refl

pub given_by_places : (a b : Given) → ((x : Slot) → at x a ≡ at x b) → a ≡ b
given_by_places a b same = λ i. record { operand = same Operand i; values = λ s. same (Value s) i }

pub same_given : (a b : Given) (rows : List Row) → Shows a rows → Shows b rows → a ≡ b
same_given a b rows h k = given_by_places a b (λ x. sym (first_is_given x a rows h) ∙ first_is_given x b rows k)
