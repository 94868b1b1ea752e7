-- Which field of a schema a name means. All that is asked of a schema is the names of its fields in order, each one there or not.
use Rattle.std.specs.Prelude.{◌≡◌, ◌++◌, ◌+◌, ◌⊎◌, ℕ, List, [], ◌∷◌, Bool, false, ◌||◌, if◌then◌else◌, nat_eq, drop, slice_get}
use Rattle.std.specs.Str.{bytes_eq}
use Rattle.std.specs.List.{ends_with}
use Rattle.std.specs.declared.option.Option.{Option}
use Rattle.std.specs.declared.option.Option.TheVariants.{Some, None}
use Rattle.std.specs.declared.result.Result.{Result}
use Rattle.std.specs.declared.result.Result.TheVariants.{Ok, Err}
use Rattle.pig_schema.specs.declared.naming.NameFault.{NameFault}
use Rattle.pig_schema.specs.declared.naming.NameFault.TheVariants as fault

-- `::`
abbrev pub colons : List ℕ
colons = 58 ∷ 58 ∷ []

-- the full name is the name, or ends in `::` followed by it
abbrev pub Fits : List ℕ → List ℕ → Type 0
Fits full name = (full ≡ name) ⊎ ((before : List ℕ) × (full ≡ before ++ colons ++ name))

-- the field has the name
abbrev pub HasName : List ℕ → Option (List ℕ) → Type 0
HasName name field = field ≡ Some name

-- the field has a name, which the name fits
abbrev pub FitsField : List ℕ → Option (List ℕ) → Type 0
FitsField name field = (full : List ℕ) × (field ≡ Some full) × Fits full name

-- a field of this property stands at the place
abbrev pub StandsAt : (Option (List ℕ) → Type 0) → List (Option (List ℕ)) → ℕ → Type 0
StandsAt P fields place = (field : Option (List ℕ)) × (slice_get fields place ≡ Some field) × P field

-- no field has this property
abbrev pub Nowhere : (Option (List ℕ) → Type 0) → List (Option (List ℕ)) → Type 0
Nowhere P fields = (place : ℕ) → StandsAt P fields place → ⊥

-- exactly one field has this property, the one at the place
pub record IsOnly (P : Option (List ℕ) → Type 0) (fields : List (Option (List ℕ))) (place : ℕ) : Type 0 where
  pub here : StandsAt P fields place
  pub alone : (other : ℕ) → StandsAt P fields other → other ≡ place

-- the name means the field at the place: exactly one field has the name, or none has it and exactly one fits
pub data IsMeant (fields : List (Option (List ℕ))) (name : List ℕ) (place : ℕ) : Type 0 where
  named : IsOnly (HasName name) fields place → IsMeant fields name place
  fitting : Nowhere (HasName name) fields → IsOnly (FitsField name) fields place → IsMeant fields name place

-- no field fits
abbrev pub IsUnknown : List (Option (List ℕ)) → List ℕ → Type 0
IsUnknown fields name = Nowhere (FitsField name) fields

-- otherwise: some field fits, and none is meant
pub record IsAmbiguous (fields : List (Option (List ℕ))) (name : List ℕ) : Type 0 where
  pub known : IsUnknown fields name → ⊥
  pub unmeant : (place : ℕ) → IsMeant fields name place → ⊥

-- what a fault says of a name
abbrev pub IsNameFault : List (Option (List ℕ)) → List ℕ → NameFault → Type 0
IsNameFault fields name fault.Unknown = IsUnknown fields name
IsNameFault fields name fault.Ambiguous = IsAmbiguous fields name
IsNameFault fields name fault.PositionOut = ⊥

-- two places apart, at which fields of this property stand
pub record AreTwo (P : Option (List ℕ) → Type 0) (fields : List (Option (List ℕ))) : Type 0 where
  pub one : ℕ
  pub other : ℕ
  pub apart : one ≡ other → ⊥
  pub here : StandsAt P fields one
  pub there : StandsAt P fields other

-- ---- the same as a function

-- whether the full name is the name, or ends in `::` followed by it
abbrev pub fits : List ℕ → List ℕ → Bool
fits full name = bytes_eq full name || ends_with nat_eq full (colons ++ name)

-- whether the field has the name
abbrev pub has_name : List ℕ → Option (List ℕ) → Bool
has_name name None = false
has_name name (Some full) = bytes_eq full name

-- whether the field has a name, which the name fits
abbrev pub fits_field : List ℕ → Option (List ℕ) → Bool
fits_field name None = false
fits_field name (Some full) = fits full name

-- the places of the fields that pass a test, counted from `at` on
abbrev pub places : (Option (List ℕ) → Bool) → ℕ → List (Option (List ℕ)) → List ℕ
places test at [] = []
places test at (field ∷ fields) = if test field then at ∷ places test (at + 1) fields else places test (at + 1) fields

-- of the fields from a place on
abbrev pub places_from : (Option (List ℕ) → Bool) → List (Option (List ℕ)) → ℕ → List ℕ
places_from test fields start = places test start (drop start fields)

-- the one place; where there is none what is said then, and a name is ambiguous where there are more
abbrev pub only_of : List ℕ → Result ℕ NameFault → Result ℕ NameFault
only_of [] none = none
only_of (place ∷ []) none = Ok place
only_of (place ∷ other ∷ more) none = Err fault.Ambiguous

-- what a name means: the one field that has the name, or where none has it the one that fits
abbrev pub meaning : List (Option (List ℕ)) → List ℕ → Result ℕ NameFault
meaning fields name =
    only_of (places_from (has_name name) fields 0)
    (only_of (places_from (fits_field name) fields 0) (Err fault.Unknown))
