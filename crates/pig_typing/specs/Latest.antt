-- Nested aliases: an alias may be given again, and then means its latest step.
-- (Pig Latin Basics: "FOREACH", nested blocks.)
use Rattle.std.specs.Borrow.{Bor}
use Rattle.std.specs.Prelude.{◌≡◌, ◌<◌, ◌+◌, ℕ, List, [], ◌∷◌, map, length, slice_get, Option, Some, None, IfSome, if◌then◌else◌}
use Rattle.std.specs.Option.{option_map}
use Rattle.std.specs.Str.{bytes_eq}
use Rattle.pig_schema.specs.FieldTrees.{FieldTree, named_tree}
use Rattle.pig_schema.specs.declared.schema.Field.{Field}
use Rattle.pig_typing.specs.declared.locals.Local.{Local}

abbrev pub local_of : Local → List ℕ × FieldTree
local_of l = (l.alias, named_tree l.column)

-- what is found later, or else what is found here
abbrev pub later_or : {A : Type 0} → Option A → Option A → Option A
later_or (Some later) here = Some later
later_or None here = here

abbrev pub named_here : List ℕ → ℕ → List ℕ × FieldTree → Option (ℕ × FieldTree)
named_here alias n l = if bytes_eq l.0 alias then Some (n, l.1) else None

-- the number of the last step that has the alias, the first step having the number `n`, and its column
abbrev pub latest_from : ℕ → List ℕ → List (List ℕ × FieldTree) → Option (ℕ × FieldTree)
latest_from n alias [] = None
latest_from n alias (l ∷ ls) = later_or (latest_from (n + 1) alias ls) (named_here alias n l)

abbrev pub latest : List ℕ → List (List ℕ × FieldTree) → Option (ℕ × FieldTree)
latest = latest_from 0

-- a number or a place, and the column that stands there
abbrev pub step_tree : ℕ × Bor Field → ℕ × FieldTree
step_tree p = (p.0, named_tree p.1.now)

-- ---- an index

-- the step of a number, if one is told
abbrev pub step_in : List Local → Option ℕ → Option (ℕ × FieldTree)
step_in given None = None
step_in given (Some n) = option_map (λ l. (n, named_tree l.column)) (slice_get given n)

-- the numbers are those of the latest steps
abbrev pub IsIndex : List Local → (List ℕ → Option ℕ) → Type 0
IsIndex given number_of =
    (alias : List ℕ) → (step_in given (number_of alias) ≡ latest alias (map local_of given)) × IfSome (number_of alias) (λ n. n < length given)
