-- Rows under their keys, and how an operator by key brings the rows of its inputs together.
use Rattle.std.specs.Prelude.{ℕ, List, [], ◌∷◌, Option, Some, None, codes}
use Rattle.pig_value.specs.Gathering.{Entry}
use Rattle.pig_value.specs.declared.operators.Side.{Side}
use Rattle.pig_value.specs.Trees.{Tree, fields_of, v_chars, v_tuple}
use Rattle.pig_typed.specs.Typed.{Typed}
use Rattle.pig_plan.specs.ByKey.{entries_of_input, gathered, key_of, outer_of}
use Rattle.pig_plan.specs.Operators.{keyed_entries, keys_of}
use Rattle.pig_plan.specs.Plans.{Keyed}
use Rattle.pig_operators.specs.declared.by_key.Gathering.{Gathering}
use Rattle.pig_operators.specs.Given.{made}

-- rows of the input numbered i under their keys
abbrev pub keyed_rows : List Typed → ℕ → List (List Tree) → List Entry
keyed_rows keys i rows = entries_of_input (λ row. key_of (keys_of keys row)) i rows

-- rows under the one key of GROUP ALL
abbrev pub all_rows_keyed : List (List Tree) → List Entry
all_rows_keyed rows = entries_of_input (λ row. v_chars (codes "all")) 0 rows

-- a row under itself, as DISTINCT has it
abbrev pub row_entry : List Tree → Entry
row_entry row = record { key = v_tuple (fields_of row); input = 0; row = row }

-- the rows of inputs that are brought together in this way, and no rows where there is none
abbrev pub brought_together : Option Gathering → List Keyed → (ℕ → List (List Tree)) → List (List Tree)
brought_together None inputs rows = []
brought_together (Some how) inputs rows = gathered (made how) (keyed_entries 0 inputs rows)

-- a JOIN that keeps a side, of two inputs
abbrev pub outer_rows : Side → (ℕ → ℕ) → List Keyed → (ℕ → List (List Tree)) → List (List Tree)
outer_rows s width (a ∷ b ∷ inputs) rows = gathered (outer_of s (width a.input) (width b.input)) (keyed_entries 0 (a ∷ b ∷ inputs) rows)
outer_rows s width inputs rows = []
