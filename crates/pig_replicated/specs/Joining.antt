-- A replicated JOIN: the rows of the first input come one by one, and each is joined with its matches in the other inputs, which are
-- held in lookups.
-- (Pig Latin Basics: "JOIN (inner)", "JOIN (outer)", "Replicated Joins".)
use Rattle.std.specs.Prelude.{ℕ, List, [], ◌∷◌, ◌++◌, map, Option, Some}
use Rattle.std.specs.List.{flat_map}
use Rattle.pig_value.specs.Trees.{Tree}
use Rattle.pig_typed.specs.Products.{product}
use Rattle.pig_typed.specs.Typed.{Typed}
use Rattle.pig_plan.specs.ByKey.{nulls}
use Rattle.pig_plan.specs.Plans.{Keyed}
use Rattle.pig_replicated.specs.Holding.{KeyedRow, key_in, lookup_of, matches_in}

-- the joinings of a row with one match of each side, the first side slowest
abbrev pub partners : List (List KeyedRow) → Tree → List Tree → List (List Tree)
partners sides key row = map (λ more. row ++ more) (product (map (λ side. matches_in side key) sides))

-- where nothing is joined, the row stands alone with so many nulls, if it is to be kept
abbrev pub or_alone : Option ℕ → List Tree → List (List Tree) → List (List Tree)
or_alone (Some width) row [] = (row ++ nulls width) ∷ []
or_alone fill row joined = joined

-- what a row of the first input, with its key, gives
abbrev pub probe_rows : List (List KeyedRow) → Option ℕ → Tree → List Tree → List (List Tree)
probe_rows sides fill key row = or_alone fill row (partners sides key row)

-- ---- whole inputs

-- the lookups of inputs
abbrev pub sides_of : List Keyed → (ℕ → List (List Tree)) → List (List KeyedRow)
sides_of inputs rows = map (λ input. lookup_of input.keys (rows input.input)) inputs

-- what rows of the first input give, one after another
abbrev pub probed : List (List KeyedRow) → Option ℕ → List Typed → List (List Tree) → List (List Tree)
probed sides fill keys rows = flat_map (λ row. probe_rows sides fill (key_in keys row) row) rows
