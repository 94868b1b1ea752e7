-- Parts: what an algebraic function finds in some of the rows of a bag, and what two parts are together.
use Rattle.std.specs.Prelude.{◌≡◌, ℤ, FitsSigned, true, List, [], ◌∷◌, ◌++◌, Option, Some, None, ⊤, ◌⊎◌, if◌then◌else◌}
use Rattle.std.specs.Int.{w64}
use Rattle.std.specs.List.{AllByRecursion}
use Rattle.pig_value.specs.Functions.{apply_tree, bag_tree, column_tree, is_present, is_ranked, looked_at}
use Rattle.pig_value.specs.Trees.{Tree, fields_of, or_null, v_long, v_null, v_tuple}
use Rattle.pig_value.specs.declared.functions.Function.{Function}
use Rattle.pig_value.specs.declared.functions.Function.TheVariants as f
use Rattle.pig_builtins.specs.Folds.{merge_found}

-- ---- the parts of any function

-- the part of no row, of one row, and of the rows of two parts
pub record Parts : Type 0 where
  pub unit : Tree
  pub initial : List Tree → Tree
  pub merge : Tree → Tree → Tree

-- a way to bring rows together, one by one and part by part
pub data Way : Type 0 where
  no_row : Way
  one_row : List Tree → Way
  both : Way → Way → Way

-- the rows of a way, in its order
abbrev pub rows_in : Way → List (List Tree)
rows_in no_row = []
rows_in (one_row row) = row ∷ []
rows_in (both a b) = rows_in a ++ rows_in b

-- the part that a way ends with
abbrev pub merged_by : Parts → Way → Tree
merged_by parts no_row = parts.unit
merged_by parts (one_row row) = parts.initial row
merged_by parts (both a b) = parts.merge (merged_by parts a) (merged_by parts b)

-- ---- the parts of COUNT, COUNT_STAR, SUM, MIN and MAX

-- what a part has found: nothing where it is null
abbrev pub part_found : Tree → Option Tree
part_found part = if is_present part then Some part else None

abbrev pub initial_part : Function → List Tree → Tree
initial_part function row = column_tree function (looked_at function row ∷ [])

abbrev pub merge_parts : Function → Tree → Tree → Tree
merge_parts function a b = or_null (merge_found function (part_found a) (part_found b))

abbrev pub parts_of : Function → Parts
parts_of function = record { unit = column_tree function []; initial = initial_part function; merge = merge_parts function }

-- the function that brings the parts of a function together: numbers of rows are added
abbrev pub merging : Function → Function
merging f.Count = f.Sum
merging f.CountStar = f.Sum
merging function = function

-- a long in its range
pub data IsLong : Tree → Type 0 where
  is_long : (n : ℤ) → FitsSigned w64 n → IsLong (v_long n)

-- a part of COUNT is a long, one of SUM a long or null, one of MIN and MAX a value that they choose among or null
abbrev pub IsPart : Function → Tree → Type 0
IsPart f.Count part = IsLong part
IsPart f.CountStar part = IsLong part
IsPart f.Sum part = (part ≡ v_null) ⊎ IsLong part
IsPart f.Min part = (part ≡ v_null) ⊎ (is_ranked part ≡ true)
IsPart f.Max part = (part ≡ v_null) ⊎ (is_ranked part ≡ true)
IsPart function part = ⊥

-- what the function gives of the bag of rows
abbrev pub value_of : Function → List (List Tree) → Tree
value_of function rows = apply_tree function (bag_tree rows ∷ [])

-- ---- the parts of DISTINCT: the row as a tuple, or null

abbrev pub row_part : List Tree → Tree
row_part row = v_tuple (fields_of row)

abbrev pub either_part : Tree → Tree → Tree
either_part a b = if is_present a then a else b

abbrev pub row_parts : Parts
row_parts = record { unit = v_null; initial = row_part; merge = either_part }

pub data IsRowPart : Tree → Type 0 where
  is_none : IsRowPart v_null
  is_row : (row : List Tree) → IsRowPart (row_part row)

-- two parts of one row: they are the same, or one of them is null
abbrev pub AreOfOne : Tree → Tree → Type 0
AreOfOne a b = (a ≡ b) ⊎ ((a ≡ v_null) ⊎ (b ≡ v_null))

-- all rows are one
abbrev pub AreOne : List (List Tree) → Type 0
AreOne [] = ⊤
AreOne (row ∷ rows) = AllByRecursion (λ other. other ≡ row) rows

-- the one row as a tuple, or null where there is none
abbrev pub the_row : List (List Tree) → Tree
the_row [] = v_null
the_row (row ∷ rows) = row_part row
