-- What is found for each cut in the rows of a key.
use Rattle.std.specs.Prelude.{ℕ, List, [], ◌∷◌, map, Option, Some, None, ⊤, if◌then◌else◌}
use Rattle.std.specs.Option.{option_map, unwrap_or}
use Rattle.pig_value.specs.Functions.{column_found, looked_at}
use Rattle.pig_value.specs.Trees.{Tree, or_null, tree, v_long, v_null}
use Rattle.pig_value.specs.Valid.{IsValue}
use Rattle.pig_value.specs.declared.functions.Function.{Function}
use Rattle.pig_value.specs.declared.functions.Function.TheVariants as f
use Rattle.pig_builtins.specs.Folds.{is_algebraic, merge_found}
use Rattle.pig_typed.specs.Operators.{pick}
use Rattle.pig_algebra.specs.Combining.{seen_in}
use Rattle.pig_algebra.specs.Cuts.{TypedCut, c_key, c_part, c_row}
use Rattle.pig_combine.specs.declared.tally.Tally.{Tally}
use Rattle.pig_combine.specs.declared.tally.Tally.TheVariants as tally

-- of a cut without a part, of the row itself, of an algebraic function, and of one that is not algebraic
pub data Told : Type 0 where
  t_key : Told
  t_row : Told
  t_found : Function → Option Tree → Told
  t_other : Told

-- what is found for a cut in rows
abbrev pub found_by : List (List Tree) → TypedCut → Told
found_by rows (c_key e) = t_key
found_by rows (c_part function columns) =
    if is_algebraic function
    then t_found function (column_found function (map (looked_at function) (seen_in columns rows)))
    else t_other
found_by rows c_row = t_row

-- the part of it, where there is one
abbrev pub part_told : Tree → Told → List Tree
part_told key t_key = []
part_told key t_row = key ∷ []
part_told key (t_found function found) = or_null found ∷ []
part_told key t_other = v_null ∷ []

-- what a tally tells
abbrev pub told : Tally → Told
told tally.Key = t_key
told tally.Row = t_row
told (tally.Count n) = t_found f.Count (Some (v_long n))
told (tally.CountStar n) = t_found f.CountStar (Some (v_long n))
told tally.NoSum = t_found f.Sum None
told (tally.Sum total) = t_found f.Sum (Some (v_long total))
told tally.NoMin = t_found f.Min None
told (tally.Min best) = t_found f.Min (Some (tree best))
told tally.NoMax = t_found f.Max None
told (tally.Max best) = t_found f.Max (Some (tree best))
told tally.Other = t_other

-- what is told with one more value
abbrev pub told_more : Told → Tree → Told
told_more (t_found function found) v = t_found function (merge_found function found (column_found function (v ∷ [])))
told_more t v = t

-- what is told after a change, if there is one
abbrev pub told_after : Told → Option Tally → Told
told_after before next = unwrap_or (option_map told next) before

abbrev pub told_next : Tally → Option Tally → Told
told_next before next = told_after (told before) next

-- what a tally holds is of values
abbrev pub IsHeld : Tally → Type 0
IsHeld (tally.Min best) = IsValue (tree best)
IsHeld (tally.Max best) = IsValue (tree best)
IsHeld t = ⊤

abbrev pub IsHeldNext : Option Tally → Type 0
IsHeldNext None = ⊤
IsHeldNext (Some t) = IsHeld t

-- the fields of a row that a cut looks at
abbrev pub seen_row : Option (List ℕ) → List Tree → List Tree
seen_row None row = row
seen_row (Some fields) row = pick fields row
