-- What is found in worked rows, and the entry of a group, computed.
use Rattle.std.proofs.Common.{◌≡◌, [], ◌∷◌, refl}
use Rattle.std.specs.Prelude.{List, Some, None, map, pos, codes}
use Rattle.std.specs.Int.{int_wrap}
use Rattle.pig_value.specs.Gathering.{Entry}
use Rattle.pig_value.specs.Trees.{Tree, v_null, v_int, v_long, v_chars}
use Rattle.pig_value.specs.declared.functions.Function.TheVariants as f
use Rattle.pig_typed.specs.Typed.{x_field}
use Rattle.pig_algebra.specs.Cuts.{TypedCut, c_key, c_part}
use Rattle.pig_combine.specs.Holdings.{entry_of, entry_told, rows_under}
use Rattle.pig_combine.specs.Tallies.{found_by, t_found, t_key, t_other, t_row}

-- the rows (null, 1) and (x, 2) under 1, and (y, 3) under 2
abbrev added : List Entry
added =
    entry_of (v_int (pos 1)) (v_null ∷ v_int (pos 1) ∷ []) ∷ entry_of (v_int (pos 2)) (v_chars (codes "y") ∷ v_int (pos 3) ∷ [])
    ∷ entry_of (v_int (pos 1)) (v_chars (codes "x") ∷ v_int (pos 2) ∷ []) ∷ []

abbrev cuts : List TypedCut
cuts = c_key (x_field 0) ∷ c_part f.Count None ∷ c_part f.Sum (Some (1 ∷ [])) ∷ c_part f.Min None ∷ c_part f.Size None ∷ []

finds_under_one : map (found_by (rows_under (v_int (pos 1)) added)) cuts
    ≡ t_key ∷ t_found f.Count (Some (v_long (pos 1))) ∷ t_found f.Sum (Some (v_long (pos 3))) ∷ t_found f.Min None ∷ t_other ∷ []
unfolding int_wrap
finds_under_one = refl

abbrev key : Tree
key = v_int (pos 1)

the_entry : entry_told (record { key = key; told = t_key ∷ t_found f.Count (Some (v_long (pos 1))) ∷ t_found f.Min None ∷ t_other ∷ [] })
    ≡ entry_of key (v_long (pos 1) ∷ v_null ∷ v_null ∷ [])
the_entry = refl

the_row_is_the_key : entry_told (record { key = key; told = t_row ∷ [] }) ≡ entry_of key (key ∷ [])
the_row_is_the_key = refl
