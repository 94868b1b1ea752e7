-- Blocks with cuts and without, the parts of worked rows, and what they are finished to, computed.
use Rattle.std.proofs.Common.{◌≡◌, [], ◌∷◌, refl}
use Rattle.std.specs.Prelude.{◌++◌, ℕ, List, true, false, Some, None, pos, negsuc, codes}
use Rattle.std.specs.Int.{int_wrap}
use Rattle.pig_value.specs.Gathering.{Entry}
use Rattle.pig_value.specs.Trees.{Tree, v_null, v_int, v_long, v_chars}
use Rattle.pig_value.specs.declared.functions.Function.{Function}
use Rattle.pig_value.specs.declared.functions.Function.TheVariants as f
use Rattle.pig_typed.specs.Blocks.{foreach_all}
use Rattle.pig_typed.specs.Typed.{Typed, TypedBlock, TypedItem, more_args, no_args, s_take, x_call, x_field, x_null, x_project}
use Rattle.pig_algebra.specs.Combining.{combined, folded, grouped, parts_of_rows}
use Rattle.pig_algebra.specs.Cuts.{c_key, c_part, cuts_of, is_combinable}

abbrev item : Typed → TypedItem
item e = record { value = e; flatten = false; width = 1 }

abbrev block : List TypedItem → TypedBlock
block items = record { steps = []; items = items }

-- `group`, the bag, and a column of it
abbrev group : Typed
group = x_field 0

abbrev bag : Typed
bag = x_field 1

abbrev column : ℕ → Typed
column n = x_project bag (n ∷ []) true

abbrev of : Function → Typed → TypedItem
of function e = item (x_call function (more_args e no_args))

-- ---- which blocks have cuts

-- `GENERATE group, COUNT(a.x), COUNT_STAR(a.x), SUM(a.x), MIN(a.x)`, where x is the second column
abbrev aggregates : TypedBlock
aggregates = block (item group ∷ of f.Count (column 1) ∷ of f.CountStar (column 1) ∷ of f.Sum (column 1) ∷ of f.Min (column 1) ∷ [])

aggregates_combine : cuts_of aggregates ≡ Some (c_key group ∷ c_part f.Count (Some (1 ∷ [])) ∷ c_part f.CountStar (Some (1 ∷ []))
    ∷ c_part f.Sum (Some (1 ∷ [])) ∷ c_part f.Min (Some (1 ∷ [])) ∷ [])
aggregates_combine = refl

-- `GENERATE group.k, COUNT(a)` of a key of several fields
of_a_field : cuts_of (block (item (x_project group (0 ∷ []) true) ∷ of f.Count bag ∷ [])) ≡ Some (c_key (x_project group (0 ∷ []) true) ∷ c_part f.Count None ∷ [])
of_a_field = refl

the_bag_itself_is_no_part : is_combinable (block (item group ∷ item bag ∷ [])) ≡ false
the_bag_itself_is_no_part = refl

size_is_no_part : is_combinable (block (of f.Size bag ∷ [])) ≡ false
size_is_no_part = refl

an_expression_is_no_column : is_combinable (block (of f.Count x_null ∷ [])) ≡ false
an_expression_is_no_column = refl

a_key_is_no_bag : is_combinable (block (of f.Count group ∷ [])) ≡ false
a_key_is_no_bag = refl

flatten_has_no_cut : is_combinable (block (record { value = group; flatten = true; width = 1 } ∷ [])) ≡ false
flatten_has_no_cut = refl

a_step_has_no_cut : is_combinable (record { steps = s_take bag ∷ []; items = item group ∷ [] }) ≡ false
a_step_has_no_cut = refl

-- ---- two rows of the key g, whose second column is null, in one task and in two

abbrev g : Tree
g = v_chars (codes "g")

abbrev entry : Tree → List Tree → Entry
entry key row = record { key = key; input = 0; row = row }

abbrev nulls : Entry
nulls = entry g (g ∷ v_null ∷ [])

abbrev null_parts : List Tree
null_parts = v_long (pos 0) ∷ v_long (pos 2) ∷ v_null ∷ v_null ∷ []

one_entry : combined (parts_of_rows aggregates) (nulls ∷ nulls ∷ []) ≡ entry g null_parts ∷ []
unfolding int_wrap
one_entry = refl

abbrev null_row : List Tree
null_row = g ∷ null_parts

finishes_one : folded aggregates (entry g null_parts ∷ []) ≡ null_row ∷ []
unfolding int_wrap
finishes_one = refl

finishes_two : folded aggregates (entry g (v_long (pos 0) ∷ v_long (pos 1) ∷ v_null ∷ v_null ∷ []) ∷ entry g (v_long (pos 0) ∷ v_long (pos 1) ∷ v_null ∷ v_null ∷ []) ∷ []) ≡ null_row ∷ []
unfolding int_wrap
finishes_two = refl

the_foreach_makes_it : foreach_all aggregates (grouped (nulls ∷ nulls ∷ [])) ≡ null_row ∷ []
unfolding int_wrap
the_foreach_makes_it = refl

-- ---- the rows (null, 1) and (x, 1) under 1: COUNT of the bag counts the first field

abbrev counted : TypedBlock
counted = block (item group ∷ of f.Count bag ∷ [])

abbrev a_one : Entry
a_one = entry (v_int (pos 1)) (v_null ∷ v_int (pos 1) ∷ [])

abbrev x_one : Entry
x_one = entry (v_int (pos 1)) (v_chars (codes "x") ∷ v_int (pos 1) ∷ [])

counts_in_two_tasks : folded counted (combined (parts_of_rows counted) (a_one ∷ []) ++ combined (parts_of_rows counted) (x_one ∷ []))
    ≡ (v_int (pos 1) ∷ v_long (pos 1) ∷ []) ∷ []
unfolding int_wrap
counts_in_two_tasks = refl

-- ---- a sum that wraps: one task, and one for each row

abbrev summed : TypedBlock
summed = block (of f.Sum (column 0) ∷ [])

abbrev long_entry : Tree → Entry
long_entry v = entry (v_chars (codes "all")) (v ∷ [])

abbrev wrapped : Tree
wrapped = v_long (negsuc 9223372036854775802)

wraps_in_one : combined (parts_of_rows summed) (long_entry (v_long (pos 9223372036854775807)) ∷ long_entry (v_long (pos 1)) ∷ long_entry (v_long (pos 5)) ∷ []) ≡ long_entry wrapped ∷ []
unfolding int_wrap
wraps_in_one = refl

wraps_in_three : folded summed (long_entry (v_long (pos 5)) ∷ long_entry (v_long (pos 9223372036854775807)) ∷ long_entry (v_long (pos 1)) ∷ []) ≡ (wrapped ∷ []) ∷ []
unfolding int_wrap
wraps_in_three = refl

-- ---- a key that is alone gives one entry, and other keys do not meet it

two_keys : combined (parts_of_rows counted) (x_one ∷ nulls ∷ a_one ∷ []) ≡ entry (v_int (pos 1)) (v_long (pos 1) ∷ []) ∷ entry g (v_long (pos 1) ∷ []) ∷ []
unfolding int_wrap
two_keys = refl
