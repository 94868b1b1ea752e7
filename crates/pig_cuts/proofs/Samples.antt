-- Cuts computed on small plans.
use Rattle.std.specs.Prelude.{◌≡◌, ℕ, Bool, pos, true, false, List, [], ◌∷◌, Some, refl}
use Rattle.pig_value.specs.declared.functions.Function.TheVariants as f
use Rattle.pig_value.specs.declared.inputs.Column.{Column}
use Rattle.pig_value.specs.declared.operators.Side.TheVariants as side
use Rattle.pig_value.specs.Trees.{Tree, v_int, v_bag, v_null, tuples_of}
use Rattle.pig_typed.specs.Typed.{Typed, TypedItem, x_field, x_project, x_call, no_args, more_args}
use Rattle.pig_plan.specs.Plans.{p_load, p_foreach, p_group, p_join}
use Rattle.pig_cuts.specs.Cuts.{NodeCut, cut_at, cut_rows}
use Rattle.pig_cuts.specs.Fits.{fit, sees}
use Rattle.pig_cuts.specs.Plans.{fit_op, may_fit, own_cut, whole_field}

abbrev widths : ℕ → ℕ
widths i = 4

-- columns 0, 1 and 3 of four stay
abbrev marks : List Bool
marks = true ∷ true ∷ false ∷ true ∷ []

abbrev three : NodeCut
three = Some (whole_field 0 ∷ whole_field 1 ∷ whole_field 3 ∷ [])

load_is : (a b c d : Column) → own_cut (cut_at []) widths marks (p_load [] 9 (a ∷ b ∷ c ∷ d ∷ [])) ≡ three
load_is a b c d = refl

columns_are : (a b c d : Column) → fit_op (cut_at []) marks (p_load [] 9 (a ∷ b ∷ c ∷ d ∷ [])) ≡ p_load [] 9 (a ∷ b ∷ d ∷ [])
columns_are a b c d = refl

-- a GROUP of it by $1
abbrev grouped : NodeCut
grouped = Some (whole_field 0 ∷ record { position = 1; like = Some 0 } ∷ [])

group_is : own_cut (cut_at (three ∷ [])) widths [] (p_group (record { input = 0; keys = x_field 1 ∷ []; inner = false } ∷ [])) ≡ grouped
group_is = refl

-- and a FOREACH of that: COUNT($1), SUM($1.3), which reads SUM($1.2) then
abbrev cuts : ℕ → NodeCut
cuts = cut_at (three ∷ grouped ∷ [])

abbrev sum_of : ℕ → Typed
sum_of n = x_call f.Sum (more_args (x_project (x_field 1) (n ∷ []) true) no_args)

abbrev count_of : Typed
count_of = x_call f.Count (more_args (x_field 1) no_args)

sum_fits : fit cuts (cuts 1) (sum_of 3) ≡ sum_of 2
sum_fits = refl

sum_sees : sees cuts (cuts 1) (sum_of 3) ≡ true
sum_sees = refl

no_sum : sees cuts (cuts 1) (sum_of 2) ≡ false
no_sum = refl

count_sees : sees cuts (cuts 1) count_of ≡ true
count_sees = refl

-- without column 0 the COUNT doesn't see what it looks at, and the bag as a value is not there
abbrev headless : ℕ → NodeCut
headless = cut_at (Some (whole_field 1 ∷ whole_field 3 ∷ []) ∷ grouped ∷ [])

no_count : sees headless (headless 1) count_of ≡ false
no_count = refl

no_bag : sees cuts (cuts 1) (x_field 1) ≡ false
no_bag = refl

-- a GROUP of the GROUP: its bag has the groups, whose bags are cut
twice_is : own_cut cuts widths [] (p_group (record { input = 1; keys = x_field 0 ∷ []; inner = false } ∷ [])) ≡ Some (whole_field 0 ∷ record { position = 1; like = Some 1 } ∷ [])
twice_is = refl

key_sees : may_fit cuts [] (p_group (record { input = 1; keys = x_field 0 ∷ []; inner = false } ∷ [])) ≡ true
key_sees = refl

-- a JOIN of the LOAD and of a whole node
join_is : own_cut cuts widths [] (p_join (record { input = 0; keys = x_field 1 ∷ []; inner = false } ∷ record { input = 7; keys = x_field 0 ∷ []; inner = false } ∷ []) side.Inner false)
    ≡ Some (whole_field 0 ∷ whole_field 1 ∷ whole_field 3 ∷ whole_field 4 ∷ whole_field 5 ∷ whole_field 6 ∷ whole_field 7 ∷ [])
join_is = refl

-- an item that goes: the FLATTEN before it gives two fields
abbrev flat : TypedItem
flat = record { value = x_field 1; flatten = true; width = 2 }

abbrev plain : ℕ → TypedItem
plain n = record { value = x_field n; flatten = false; width = 1 }

foreach_is : own_cut (cut_at []) widths (true ∷ false ∷ true ∷ []) (p_foreach 0 (record { steps = []; items = flat ∷ plain 0 ∷ plain 2 ∷ [] })) ≡ Some (whole_field 0 ∷ whole_field 1 ∷ whole_field 3 ∷ [])
foreach_is = refl

no_flatten_goes : may_fit (cut_at []) (false ∷ true ∷ []) (p_foreach 0 (record { steps = []; items = flat ∷ plain 0 ∷ [] })) ≡ false
no_flatten_goes = refl

-- rows of the GROUP, cut
abbrev one : Tree
one = v_int (pos 1)

abbrev two : Tree
two = v_int (pos 2)

rows_are : cut_rows (three ∷ grouped ∷ []) 1 ((two ∷ v_bag (tuples_of ((one ∷ two ∷ v_null ∷ two ∷ []) ∷ [])) ∷ []) ∷ []) ≡ (two ∷ v_bag (tuples_of ((one ∷ two ∷ two ∷ []) ∷ [])) ∷ []) ∷ []
rows_are = refl
