-- The operators computed on small relations.
use Rattle.std.specs.Prelude.{◌≡◌, ℕ, ◌==◌, ◌+◌, pos, Bool, true, false, List, [], ◌∷◌, codes, None, refl, if◌then◌else◌}
use Rattle.std.specs.Int.{int_wrap}
use Rattle.pig_value.specs.declared.functions.Function.TheVariants as function
use Rattle.pig_value.specs.declared.operators.ChainOp.TheVariants as op
use Rattle.pig_value.specs.declared.operators.Dir.TheVariants as dir
use Rattle.pig_value.specs.declared.operators.Rel.TheVariants as rel
use Rattle.pig_value.specs.declared.operators.Side.TheVariants as side
use Rattle.pig_value.specs.Orders.{bag_of}
use Rattle.pig_value.specs.Trees.{Tree, v_null, v_int, v_long, v_chars, v_bag, tuples_of, k_long}
use Rattle.pig_typed.specs.declared.blocks.SortKey.{SortKey}
use Rattle.pig_typed.specs.Typed.{Typed, TypedArgs, TypedItem, TypedBlock, x_int, x_field, x_chain, x_compare, x_not, x_cast, x_project, x_call, no_links, more_links, no_args, more_args}
use Rattle.pig_plan.specs.ByKey.{gathered}
use Rattle.pig_plan.specs.Entries.{key_entries, made_by}
use Rattle.pig_plan.specs.Operators.{Setting, operator_rows}
use Rattle.pig_plan.specs.Plans.{Keyed, PlanOp, p_filter, p_foreach, p_group_all, p_group, p_join, p_union, p_distinct, p_order, p_limit, p_assert, p_rank}

abbrev pub Rows : Type 0
Rows = List (List Tree)

abbrev pub int : ℕ → Tree
int n = v_int (pos n)

abbrev long : ℕ → Tree
long n = v_long (pos n)

abbrev pub letter : ℕ → Tree
letter byte = v_chars (byte ∷ [])

abbrev pub bag : Rows → Tree
bag rows = v_bag (tuples_of rows)

abbrev pub row : Tree → ℕ → List Tree
row key byte = key ∷ letter byte ∷ []

abbrev ints : List ℕ → Rows
ints [] = []
ints (n ∷ ns) = (int n ∷ []) ∷ ints ns

-- rows of two fields; those of LIMIT's source are sorted or not
abbrev setting_of : Bool → Rows → Setting
setting_of sorted kept = record { inputs = []; kept = λ statement. kept; width = λ input. 2; sorted = λ input. sorted }

abbrev pub of : PlanOp → (ℕ → Rows) → Rows
of o rows = operator_rows (setting_of false []) 1 o rows

abbrev pub by : ℕ → Bool → Keyed
by input inner = record { input = input; keys = x_field 0 ∷ []; inner = inner }

-- a: (1, x), (, y), (, z); b: (1, p), (, q); c: (1, s), (1, t), (2, u)
abbrev a : Rows
a = row (int 1) 120 ∷ row v_null 121 ∷ row v_null 122 ∷ []

abbrev b : Rows
b = row (int 1) 112 ∷ row v_null 113 ∷ []

abbrev c : Rows
c = row (int 1) 115 ∷ row (int 1) 116 ∷ row (int 2) 117 ∷ []

abbrev pub inputs : ℕ → Rows
inputs i = if i == 0 then a else if i == 1 then b else if i == 2 then c else []

-- ---- by key

-- one input: null keys form one group
pub group : of (p_group (by 0 false ∷ [])) inputs
    ≡ (v_null ∷ bag (row v_null 121 ∷ row v_null 122 ∷ []) ∷ []) ∷ (int 1 ∷ bag (row (int 1) 120 ∷ []) ∷ []) ∷ []
group = refl

-- two inputs: null keys group apart for each
pub cogroup : of (p_group (by 0 false ∷ by 1 false ∷ [])) inputs
    ≡ (v_null ∷ bag [] ∷ bag (row v_null 113 ∷ []) ∷ [])
    ∷ (v_null ∷ bag (row v_null 121 ∷ row v_null 122 ∷ []) ∷ bag [] ∷ [])
    ∷ (int 1 ∷ bag (row (int 1) 120 ∷ []) ∷ bag (row (int 1) 112 ∷ []) ∷ []) ∷ []
cogroup = refl

inner_cogroup : of (p_group (by 0 false ∷ by 1 true ∷ [])) inputs
    ≡ (v_null ∷ bag [] ∷ bag (row v_null 113 ∷ []) ∷ []) ∷ (int 1 ∷ bag (row (int 1) 120 ∷ []) ∷ bag (row (int 1) 112 ∷ []) ∷ []) ∷ []
inner_cogroup = refl

-- an INNER input drops a key that it has no row of
inner_drops : of (p_group (by 1 true ∷ by 2 false ∷ [])) inputs
    ≡ (v_null ∷ bag (row v_null 113 ∷ []) ∷ bag [] ∷ []) ∷ (int 1 ∷ bag (row (int 1) 112 ∷ []) ∷ bag (row (int 1) 115 ∷ row (int 1) 116 ∷ []) ∷ []) ∷ []
inner_drops = refl

join : of (p_join (by 0 false ∷ by 1 false ∷ []) side.Inner false) inputs ≡ (int 1 ∷ letter 120 ∷ int 1 ∷ letter 112 ∷ []) ∷ []
join = refl

left_join : of (p_join (by 0 false ∷ by 1 false ∷ []) side.Left false) inputs
    ≡ (v_null ∷ letter 121 ∷ v_null ∷ v_null ∷ []) ∷ (v_null ∷ letter 122 ∷ v_null ∷ v_null ∷ []) ∷ (int 1 ∷ letter 120 ∷ int 1 ∷ letter 112 ∷ []) ∷ []
left_join = refl

right_join : of (p_join (by 0 false ∷ by 1 false ∷ []) side.Right false) inputs
    ≡ (v_null ∷ v_null ∷ v_null ∷ letter 113 ∷ []) ∷ (int 1 ∷ letter 120 ∷ int 1 ∷ letter 112 ∷ []) ∷ []
right_join = refl

full_join : of (p_join (by 0 false ∷ by 1 false ∷ []) side.Full false) inputs
    ≡ (v_null ∷ v_null ∷ v_null ∷ letter 113 ∷ [])
    ∷ (v_null ∷ letter 121 ∷ v_null ∷ v_null ∷ [])
    ∷ (v_null ∷ letter 122 ∷ v_null ∷ v_null ∷ [])
    ∷ (int 1 ∷ letter 120 ∷ int 1 ∷ letter 112 ∷ []) ∷ []
full_join = refl

-- nothing on the other side
full_join_of_nothing : of (p_join (by 1 false ∷ by 9 false ∷ []) side.Full false) inputs
    ≡ (v_null ∷ letter 113 ∷ v_null ∷ v_null ∷ []) ∷ (int 1 ∷ letter 112 ∷ v_null ∷ v_null ∷ []) ∷ []
full_join_of_nothing = refl

join_of_three : of (p_join (by 0 false ∷ by 1 false ∷ by 2 false ∷ []) side.Inner false) inputs
    ≡ (int 1 ∷ letter 120 ∷ int 1 ∷ letter 112 ∷ int 1 ∷ letter 115 ∷ []) ∷ (int 1 ∷ letter 120 ∷ int 1 ∷ letter 112 ∷ int 1 ∷ letter 116 ∷ []) ∷ []
join_of_three = refl

-- the same in one word: what is made of each key and the bags of its entries
abbrev in_one_word : PlanOp → (ℕ → Rows) → Rows
in_one_word o rows = bag_of (gathered (made_by (λ input. 2) o) (key_entries o rows))

cogroup_in_one_word : in_one_word (p_group (by 0 false ∷ by 1 true ∷ [])) inputs ≡ of (p_group (by 0 false ∷ by 1 true ∷ [])) inputs
cogroup_in_one_word = refl

full_join_in_one_word : in_one_word (p_join (by 0 false ∷ by 1 false ∷ []) side.Full false) inputs ≡ of (p_join (by 0 false ∷ by 1 false ∷ []) side.Full false) inputs
full_join_in_one_word = refl

group_all_in_one_word : in_one_word (p_group_all 1) inputs ≡ of (p_group_all 1) inputs
group_all_in_one_word = refl

distinct_with_nulls : of (p_distinct 0) (λ i. row v_null 121 ∷ row (int 1) 120 ∷ row v_null 121 ∷ (v_null ∷ v_null ∷ []) ∷ row (int 1) 120 ∷ [])
    ≡ (v_null ∷ v_null ∷ []) ∷ row v_null 121 ∷ row (int 1) 120 ∷ []
distinct_with_nulls = refl

group_all_of_nothing : of (p_group_all 9) inputs ≡ []
group_all_of_nothing = refl

group_all_of_some : of (p_group_all 1) inputs ≡ (v_chars (codes "all") ∷ bag (row v_null 113 ∷ row (int 1) 112 ∷ []) ∷ []) ∷ []
group_all_of_some = refl

-- ---- of each row

abbrev plain : Typed → TypedItem
plain e = record { value = e; flatten = false; width = 1 }

abbrev generate : List TypedItem → TypedBlock
generate items = record { steps = []; items = items }

abbrev one_arg : Typed → TypedArgs
one_arg e = more_args e no_args

-- `GENERATE group, COUNT(a.x), COUNT_STAR(a.x), SUM(a.x), MIN(a.x)` of a group whose x are null
abbrev column : Typed
column = x_project (x_field 1) (1 ∷ []) true

null_aggregates : of (p_foreach 0 (generate (
    plain (x_field 0) ∷ plain (x_call function.Count (one_arg column)) ∷ plain (x_call function.CountStar (one_arg column)) ∷
    plain (x_call function.Sum (one_arg column)) ∷ plain (x_call function.Min (one_arg column)) ∷ [])))
    (λ i. of (p_group (by 0 false ∷ [])) (λ j. (letter 103 ∷ v_null ∷ []) ∷ (letter 103 ∷ v_null ∷ []) ∷ []))
    ≡ (letter 103 ∷ long 0 ∷ long 2 ∷ v_null ∷ v_null ∷ []) ∷ []
unfolding int_wrap
null_aggregates = refl

-- COUNT counts the rows whose first field is not null
counted_column : of (p_foreach 0 (generate (plain (x_field 0) ∷ plain (x_call function.Count (one_arg (x_field 1))) ∷ [])))
    (λ i. of (p_group (record { input = 0; keys = x_field 1 ∷ []; inner = false } ∷ [])) (λ j. (v_null ∷ int 1 ∷ []) ∷ (letter 120 ∷ int 1 ∷ []) ∷ []))
    ≡ (int 1 ∷ long 1 ∷ []) ∷ []
unfolding int_wrap
counted_column = refl

-- `SPLIT a INTO b IF x > 2, c IF x < 2, d OTHERWISE` of 1, 2, 3 and null, which goes nowhere
abbrev above : Typed
above = x_compare rel.Gt (x_field 0) (x_int (pos 2))

abbrev below : Typed
below = x_compare rel.Lt (x_field 0) (x_int (pos 2))

abbrev split : Rows
split = (v_null ∷ []) ∷ ints (1 ∷ 2 ∷ 3 ∷ [])

split_above : of (p_filter 0 above) (λ i. split) ≡ ints (3 ∷ [])
split_above = refl

split_below : of (p_filter 0 below) (λ i. split) ≡ ints (1 ∷ [])
split_below = refl

split_otherwise : of (p_filter 0 (x_not (x_chain above (more_links op.Or below no_links)))) (λ i. split) ≡ ints (2 ∷ [])
split_otherwise = refl

-- an ASSERT and a STORE hand their rows on, as a list
asserted : of (p_assert 0 above None) (λ i. ints (3 ∷ 1 ∷ [])) ≡ ints (3 ∷ 1 ∷ [])
asserted = refl

-- ---- in order

abbrev asc : ℕ → SortKey
asc position = record { position = position; dir = dir.Asc }

abbrev pub desc : ℕ → SortKey
desc position = record { position = position; dir = dir.Desc }

-- an int that is made a long, and a long
widening_union : of (p_order 0 (asc 0 ∷ []))
    (λ i. of (p_union (0 ∷ 1 ∷ [])) (λ j. if j == 0 then of (p_foreach 0 (generate (plain (x_cast k_long (x_field 0)) ∷ []))) (λ k. ints (1 ∷ [])) else (long 2147483648 ∷ []) ∷ []))
    ≡ (long 1 ∷ []) ∷ (long 2147483648 ∷ []) ∷ []
widening_union = refl

union_keeps_duplicates : of (p_union (0 ∷ 1 ∷ 0 ∷ [])) (λ j. ints ((j + 1) ∷ [])) ≡ ints (1 ∷ 1 ∷ 2 ∷ [])
union_keeps_duplicates = refl

abbrev pub lettered : Rows
lettered = row (int 2) 97 ∷ row v_null 98 ∷ row (int 3) 99 ∷ row (int 2) 65 ∷ []

-- equal keys go by the whole row, ascending, and null is the least
descending_order : of (p_order 0 (desc 0 ∷ [])) (λ i. lettered) ≡ row (int 3) 99 ∷ row (int 2) 65 ∷ row (int 2) 97 ∷ row v_null 98 ∷ []
descending_order = refl

limit_of_sorted : operator_rows (setting_of true []) 1 (p_limit 0 2) (λ i. row (int 3) 99 ∷ row (int 2) 65 ∷ row v_null 98 ∷ []) ≡ row (int 3) 99 ∷ row (int 2) 65 ∷ []
limit_of_sorted = refl

-- a bare LIMIT has the rows that were kept, as a bag
bare_limit : operator_rows (setting_of false (ints (3 ∷ 1 ∷ []))) 1 (p_limit 0 2) (λ i. ints (1 ∷ 2 ∷ 3 ∷ [])) ≡ ints (1 ∷ 3 ∷ [])
bare_limit = refl

abbrev ranked : Rows
ranked = row (int 3) 97 ∷ row (int 1) 98 ∷ row (int 3) 99 ∷ row v_null 100 ∷ []

ranks : of (p_rank 0 (desc 0 ∷ []) false) (λ i. ranked)
    ≡ (long 1 ∷ row (int 3) 97) ∷ (long 1 ∷ row (int 3) 99) ∷ (long 3 ∷ row (int 1) 98) ∷ (long 4 ∷ row v_null 100) ∷ []
unfolding int_wrap
ranks = refl

dense_ranks : of (p_rank 0 (desc 0 ∷ []) true) (λ i. ranked)
    ≡ (long 1 ∷ row (int 3) 97) ∷ (long 1 ∷ row (int 3) 99) ∷ (long 2 ∷ row (int 1) 98) ∷ (long 3 ∷ row v_null 100) ∷ []
unfolding int_wrap
dense_ranks = refl
