-- Wrong definitions of operators, and small relations on which each gives other rows than the right one.
use Rattle.std.specs.Prelude.{◌≡◌, ℕ, Bool, false, List, [], ◌∷◌, length, refl, if◌then◌else◌}
use Rattle.std.proofs.Common.{ap, arith, true≢false}
use Rattle.std.specs.List.{flat_map, range_with_len}
use Rattle.std.specs.Ordering.{is_eq}
use Rattle.pig_value.specs.Gathering.{Entry, in_part}
use Rattle.pig_value.specs.Orders.{bag_of, tree_cmp}
use Rattle.pig_value.specs.Sorts.{sort}
use Rattle.pig_value.specs.Trees.{Tree, at, v_null}
use Rattle.pig_typed.specs.declared.blocks.SortKey.{SortKey}
use Rattle.pig_typed.specs.Blocks.{keys_cmp}
use Rattle.pig_plan.specs.ByKey.{all_there, bags_of, gathered, group_of, holds_null, kept_where}
use Rattle.pig_plan.specs.Operators.{keyed_entries, order_rows}
use Rattle.pig_plan.specs.Plans.{p_group}
use Rattle.pig_plan.proofs.Samples.{Rows, bag, by, cogroup, desc, group, inputs, int, lettered, letter, of, row}

-- lists of unlike lengths are not the same
unlike : (xs ys : Rows) (m n : ℕ) → length xs ≡ m → length ys ≡ n → (m ≡ n → ⊥) → xs ≡ ys → ⊥
unlike xs ys m n h g differ e = differ (let same = ap length e in omega (arith, same, h, g))

-- ---- null keys mixed: GROUP drops them, and COGROUP joins those of its inputs

abbrev drops_nulls : Tree → (ℕ → Rows) → Rows
drops_nulls k rows = if holds_null k then [] else group_of k rows

dropped : bag_of (gathered drops_nulls (keyed_entries 0 (by 0 false ∷ []) inputs)) ≡ (int 1 ∷ bag (row (int 1) 120 ∷ []) ∷ []) ∷ []
dropped = refl

drops_a_group : bag_of (gathered drops_nulls (keyed_entries 0 (by 0 false ∷ []) inputs)) ≡ of (p_group (by 0 false ∷ [])) inputs → ⊥
drops_a_group = unlike (bag_of (gathered drops_nulls (keyed_entries 0 (by 0 false ∷ []) inputs))) (of (p_group (by 0 false ∷ [])) inputs) 1 2 (ap length dropped) (ap length group) (λ e. omega (arith, e))

abbrev joins_nulls : Tree → (ℕ → Rows) → Rows
joins_nulls k rows = kept_where (all_there (false ∷ false ∷ []) 0 rows) (bags_of 2 k rows)

joined : bag_of (gathered joins_nulls (keyed_entries 0 (by 0 false ∷ by 1 false ∷ []) inputs))
    ≡ (v_null ∷ bag (row v_null 121 ∷ row v_null 122 ∷ []) ∷ bag (row v_null 113 ∷ []) ∷ [])
    ∷ (int 1 ∷ bag (row (int 1) 120 ∷ []) ∷ bag (row (int 1) 112 ∷ []) ∷ []) ∷ []
joined = refl

joins_groups : bag_of (gathered joins_nulls (keyed_entries 0 (by 0 false ∷ by 1 false ∷ []) inputs)) ≡ of (p_group (by 0 false ∷ by 1 false ∷ [])) inputs → ⊥
joins_groups = unlike (bag_of (gathered joins_nulls (keyed_entries 0 (by 0 false ∷ by 1 false ∷ []) inputs))) (of (p_group (by 0 false ∷ by 1 false ∷ [])) inputs) 2 3 (ap length joined) (ap length cogroup) (λ e. omega (arith, e))

-- ---- sorted within parts: ORDER of each part by itself, the parts as they came

abbrev sorts_parts : List SortKey → List Rows → Rows
sorts_parts keys parts = flat_map (sort (keys_cmp keys)) parts

abbrev two_parts : List Rows
two_parts = (row (int 2) 97 ∷ row v_null 98 ∷ []) ∷ (row (int 3) 99 ∷ row (int 2) 65 ∷ []) ∷ []

sorted_within : sorts_parts (desc 0 ∷ []) two_parts ≡ row (int 2) 97 ∷ row v_null 98 ∷ row (int 3) 99 ∷ row (int 2) 65 ∷ []
sorted_within = refl

-- whether the first row begins with the int 2
abbrev starts_with_two : Rows → Bool
starts_with_two [] = false
starts_with_two (r ∷ rows) = is_eq (tree_cmp (at 0 r) (int 2))

sorts_otherwise : sorts_parts (desc 0 ∷ []) two_parts ≡ order_rows (desc 0 ∷ []) lettered → ⊥
sorts_otherwise e = absurd (true≢false (ap starts_with_two e))

-- ---- partitioned by row: entries go to a part by their rows and not by their keys

abbrev splits_keys : (Entry → ℕ) → ℕ → List Entry → Rows
splits_keys part n entries = flat_map (λ p. gathered group_of (in_part part p entries)) (range_with_len 0 n)

-- by whether the second field is the letter z
abbrev by_letter : Entry → ℕ
by_letter e = if is_eq (tree_cmp (at 1 e.row) (letter 122)) then 1 else 0

split_up : bag_of (splits_keys by_letter 2 (keyed_entries 0 (by 0 false ∷ []) inputs))
    ≡ (v_null ∷ bag (row v_null 121 ∷ []) ∷ []) ∷ (v_null ∷ bag (row v_null 122 ∷ []) ∷ []) ∷ (int 1 ∷ bag (row (int 1) 120 ∷ []) ∷ []) ∷ []
split_up = refl

splits_a_group : bag_of (splits_keys by_letter 2 (keyed_entries 0 (by 0 false ∷ []) inputs)) ≡ of (p_group (by 0 false ∷ [])) inputs → ⊥
splits_a_group = unlike (bag_of (splits_keys by_letter 2 (keyed_entries 0 (by 0 false ∷ []) inputs))) (of (p_group (by 0 false ∷ [])) inputs) 3 2 (ap length split_up) (ap length group) (λ e. omega (arith, e))
