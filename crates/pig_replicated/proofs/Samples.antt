-- Replicated joins of small relations.
use Rattle.std.specs.Prelude.{◌≡◌, ℕ, ◌==◌, List, [], ◌∷◌, None, Some, pos, false, refl, if◌then◌else◌}
use Rattle.pig_value.specs.declared.operators.Side.TheVariants as side
use Rattle.pig_value.specs.Orders.{bag_of}
use Rattle.pig_value.specs.Trees.{Tree, v_chars, v_int, v_null, v_tuple, fields_of}
use Rattle.pig_typed.specs.Typed.{x_field}
use Rattle.pig_plan.specs.Operators.{join_rows}
use Rattle.pig_plan.specs.Plans.{Keyed}
use Rattle.pig_replicated.specs.Holding.{lookup_of, matches_in}
use Rattle.pig_replicated.specs.Joining.{probed, sides_of}

abbrev Rows : Type 0
Rows = List (List Tree)

abbrev letter : ℕ → Tree
letter byte = v_chars (byte ∷ [])

abbrev one : Tree
one = v_int (pos 1)

abbrev by : ℕ → Keyed
by input = record { input = input; keys = x_field 0 ∷ []; inner = false }

-- a: (1, x), (, y), (, z); b: (1, p), (, q); c: (1, s), (1, r)
abbrev a : Rows
a = (one ∷ letter 120 ∷ []) ∷ (v_null ∷ letter 121 ∷ []) ∷ (v_null ∷ letter 122 ∷ []) ∷ []

abbrev b : Rows
b = (one ∷ letter 112 ∷ []) ∷ (v_null ∷ letter 113 ∷ []) ∷ []

abbrev c : Rows
c = (one ∷ letter 115 ∷ []) ∷ (one ∷ letter 114 ∷ []) ∷ []

abbrev inputs : ℕ → Rows
inputs i = if i == 0 then a else if i == 1 then b else c

abbrev inner_row : List Tree
inner_row = one ∷ letter 120 ∷ one ∷ letter 112 ∷ []

-- a key that is null has no match, though a row has it
null_matches : matches_in (lookup_of (x_field 0 ∷ []) b) v_null ≡ []
null_matches = refl

matches : matches_in (lookup_of (x_field 0 ∷ []) c) one ≡ (one ∷ letter 114 ∷ []) ∷ (one ∷ letter 115 ∷ []) ∷ []
matches = refl

inner : probed (sides_of (by 1 ∷ []) inputs) None (x_field 0 ∷ []) a ≡ inner_row ∷ []
inner = refl

left : probed (sides_of (by 1 ∷ []) inputs) (Some 2) (x_field 0 ∷ []) a
    ≡ inner_row ∷ (v_null ∷ letter 121 ∷ v_null ∷ v_null ∷ []) ∷ (v_null ∷ letter 122 ∷ v_null ∷ v_null ∷ []) ∷ []
left = refl

-- of two sides each row with each
two_sides : probed (sides_of (by 1 ∷ by 2 ∷ []) inputs) None (x_field 0 ∷ []) a
    ≡ (one ∷ letter 120 ∷ one ∷ letter 112 ∷ one ∷ letter 114 ∷ []) ∷ (one ∷ letter 120 ∷ one ∷ letter 112 ∷ one ∷ letter 115 ∷ []) ∷ []
two_sides = refl

-- as the JOIN has it
inner_join : bag_of (probed (sides_of (by 1 ∷ []) inputs) None (x_field 0 ∷ []) a) ≡ bag_of (join_rows side.Inner (λ i. 2) (by 0 ∷ by 1 ∷ []) inputs)
inner_join = refl

left_join : bag_of (probed (sides_of (by 1 ∷ []) inputs) (Some 2) (x_field 0 ∷ []) a) ≡ bag_of (join_rows side.Left (λ i. 2) (by 0 ∷ by 1 ∷ []) inputs)
left_join = refl

-- a tuple that holds a null is such a key
half_null : matches_in (lookup_of (x_field 0 ∷ x_field 1 ∷ []) ((one ∷ v_null ∷ []) ∷ [])) (v_tuple (fields_of (one ∷ v_null ∷ []))) ≡ []
half_null = refl
