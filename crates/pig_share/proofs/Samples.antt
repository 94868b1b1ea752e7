-- Sharing computed on small plans.
use Rattle.std.specs.Prelude.{◌≡◌, ℕ, pos, true, false, [], ◌∷◌, map, Some, None, refl}
use Rattle.pig_value.specs.declared.operators.Rel.TheVariants as rel
use Rattle.pig_typed.specs.Typed.{Typed, x_int, x_field, x_compare}
use Rattle.pig_plan.specs.Plans.{PlanNode, PlanOp, p_load, p_filter, p_union, p_limit, p_store, p_assert}
use Rattle.pig_plan.specs.Renumbered.{renamed}
use Rattle.pig_share.specs.Same.{same_op}
use Rattle.pig_share.specs.Shared.{apart_in, is_apart}
use Rattle.pig_share.specs.Table.{at_of}

abbrev node : PlanOp → ℕ → PlanNode
node o statement = record { op = o; statement = statement }

abbrev load : PlanOp
load = p_load (105 ∷ []) 9 []

-- two LOADs of one input, and their UNION: the first is named twice, and the second is dead then
two_loads : map (renamed (at_of (0 ∷ 0 ∷ 2 ∷ 3 ∷ []))) (node load 1 ∷ node load 2 ∷ node (p_union (0 ∷ 1 ∷ [])) 3 ∷ node (p_store 2 (111 ∷ []) 9) 4 ∷ [])
    ≡ node load 1 ∷ node load 2 ∷ node (p_union (0 ∷ 0 ∷ [])) 3 ∷ node (p_store 2 (111 ∷ []) 9) 4 ∷ []
two_loads = refl

-- `$n > 2`
abbrev above : ℕ → Typed
above n = x_compare rel.Gt (x_field n) (x_int (pos 2))

same_tests : same_op (p_filter 0 (above 1)) (p_filter 0 (above 1)) ≡ true
same_tests = refl

other_column : same_op (p_filter 0 (above 1)) (p_filter 0 (above 0)) ≡ false
other_column = refl

other_input : same_op (p_filter 0 (above 1)) (p_filter 1 (above 1)) ≡ false
other_input = refl

-- an ASSERT that asks for it, with the message `m` or none
abbrev asserted : PlanOp
asserted = p_assert 0 (above 1) (Some (109 ∷ []))

abbrev bare : PlanOp
bare = p_assert 0 (above 1) None

same_asserts : same_op asserted asserted ≡ true
same_asserts = refl

other_message : same_op asserted bare ≡ false
other_message = refl

an_assert_goes : apart_in (node load 1 ∷ node bare 2 ∷ node bare 3 ∷ []) bare ≡ false
an_assert_goes = refl

an_assert_stays_out_of_order : apart_in (node load 1 ∷ node bare 3 ∷ node bare 2 ∷ []) bare ≡ true
an_assert_stays_out_of_order = refl

a_bare_limit_stays : is_apart true (λ i. false) (p_limit 0 3) ≡ true
a_bare_limit_stays = refl

a_limit_on_a_sorted_node_goes : is_apart true (λ i. true) (p_limit 0 3) ≡ false
a_limit_on_a_sorted_node_goes = refl
