-- Where conjuncts may go, computed.
use Rattle.std.specs.Prelude.{◌≡◌, ℕ, pos, Bool, true, false, List, [], ◌∷◌, refl}
use Rattle.pig_value.specs.declared.operators.ChainOp.TheVariants as op
use Rattle.pig_value.specs.declared.operators.Rel.TheVariants as rel
use Rattle.pig_value.specs.declared.operators.Side.TheVariants as side
use Rattle.pig_typed.specs.Typed.{Typed, TypedBlock, TypedItem, x_bool, x_int, x_field, x_chain, x_compare, no_links, more_links}
use Rattle.pig_plan.specs.Conjuncts.{conjuncts}
use Rattle.pig_plan.specs.Moves.{Move, moves}
use Rattle.pig_plan.specs.Plans.{Keyed, PlanOp, p_foreach, p_group, p_join, p_union, p_limit}

-- `$n > 2`
abbrev above : ℕ → Typed
above n = x_compare rel.Gt (x_field n) (x_int (pos 2))

abbrev both : Typed → Typed → Typed
both a b = x_chain a (more_links op.And b no_links)

chains_within_chains : conjuncts (both (both (above 0) (above 1)) (above 2)) ≡ above 0 ∷ above 1 ∷ above 2 ∷ []
chains_within_chains = refl

an_or_is_one : conjuncts (x_chain (above 0) (more_links op.Or (above 1) no_links)) ≡ x_chain (above 0) (more_links op.Or (above 1) no_links) ∷ []
an_or_is_one = refl

abbrev to : ℕ → Typed → Move
to input e = record { input = input; cond = e }

-- each row is two fields wide
abbrev moved : PlanOp → Typed → List Move
moved o e = moves (λ k. 2) o e

abbrev item : Typed → Bool → TypedItem
item e flatten = record { value = e; flatten = flatten; width = 1 }

-- `GENERATE $1, FLATTEN($2), $0, $0 > 2`
abbrev block : TypedBlock
block = record { steps = []; items = item (x_field 1) false ∷ item (x_field 2) true ∷ item (x_field 0) false ∷ item (above 0) false ∷ [] }

renamed_below_foreach : moved (p_foreach 4 block) (both (above 0) (above 2)) ≡ to 4 (both (above 1) (above 0)) ∷ []
renamed_below_foreach = refl

not_under_flatten : moved (p_foreach 4 block) (above 1) ≡ []
not_under_flatten = refl

not_what_is_computed : moved (p_foreach 4 block) (above 3) ≡ []
not_what_is_computed = refl

each_input_of_union_once : moved (p_union (3 ∷ 1 ∷ 3 ∷ [])) (above 0) ≡ to 1 (above 0) ∷ to 3 (above 0) ∷ []
each_input_of_union_once = refl

abbrev by : ℕ → Keyed
by input = record { input = input; keys = x_field 1 ∷ []; inner = false }

second_of_join : moved (p_join (by 5 ∷ by 6 ∷ []) side.Inner false) (above 3) ≡ to 6 (above 1) ∷ []
second_of_join = refl

not_of_both : moved (p_join (by 5 ∷ by 6 ∷ []) side.Inner false) (both (above 0) (above 3)) ≡ []
not_of_both = refl

not_without_a_column : moved (p_join (by 5 ∷ by 6 ∷ []) side.Inner false) (x_bool true) ≡ []
not_without_a_column = refl

first_of_left : moved (p_join (by 5 ∷ by 6 ∷ []) side.Left false) (above 1) ≡ to 5 (above 1) ∷ []
first_of_left = refl

not_second_of_left : moved (p_join (by 5 ∷ by 6 ∷ []) side.Left false) (above 3) ≡ []
not_second_of_left = refl

second_of_right : moved (p_join (by 5 ∷ by 6 ∷ []) side.Right false) (above 2) ≡ to 6 (above 0) ∷ []
second_of_right = refl

key_of_group : moved (p_group (by 7 ∷ [])) (above 0) ≡ to 7 (above 1) ∷ []
key_of_group = refl

not_a_bag : moved (p_group (by 7 ∷ [])) (above 1) ≡ []
not_a_bag = refl

never_below_limit : moved (p_limit 8 5) (above 0) ≡ []
never_below_limit = refl
