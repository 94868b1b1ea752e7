-- Each move is one of the table of moves: the condition goes where the table says, as it says.
use Rattle.std.specs.Prelude.{◌≡◌, ◌&&◌, ℕ, Bool, true, false, List, [], ◌∷◌, Option, None, Some, refl}
use Rattle.std.proofs.Common.{ap, sym, ◌∙◌, true≢false}
use Rattle.std.specs.List.{list_all}
use Rattle.std.specs.Option.{option_map_or, unwrap_or}
use Rattle.pig_typed.specs.Typed.{Typed, x_field}
use Rattle.pig_plan.specs.Moves.{below_key, fields_in, moves, names_some, only_where, plain_at, put}
use Rattle.pig_plan.specs.Plans.{PlanOp, p_load, p_filter, p_foreach, p_group_all, p_group, p_join, p_union, p_distinct, p_order, p_limit, p_store, p_assert, p_rank}
use Rattle.pig_moves.specs.Pushed.{from_key, gone_to, hands_key, is_handed, is_open, may_pass, spot_for}
use Rattle.pig_moves.proofs.Passing.{each_is}
use Rattle.pig_moves.proofs.Spots.{join_moves}

both : (a b : Bool) → (a && b) ≡ true → (a ≡ true) × (b ≡ true)
both true b e = (refl, e)
both false b e = absurd (true≢false (sym e))

-- a column that is found, or else the same one
column_found : (o : Option ℕ) (n : ℕ) → option_map_or x_field o (x_field n) ≡ x_field (unwrap_or o n)
column_found None n = refl
column_found (Some m) n = refl

-- ---- GROUP

keyed_move : (input : ℕ) (keys : List Typed) (c : Typed) → hands_key keys c ≡ true → below_key input keys c ≡ record { input = input; cond = put (from_key keys) c } ∷ []
keyed_move input [] c h = absurd (true≢false (sym h))
keyed_move input (e ∷ []) c h = ap (λ b. only_where b (record { input = input; cond = put (λ n. e) c })) h
keyed_move input (e ∷ d ∷ keys) c h = absurd (true≢false (sym h))

pub moves_of_the_table : (width : ℕ → ℕ) (o : PlanOp) (c : Typed) → may_pass width o c ≡ true → moves width o c ≡ gone_to width o c ∷ []
moves_of_the_table width (p_filter x first) c h = refl
moves_of_the_table width (p_distinct x) c h = refl
moves_of_the_table width (p_foreach x block) c h =
    let each : list_all (is_handed block.items) (fields_in c) ≡ true = sym (each_is (is_handed block.items) c) ∙ h in
    (λ i. only_where (each i) (record { input = x; cond = put (λ n. column_found (plain_at block.items n) n i) c }))
moves_of_the_table width (p_load path delim columns) c h = absurd (true≢false (sym h))
moves_of_the_table width (p_group_all input) c h = absurd (true≢false (sym h))
moves_of_the_table width (p_group []) c h = absurd (true≢false (sym h))
moves_of_the_table width (p_group (input ∷ [])) c h = keyed_move input.input input.keys c h
moves_of_the_table width (p_group (a ∷ b ∷ inputs)) c h = absurd (true≢false (sym h))
moves_of_the_table width (p_join inputs sd replicated) c h =
    let two = both (names_some (fields_in c)) (is_open sd (spot_for width inputs c)) h in
    join_moves width inputs sd replicated c (spot_for width inputs c) refl two.0 two.1
moves_of_the_table width (p_union inputs) c h = absurd (true≢false (sym h))
moves_of_the_table width (p_order input keys) c h = absurd (true≢false (sym h))
moves_of_the_table width (p_limit input count) c h = absurd (true≢false (sym h))
moves_of_the_table width (p_store input path delim) c h = absurd (true≢false (sym h))
moves_of_the_table width (p_assert input test message) c h = absurd (true≢false (sym h))
moves_of_the_table width (p_rank input keys dense) c h = absurd (true≢false (sym h))
