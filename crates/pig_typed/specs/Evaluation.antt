-- The value of a typed expression on a row and, in a nested block, on the values of the block's earlier steps.
-- It is null at a wrong kind, so that nobody who evaluates owes a kind.
-- (Pig Latin Basics: "Expressions".)
use Rattle.std.specs.Prelude.{Bool, List, [], ◌∷◌}
use Rattle.pig_value.specs.Casts.{cast_of}
use Rattle.pig_value.specs.Functions.{apply_tree}
use Rattle.pig_value.specs.Trees.{at, Tree, v_null, v_bool, v_int, v_long, v_chars}
use Rattle.pig_typed.specs.Operators.{chain_tree, chosen, compare_tree, is_true, look_tree, minus_tree, not_tree, null_test, project_tree, truth_of}
use Rattle.pig_typed.specs.Typed.{Typed, TypedLinks, TypedArgs, x_null, x_bool, x_int, x_long, x_chars, x_field, x_local, x_chain, x_compare, x_is_null, x_not, x_minus, x_choose, x_cast, x_project, x_look, x_call, no_links, more_links, no_args, more_args}

abbrev mutual
  pub ev : Typed → List Tree → List Tree → Tree
  ev x_null row locals = v_null
  ev (x_bool b) row locals = v_bool b
  ev (x_int z) row locals = v_int z
  ev (x_long z) row locals = v_long z
  ev (x_chars text) row locals = v_chars text
  ev (x_field n) row locals = at n row
  ev (x_local n) row locals = at n locals
  ev (x_chain first links) row locals = ev_links (ev first row locals) links row locals
  ev (x_compare r a b) row locals = compare_tree r (ev a row locals) (ev b row locals)
  ev (x_is_null a negated) row locals = null_test (ev a row locals) negated
  ev (x_not a) row locals = not_tree (ev a row locals)
  ev (x_minus a) row locals = minus_tree (ev a row locals)
  ev (x_choose cond a b) row locals = chosen (truth_of (ev cond row locals)) (ev a row locals) (ev b row locals)
  ev (x_cast to a) row locals = cast_of to (ev a row locals)
  ev (x_project a ns single) row locals = project_tree ns single (ev a row locals)
  ev (x_look a key) row locals = look_tree key (ev a row locals)
  ev (x_call function args) row locals = apply_tree function (ev_args args row locals)

  -- the links of a chain from left to right, each on what stands before it
  pub ev_links : Tree → TypedLinks → List Tree → List Tree → Tree
  ev_links so_far no_links row locals = so_far
  ev_links so_far (more_links operator a links) row locals = ev_links (chain_tree operator so_far (ev a row locals)) links row locals

  pub ev_args : TypedArgs → List Tree → List Tree → List Tree
  ev_args no_args row locals = []
  ev_args (more_args e args) row locals = ev e row locals ∷ ev_args args row locals

-- whether a row meets a condition, which sees nothing but the row
abbrev pub passes : Typed → List Tree → Bool
passes cond row = is_true (ev cond row [])
