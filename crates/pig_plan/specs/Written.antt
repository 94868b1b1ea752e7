-- Whether a line end stands in a text that is written out in an expression. No script has such a text, and where there is none no value
-- of the expression holds a line end that its row doesn't.
use Rattle.std.specs.Prelude.{ℕ, ◌==◌, Bool, false, ◌||◌, List}
use Rattle.std.specs.List.{list_any}
use Rattle.pig_typed.specs.Typed.{Typed, TypedLinks, TypedArgs, TypedStep, TypedBlock, x_chars, x_chain, x_compare, x_is_null, x_not, x_minus, x_choose, x_cast, x_project, x_look, x_call, no_links, more_links, no_args, more_args, s_filter, s_order, s_limit, s_distinct, s_take}

abbrev pub has_lf : List ℕ → Bool
has_lf text = list_any (λ b. b == 10) text

abbrev mutual
  pub writes_lf : Typed → Bool
  writes_lf (x_chars text) = has_lf text
  writes_lf (x_chain first links) = writes_lf first || links_write_lf links
  writes_lf (x_compare r a b) = writes_lf a || writes_lf b
  writes_lf (x_is_null a negated) = writes_lf a
  writes_lf (x_not a) = writes_lf a
  writes_lf (x_minus a) = writes_lf a
  writes_lf (x_choose cond one other) = writes_lf cond || writes_lf one || writes_lf other
  writes_lf (x_cast to a) = writes_lf a
  writes_lf (x_project a ns single) = writes_lf a
  writes_lf (x_look a key) = writes_lf a
  writes_lf (x_call function args) = args_write_lf args
  writes_lf e = false

  pub links_write_lf : TypedLinks → Bool
  links_write_lf no_links = false
  links_write_lf (more_links operator a links) = writes_lf a || links_write_lf links

  pub args_write_lf : TypedArgs → Bool
  args_write_lf no_args = false
  args_write_lf (more_args e args) = writes_lf e || args_write_lf args

abbrev pub step_writes_lf : TypedStep → Bool
step_writes_lf (s_filter from cond) = writes_lf from || writes_lf cond
step_writes_lf (s_order from keys) = writes_lf from
step_writes_lf (s_limit from count) = writes_lf from
step_writes_lf (s_distinct from) = writes_lf from
step_writes_lf (s_take from) = writes_lf from

abbrev pub block_writes_lf : TypedBlock → Bool
block_writes_lf block = list_any step_writes_lf block.steps || list_any (λ item. writes_lf item.value) block.items
