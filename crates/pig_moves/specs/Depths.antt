-- How deep conditions nest, and how many nodes they have.
use Rattle.std.specs.Prelude.{◌≡◌, ◌≤◌, ◌+◌, max, ℕ, zero, suc, Bool, false, true, List, [], ◌∷◌, Some, slice_get, if◌then◌else◌}
use Rattle.std.specs.List.{list_any}
use Rattle.pig_typed.specs.Typed.{Typed, TypedArgs, TypedLinks, x_chain, x_compare, x_is_null, x_not, x_minus, x_choose, x_cast, x_project, x_look, x_call, no_links, more_links, no_args, more_args}
use Rattle.pig_plan.specs.Plans.{Plan, PlanNode, PlanOp, p_filter, p_group}

abbrev mutual
  pub depth : Typed → ℕ
  depth (x_chain first links) = suc (max (depth first) (link_depth links))
  depth (x_compare r a b) = suc (max (depth a) (depth b))
  depth (x_is_null a negated) = suc (depth a)
  depth (x_not a) = suc (depth a)
  depth (x_minus a) = suc (depth a)
  depth (x_choose test a b) = suc (max (depth test) (max (depth a) (depth b)))
  depth (x_cast to a) = suc (depth a)
  depth (x_project a ns single) = suc (depth a)
  depth (x_look a key) = suc (depth a)
  depth (x_call function args) = suc (arg_depth args)
  depth e = 0

  pub link_depth : TypedLinks → ℕ
  link_depth no_links = 0
  link_depth (more_links operator a links) = max (depth a) (link_depth links)

  pub arg_depth : TypedArgs → ℕ
  arg_depth no_args = 0
  arg_depth (more_args e args) = max (depth e) (arg_depth args)

-- each operator, column, constant and call is a node
abbrev mutual
  pub size : Typed → ℕ
  size (x_chain first links) = suc (size first + link_size links)
  size (x_compare r a b) = suc (size a + size b)
  size (x_is_null a negated) = suc (size a)
  size (x_not a) = suc (size a)
  size (x_minus a) = suc (size a)
  size (x_choose test a b) = suc (size test + (size a + size b))
  size (x_cast to a) = suc (size a)
  size (x_project a ns single) = suc (size a)
  size (x_look a key) = suc (size a)
  size (x_call function args) = suc (arg_size args)
  size e = 1

  pub link_size : TypedLinks → ℕ
  link_size no_links = 0
  link_size (more_links operator a links) = size a + link_size links

  pub arg_size : TypedArgs → ℕ
  arg_size no_args = 0
  arg_size (more_args e args) = size e + arg_size args

abbrev pub filter_depth : PlanOp → ℕ
filter_depth (p_filter input cond) = depth cond
filter_depth o = 0

-- no condition of a FILTER nests deeper
abbrev pub NestUpTo : ℕ → Plan → Type 0
NestUpTo most p = (n : ℕ) (v : PlanNode) → slice_get p n ≡ Some v → filter_depth v.op ≤ most

-- So far a condition may nest that has the key of a GROUP in it, and so many nodes it may have.
abbrev pub most_levels : ℕ
most_levels = 2048

abbrev pub most_nodes : ℕ
most_nodes = 1048576

-- Columns and constants, of which the depth is 0, nest nothing.
abbrev pub nests : ℕ → Bool
nests zero = false
nests (suc levels) = true

-- there is one key, and it nests
abbrev pub one_nests : List Typed → Bool
one_nests (key ∷ []) = nests (depth key)
one_nests keys = false

-- a GROUP of one input by such a key, which stands in the place of the group in conditions that pass
abbrev pub key_nests : PlanOp → Bool
key_nests (p_group (input ∷ [])) = one_nests input.keys
key_nests o = false

-- How deep the keys of a plan's GROUPs may take a condition: only a key that nests itself takes it deeper.
abbrev pub key_levels : Plan → ℕ
key_levels p = if list_any (λ v. key_nests v.op) p then most_levels else 0
