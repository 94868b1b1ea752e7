-- The kind of a typed expression, by the kinds of the row's fields and of the locals; none where an operator stands on other
-- kinds than it takes. Casts are written out in the expression, so operands that the language casts are of one kind here.
-- (Pig Latin Basics: "Data Types and More", "Operators"; the kinds that comparisons take are choices of this profile.)
use Rattle.std.specs.Prelude.{ℕ, Bool, true, false, not, ◌&&◌, List, [], ◌∷◌, Option, Some, None, slice_get, if◌then◌else◌}
use Rattle.std.specs.Option.{option_and_then, option_map}
use Rattle.pig_value.specs.Casts.{may_cast}
use Rattle.pig_value.specs.FieldReader.{all_of}
use Rattle.pig_value.specs.FunctionKinds.{function_kind}
use Rattle.pig_value.specs.Kinds.{kind_eq}
use Rattle.pig_value.specs.Trees.{KindTree, k_boolean, k_int, k_long, k_chars, k_bytes, k_tuple, k_bag, kinds_of, kinds_list, look_kind}
use Rattle.pig_value.specs.declared.operators.ChainOp.{ChainOp}
use Rattle.pig_value.specs.declared.operators.ChainOp.TheVariants as op
use Rattle.pig_value.specs.declared.operators.Rel.{Rel}
use Rattle.pig_value.specs.declared.operators.Rel.TheVariants as rel
use Rattle.pig_typed.specs.Typed.{Typed, TypedLinks, TypedArgs, x_null, x_bool, x_int, x_long, x_chars, x_field, x_local, x_chain, x_compare, x_is_null, x_not, x_minus, x_choose, x_cast, x_project, x_look, x_call, no_links, more_links, no_args, more_args}
use Rattle.pig_value.specs.Results.{◌>>=◌}

-- ---- operators

-- two ints give an int, and a long with either gives a long
abbrev pub number_kind : KindTree → KindTree → Option KindTree
number_kind k_int k_int = Some k_int
number_kind k_int k_long = Some k_long
number_kind k_long k_int = Some k_long
number_kind k_long k_long = Some k_long
number_kind k l = None

abbrev pub truth_kind : KindTree → KindTree → Option KindTree
truth_kind k_boolean k_boolean = Some k_boolean
truth_kind k l = None

abbrev pub chain_kind : ChainOp → KindTree → KindTree → Option KindTree
chain_kind op.Or k l = truth_kind k l
chain_kind op.And k l = truth_kind k l
chain_kind operator k l = number_kind k l

abbrev pub not_kind : KindTree → Option KindTree
not_kind k_boolean = Some k_boolean
not_kind k = None

abbrev pub minus_kind : KindTree → Option KindTree
minus_kind k_int = Some k_int
minus_kind k_long = Some k_long
minus_kind k = None

-- what is told apart by less and greater
abbrev pub is_ranged : KindTree → Bool
is_ranged k_int = true
is_ranged k_long = true
is_ranged k_chars = true
is_ranged k_bytes = true
is_ranged k = false

-- what is told apart by equality: all but bags
abbrev pub is_equated : KindTree → Bool
is_equated (k_bag kinds) = false
is_equated k = true

abbrev pub may_compare : Rel → KindTree → Bool
may_compare rel.Eq k = is_equated k
may_compare rel.Ne k = is_equated k
may_compare r k = is_ranged k

abbrev pub compare_kind : Rel → KindTree → KindTree → Option KindTree
compare_kind r k l = if kind_eq k l && may_compare r k then Some k_boolean else None

abbrev pub choose_kind : KindTree → KindTree → KindTree → Option KindTree
choose_kind k_boolean k l = if kind_eq k l then Some k else None
choose_kind cond k l = None

abbrev pub cast_kind : KindTree → KindTree → Option KindTree
cast_kind to k = if may_cast k to then Some to else None

-- ---- parts of a value

-- one position, or without `single` one or more
abbrev pub is_selection : List ℕ → Bool → Bool
is_selection [] single = false
is_selection (n ∷ []) single = true
is_selection ns single = not single

-- the kinds at these positions, where each is within the fields
abbrev pub picked_kinds : List ℕ → List KindTree → Option (List KindTree)
picked_kinds ns kinds = all_of (slice_get kinds) ns

abbrev pub part_kind : Bool → List KindTree → Option KindTree
part_kind single picked = if single then slice_get picked 0 else Some (k_tuple (kinds_of picked))

abbrev pub selected_kind : List ℕ → Bool → KindTree → Option KindTree
selected_kind ns single (k_tuple kinds) = option_and_then (part_kind single) (picked_kinds ns (kinds_list kinds))
selected_kind ns single (k_bag kinds) = option_map (λ picked. k_bag (kinds_of picked)) (picked_kinds ns (kinds_list kinds))
selected_kind ns single k = None

abbrev pub project_kind : List ℕ → Bool → KindTree → Option KindTree
project_kind ns single k = if is_selection ns single then selected_kind ns single k else None

-- ---- expressions

abbrev mutual
  pub expr_kind : Typed → List KindTree → List KindTree → Option KindTree
  expr_kind x_null row locals = Some k_bytes
  expr_kind (x_bool b) row locals = Some k_boolean
  expr_kind (x_int z) row locals = Some k_int
  expr_kind (x_long z) row locals = Some k_long
  expr_kind (x_chars text) row locals = Some k_chars
  expr_kind (x_field n) row locals = slice_get row n
  expr_kind (x_local n) row locals = slice_get locals n
  expr_kind (x_chain first links) row locals = do
    k ← expr_kind first row locals
    links_kind k links row locals
  expr_kind (x_compare r a b) row locals = do
    k ← expr_kind a row locals
    l ← expr_kind b row locals
    compare_kind r k l
  expr_kind (x_is_null a negated) row locals = do
    k ← expr_kind a row locals
    Some k_boolean
  expr_kind (x_not a) row locals = do
    k ← expr_kind a row locals
    not_kind k
  expr_kind (x_minus a) row locals = do
    k ← expr_kind a row locals
    minus_kind k
  expr_kind (x_choose cond a b) row locals = do
    c ← expr_kind cond row locals
    k ← expr_kind a row locals
    l ← expr_kind b row locals
    choose_kind c k l
  expr_kind (x_cast to a) row locals = do
    k ← expr_kind a row locals
    cast_kind to k
  expr_kind (x_project a ns single) row locals = do
    k ← expr_kind a row locals
    project_kind ns single k
  expr_kind (x_look a key) row locals = do
    k ← expr_kind a row locals
    look_kind k
  expr_kind (x_call function args) row locals = do
    kinds ← args_kinds args row locals
    function_kind function kinds

  -- the kind of a chain whose links so far are of the first kind
  pub links_kind : KindTree → TypedLinks → List KindTree → List KindTree → Option KindTree
  links_kind k no_links row locals = Some k
  links_kind k (more_links operator a links) row locals = do
    l ← expr_kind a row locals
    next ← chain_kind operator k l
    links_kind next links row locals

  pub args_kinds : TypedArgs → List KindTree → List KindTree → Option (List KindTree)
  args_kinds no_args row locals = Some []
  args_kinds (more_args e args) row locals = do
    k ← expr_kind e row locals
    kinds ← args_kinds args row locals
    Some (k ∷ kinds)
