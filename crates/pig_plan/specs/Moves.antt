-- Where a conjunct of a FILTER may go: below the operator that the FILTER stands on, over the rows of this operator's inputs.
use Rattle.std.specs.Prelude.{ℕ, ◌==◌, ◌+◌, ◌-◌, Bool, true, false, ◌&&◌, not, nat_le, nat_lt, List, [], ◌∷◌, ◌++◌, map, take, drop, Option, Some, None, if◌then◌else◌}
use Rattle.std.specs.List.{filter, list_all, list_any}
use Rattle.std.specs.Option.{is_some, option_map_or}
use Rattle.std.specs.Ordering.{nat_cmp}
use Rattle.pig_value.specs.declared.operators.Side.{Side}
use Rattle.pig_value.specs.declared.operators.Side.TheVariants as side
use Rattle.pig_value.specs.Sorts.{distinct}
use Rattle.pig_typed.specs.Typed.{Typed, TypedLinks, TypedArgs, TypedItem, x_field, x_chain, x_compare, x_is_null, x_not, x_minus, x_choose, x_cast, x_project, x_look, x_call, no_links, more_links, no_args, more_args}
use Rattle.pig_plan.specs.Plans.{Keyed, PlanOp, p_filter, p_foreach, p_group, p_join, p_union, p_distinct}

-- the columns that an expression names
abbrev mutual
  pub fields_in : Typed → List ℕ
  fields_in (x_field n) = n ∷ []
  fields_in (x_chain first links) = fields_in first ++ link_fields links
  fields_in (x_compare r a b) = fields_in a ++ fields_in b
  fields_in (x_is_null a negated) = fields_in a
  fields_in (x_not a) = fields_in a
  fields_in (x_minus a) = fields_in a
  fields_in (x_choose test a b) = fields_in test ++ (fields_in a ++ fields_in b)
  fields_in (x_cast to a) = fields_in a
  fields_in (x_project a ns single) = fields_in a
  fields_in (x_look a key) = fields_in a
  fields_in (x_call function args) = arg_fields args
  fields_in e = []

  pub link_fields : TypedLinks → List ℕ
  link_fields no_links = []
  link_fields (more_links operator a links) = fields_in a ++ link_fields links

  pub arg_fields : TypedArgs → List ℕ
  arg_fields no_args = []
  arg_fields (more_args e args) = fields_in e ++ arg_fields args

-- an expression with others in the place of its columns
abbrev mutual
  pub put : (ℕ → Typed) → Typed → Typed
  put f (x_field n) = f n
  put f (x_chain first links) = x_chain (put f first) (put_links f links)
  put f (x_compare r a b) = x_compare r (put f a) (put f b)
  put f (x_is_null a negated) = x_is_null (put f a) negated
  put f (x_not a) = x_not (put f a)
  put f (x_minus a) = x_minus (put f a)
  put f (x_choose test a b) = x_choose (put f test) (put f a) (put f b)
  put f (x_cast to a) = x_cast to (put f a)
  put f (x_project a ns single) = x_project (put f a) ns single
  put f (x_look a key) = x_look (put f a) key
  put f (x_call function args) = x_call function (put_args f args)
  put f e = e

  pub put_links : (ℕ → Typed) → TypedLinks → TypedLinks
  put_links f no_links = no_links
  put_links f (more_links operator a links) = more_links operator (put f a) (put_links f links)

  pub put_args : (ℕ → Typed) → TypedArgs → TypedArgs
  put_args f no_args = no_args
  put_args f (more_args e args) = more_args (put f e) (put_args f args)

-- ---- FOREACH

abbrev pub field_of : Typed → Option ℕ
field_of (x_field n) = Some n
field_of e = None

-- the column that an item hands on, by the position of what it makes; what stands under FLATTEN is none
abbrev pub plain_at : List TypedItem → ℕ → Option ℕ
plain_at [] n = None
plain_at (item ∷ items) n =
    if item.flatten then (if nat_lt n item.width then None else plain_at items (n - item.width)) else (if n == 0 then field_of item.value else plain_at items (n - 1))

-- ---- JOIN

-- the columns of an input among those of the joined rows
pub record Span : Type 0 where
  pub input : ℕ
  pub first : ℕ
  pub size : ℕ

abbrev pub spans : (ℕ → ℕ) → ℕ → List Keyed → List Span
spans width first [] = []
spans width first (input ∷ inputs) = record { input = input.input; first = first; size = width input.input } ∷ spans width (first + width input.input) inputs

-- those of the inputs whose rows all stand among the joined ones where they have a partner, and else with nulls
abbrev pub open_spans : Side → List Span → List Span
open_spans side.Inner all = all
open_spans side.Left all = take 1 all
open_spans side.Right all = take 1 (drop 1 all)
open_spans side.Full all = []

abbrev pub holds_all : List ℕ → Span → Bool
holds_all fields span = list_all (λ n. nat_le span.first n && nat_lt n (span.first + span.size)) fields

abbrev pub names_some : List ℕ → Bool
names_some [] = false
names_some (n ∷ fields) = true

-- ---- all of them

-- an input, and the condition over its rows
pub record Move : Type 0 where
  pub input : ℕ
  pub cond : Typed

abbrev pub only_where : Bool → Move → List Move
only_where test move = if test then move ∷ [] else []

-- of GROUP by one key: the condition names no bag, and the key stands in the place of the group
abbrev pub below_key : ℕ → List Typed → Typed → List Move
below_key input (key ∷ []) e = only_where (not (list_any (λ n. n == 1) (fields_in e))) (record { input = input; cond = put (λ n. key) e })
below_key input keys e = []

-- Where a condition on the rows of an operator may go, and nowhere where it may not; the nodes' rows are so many fields wide.
abbrev pub moves : (ℕ → ℕ) → PlanOp → Typed → List Move
moves width (p_filter input cond) e = record { input = input; cond = e } ∷ []
moves width (p_foreach input block) e =
    only_where (list_all (λ n. is_some (plain_at block.items n)) (fields_in e)) (record { input = input; cond = put (λ n. option_map_or x_field (plain_at block.items n) (x_field n)) e })
moves width (p_union inputs) e = map (λ input. record { input = input; cond = e }) (distinct nat_cmp inputs)
moves width (p_distinct input) e = record { input = input; cond = e } ∷ []
moves width (p_join inputs s replicated) e =
    if names_some (fields_in e) then map (λ span. record { input = span.input; cond = put (λ n. x_field (n - span.first)) e }) (filter (holds_all (fields_in e)) (open_spans s (spans width 0 inputs))) else []
moves width (p_group (input ∷ [])) e = below_key input.input input.keys e
moves width o e = []
