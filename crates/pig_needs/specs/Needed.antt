-- What live nodes need of the rows of the nodes that they name. A need is a set, written as a list in which each entry stands once: a whole
-- field, a column of a bag, or the rows of a bag without any column. Where the field is no bag the three come to the same, since nothing looks
-- into such a field: a LOAD and an item of a FOREACH keep it whole for each of them.
use Rattle.std.specs.Prelude.{ℕ, ◌==◌, ◌+◌, ◌-◌, Bool, true, false, ◌&&◌, ◌||◌, nat_le, nat_lt, List, [], ◌∷◌, ◌++◌, map, drop, Option, Some, None, if◌then◌else◌}
use Rattle.std.specs.List.{filter_map, flat_map, list_any, range_with_len}
use Rattle.std.specs.Option.{option_map, option_map_or}
use Rattle.pig_value.specs.declared.functions.Function.{Function}
use Rattle.pig_value.specs.declared.functions.Function.TheVariants as function
use Rattle.pig_typed.specs.Typed.{Typed, TypedArgs, TypedBlock, TypedItem, TypedLinks, TypedStep, x_field, x_chain, x_compare, x_is_null, x_not, x_minus, x_choose, x_cast, x_project, x_look, x_call, no_links, more_links, no_args, more_args, s_filter, s_order, s_limit, s_distinct, s_take}
use Rattle.pig_plan.specs.Meaning.{width_at}
use Rattle.pig_plan.specs.Moves.{field_of, fields_in}
use Rattle.pig_plan.specs.NodeKinds.{only_if}
use Rattle.pig_plan.specs.Nodes.{is_live}
use Rattle.pig_plan.specs.Plans.{Keyed, Plan, PlanOp, p_load, p_filter, p_foreach, p_group_all, p_group, p_join, p_union, p_distinct, p_order, p_limit, p_store, p_assert, p_rank}
use Rattle.pig_needs.specs.declared.lists.Need.{Need}
use Rattle.pig_needs.specs.declared.lists.Part.{Part}
use Rattle.pig_needs.specs.declared.lists.Part.TheVariants as part
use Rattle.pig_needs.specs.declared.lists.Use.{Use}

abbrev pub same_part : Part → Part → Bool
same_part part.Whole part.Whole = true
same_part part.Rows part.Rows = true
same_part (part.Column q) (part.Column r) = q == r
same_part _ _ = false

abbrev pub same_need : Need → Need → Bool
same_need m n = (m.position == n.position) && same_part m.part n.part

abbrev pub is_needed : Need → List Need → Bool
is_needed n need = list_any (same_need n) need

-- the field at a position is needed, in whatever part
abbrev pub is_named : List Need → ℕ → Bool
is_named need position = list_any (λ n. n.position == position) need

-- a need with more, of which each entry then stands once
abbrev pub with_one : List Need → Need → List Need
with_one need n = if is_needed n need then need else need ++ n ∷ []

abbrev pub with_all : List Need → List Need → List Need
with_all need [] = need
with_all need (n ∷ more) = with_all (with_one need n) more

-- an empty need is replaced by the first field
abbrev pub or_first : List Need → List Need
or_first [] = record { position = 0; part = part.Whole } ∷ []
or_first (n ∷ need) = n ∷ need

abbrev pub field : ℕ → Need
field p = record { position = p; part = part.Whole }

-- all positions of rows so many fields wide
abbrev pub all_fields : ℕ → List Need
all_fields width = map field (range_with_len 0 width)

-- ---- expressions

-- the field that is a function's only argument
abbrev pub only_field : TypedArgs → Option ℕ
only_field (more_args e no_args) = field_of e
only_field args = None

-- what is asked of a bag by a function that looks at no more than its rows, or than its first column
abbrev pub counted_part : Function → Option Part
counted_part function.Count = Some (part.Column 0)
counted_part function.CountStar = Some part.Rows
counted_part function.Size = Some part.Rows
counted_part function.IsEmpty = Some part.Rows
counted_part f = None

abbrev pub part_at : ℕ → Part → Need
part_at p asked = record { position = p; part = asked }

abbrev pub counted : Function → Option ℕ → Option Need
counted f None = None
counted f (Some p) = option_map (part_at p) (counted_part f)

abbrev pub column_of : ℕ → ℕ → Need
column_of p q = record { position = p; part = part.Column q }

-- what an expression names of a row: columns of the field that it projects, what a function counts by, and else whole fields
abbrev mutual
  pub names_in : Typed → List Need
  names_in (x_field n) = field n ∷ []
  names_in (x_chain first links) = names_in first ++ link_names links
  names_in (x_compare r a b) = names_in a ++ names_in b
  names_in (x_is_null a negated) = names_in a
  names_in (x_not a) = names_in a
  names_in (x_minus a) = names_in a
  names_in (x_choose test a b) = names_in test ++ (names_in a ++ names_in b)
  names_in (x_cast to a) = names_in a
  names_in (x_project a ns single) = option_map_or (λ p. map (column_of p) ns) (field_of a) (names_in a)
  names_in (x_look a key) = names_in a
  names_in (x_call f args) = option_map_or (λ n. n ∷ []) (counted f (only_field args)) (arg_names args)
  names_in e = []

  pub link_names : TypedLinks → List Need
  link_names no_links = []
  link_names (more_links operator a links) = names_in a ++ link_names links

  pub arg_names : TypedArgs → List Need
  arg_names no_args = []
  arg_names (more_args e args) = names_in e ++ arg_names args

-- ---- blocks

-- the bag that a nested step goes through; its condition and its sort keys see columns of that bag alone
abbrev pub step_bag : TypedStep → Typed
step_bag (s_filter from cond) = from
step_bag (s_order from keys) = from
step_bag (s_limit from count) = from
step_bag (s_distinct from) = from
step_bag (s_take from) = from

abbrev pub whole_fields : Typed → List Need
whole_fields e = map field (fields_in e)

-- Of each item whether it stays, where the first of them gives the fields from a position on: each FLATTEN does, and those whose field is
-- needed.
abbrev pub item_marks : List Need → ℕ → List TypedItem → List Bool
item_marks own first [] = []
item_marks own first (item ∷ items) = (item.flatten || is_named own first) ∷ item_marks own (first + item.width) items

abbrev pub kept_items : List Need → ℕ → List TypedItem → List TypedItem
kept_items own first [] = []
kept_items own first (item ∷ items) =
    if item.flatten || is_named own first then item ∷ kept_items own (first + item.width) items else kept_items own (first + item.width) items

-- behind nested steps a field is needed whole wherever it is named
abbrev pub value_names : List TypedStep → Typed → List Need
value_names [] e = names_in e
value_names (step ∷ steps) e = whole_fields e

abbrev pub block_names : List Need → TypedBlock → List Need
block_names own block =
    flat_map (λ step. whole_fields (step_bag step)) block.steps ++ flat_map (λ item. value_names block.steps item.value) (kept_items own 0 block.items)

-- ---- operators

-- What is needed of the rows in a bag: all of their fields where the bag is needed whole, and else those that stand as its columns.
abbrev pub column_named : Part → Option Need
column_named (part.Column q) = Some (field q)
column_named asked = None

abbrev pub column_in : ℕ → Need → Option Need
column_in bag n = if n.position == bag then column_named n.part else None

abbrev pub bag_names : ℕ → ℕ → List Need → List Need
bag_names width bag own = (if is_needed (field bag) own then all_fields width else []) ++ filter_map (column_in bag) own

-- what is needed of so many fields from the first of them on, which stand by themselves at the positions from 0 on
abbrev pub within : ℕ → ℕ → Need → Option Need
within first size n = only_if (nat_le first n.position && nat_lt (n.position - first) size) (Some (record { position = n.position - first; part = n.part }))

abbrev pub key_names : List Typed → List Need
key_names keys = flat_map names_in keys

-- the inputs of a GROUP, whose bags stand in turn behind the key
abbrev pub group_uses : (ℕ → ℕ) → List Need → ℕ → List Keyed → List Use
group_uses width own bag [] = []
group_uses width own bag (input ∷ inputs) =
    record { input = input.input; named = key_names input.keys ++ bag_names (width input.input) bag own } ∷ group_uses width own (bag + 1) inputs

-- the inputs of a JOIN, whose fields stand side by side
abbrev pub join_uses : (ℕ → ℕ) → List Need → ℕ → List Keyed → List Use
join_uses width own first [] = []
join_uses width own first (input ∷ inputs) =
    record { input = input.input; named = key_names input.keys ++ filter_map (within first (width input.input)) own } ∷ join_uses width own (first + width input.input) inputs

abbrev pub whole_use : (ℕ → ℕ) → ℕ → Use
whole_use width input = record { input = input; named = all_fields (width input) }

-- What a node whose own need is given names of each of its inputs; the rows of a node are so many fields wide.
abbrev pub uses_of : (ℕ → ℕ) → List Need → PlanOp → List Use
uses_of width own (p_load path delim columns) = []
uses_of width own (p_filter input cond) = record { input = input; named = own ++ names_in cond } ∷ []
uses_of width own (p_assert input cond message) = record { input = input; named = own ++ names_in cond } ∷ []
uses_of width own (p_foreach input block) = record { input = input; named = block_names own block } ∷ []
uses_of width own (p_group_all input) = record { input = input; named = bag_names (width input) 1 own } ∷ []
uses_of width own (p_group inputs) = group_uses width own 1 inputs
uses_of width own (p_join inputs side replicated) = join_uses width own 0 inputs
uses_of width own (p_union inputs) = map (whole_use width) inputs
uses_of width own (p_distinct input) = whole_use width input ∷ []
uses_of width own (p_order input keys) = whole_use width input ∷ []
uses_of width own (p_limit input count) = whole_use width input ∷ []
uses_of width own (p_store input path delim) = whole_use width input ∷ []
uses_of width own (p_rank input keys dense) = whole_use width input ∷ []

-- ---- plans

-- a need with what is named of the node numbered k
abbrev pub with_use : ℕ → List Need → Use → List Need
with_use k need one = if one.input == k then with_all need one.named else need

abbrev pub with_uses : ℕ → List Need → List Use → List Need
with_uses k need [] = need
with_uses k need (one ∷ uses) = with_uses k (with_use k need one) uses

-- What the live ones of the nodes from number n on name of the node numbered k. The need of each is what the nodes behind it name.
abbrev pub named_behind : (ℕ → ℕ) → (ℕ → Bool) → ℕ → Plan → ℕ → List Need
named_behind width live n [] k = []
named_behind width live n (node ∷ nodes) k =
    if live n then with_uses k (named_behind width live (n + 1) nodes k) (uses_of width (or_first (named_behind width live (n + 1) nodes n)) node.op)
    else named_behind width live (n + 1) nodes k

-- what is needed of the rows of the node numbered k
abbrev pub need_of : Plan → ℕ → List Need
need_of plan k = or_first (named_behind (width_at plan) (is_live plan) (k + 1) (drop (k + 1) plan) k)

-- of each of so many columns of a LOAD whether it stays
abbrev pub column_marks : List Need → ℕ → List Bool
column_marks need width = map (is_named need) (range_with_len 0 width)
