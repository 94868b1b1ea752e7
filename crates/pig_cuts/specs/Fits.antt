-- Expressions and blocks over cut rows: their fields and columns at new positions, and when they see all that they look at.
use Rattle.std.specs.Prelude.{ℕ, ◌==◌, Bool, true, ◌&&◌, List, map, Option, Some, None}
use Rattle.std.specs.List.{list_all}
use Rattle.std.specs.Option.{option_map_or}
use Rattle.pig_value.specs.declared.functions.Function.{Function}
use Rattle.pig_value.specs.declared.functions.Function.TheVariants as f
use Rattle.pig_typed.specs.Typed.{Typed, TypedLinks, TypedArgs, TypedItem, TypedStep, x_null, x_bool, x_int, x_long, x_chars, x_field, x_local, x_chain, x_compare, x_is_null, x_not, x_minus, x_choose, x_cast, x_project, x_look, x_call, no_links, more_links, no_args, more_args, s_filter, s_order, s_limit, s_distinct, s_take}
use Rattle.pig_plan.specs.Moves.{field_of}
use Rattle.pig_cuts.specs.Cuts.{Left, NodeCut, is_whole, left_of, place_of}

-- how an operand is left that is a plain field; any other one counts as whole
abbrev pub left_of_field : NodeCut → Option ℕ → Left
left_of_field own field = option_map_or (left_of own) field (Some None)

-- the columns of a bag that is left so, at their new positions
abbrev pub fit_columns : (ℕ → NodeCut) → Left → List ℕ → List ℕ
fit_columns cuts (Some (Some n)) columns = map (place_of (cuts n)) columns
fit_columns cuts left columns = columns

-- ---- new positions: `cuts` has the cut of each node, `own` that of the row

abbrev mutual
  pub fit : (ℕ → NodeCut) → NodeCut → Typed → Typed
  fit cuts own x_null = x_null
  fit cuts own (x_bool b) = x_bool b
  fit cuts own (x_int z) = x_int z
  fit cuts own (x_long z) = x_long z
  fit cuts own (x_chars text) = x_chars text
  fit cuts own (x_field n) = x_field (place_of own n)
  fit cuts own (x_local n) = x_local n
  fit cuts own (x_chain first links) = x_chain (fit cuts own first) (fit_links cuts own links)
  fit cuts own (x_compare r a b) = x_compare r (fit cuts own a) (fit cuts own b)
  fit cuts own (x_is_null a negated) = x_is_null (fit cuts own a) negated
  fit cuts own (x_not a) = x_not (fit cuts own a)
  fit cuts own (x_minus a) = x_minus (fit cuts own a)
  fit cuts own (x_choose test a b) = x_choose (fit cuts own test) (fit cuts own a) (fit cuts own b)
  fit cuts own (x_cast to a) = x_cast to (fit cuts own a)
  fit cuts own (x_project a columns single) = x_project (fit cuts own a) (fit_columns cuts (left_of_field own (field_of a)) columns) single
  fit cuts own (x_look a key) = x_look (fit cuts own a) key
  fit cuts own (x_call function args) = x_call function (fit_args cuts own args)

  pub fit_links : (ℕ → NodeCut) → NodeCut → TypedLinks → TypedLinks
  fit_links cuts own no_links = no_links
  fit_links cuts own (more_links operator a links) = more_links operator (fit cuts own a) (fit_links cuts own links)

  pub fit_args : (ℕ → NodeCut) → NodeCut → TypedArgs → TypedArgs
  fit_args cuts own no_args = no_args
  fit_args cuts own (more_args e args) = more_args (fit cuts own e) (fit_args cuts own args)

abbrev pub fit_step : (ℕ → NodeCut) → NodeCut → TypedStep → TypedStep
fit_step cuts own (s_filter from cond) = s_filter (fit cuts own from) cond
fit_step cuts own (s_order from keys) = s_order (fit cuts own from) keys
fit_step cuts own (s_limit from count) = s_limit (fit cuts own from) count
fit_step cuts own (s_distinct from) = s_distinct (fit cuts own from)
fit_step cuts own (s_take from) = s_take (fit cuts own from)

abbrev pub fit_item : (ℕ → NodeCut) → NodeCut → TypedItem → TypedItem
fit_item cuts own item = record { value = fit cuts own item.value; flatten = item.flatten; width = item.width }

-- ---- what is seen

-- Columns of a bag are seen where each of them is left whole; `seen` says so of the operand as such.
abbrev pub columns_seen : (ℕ → NodeCut) → Left → List ℕ → Bool → Bool
columns_seen cuts (Some (Some n)) columns seen = list_all (λ q. is_whole (left_of (cuts n) q)) columns
columns_seen cuts left columns seen = seen

-- the first column stays the first, and whole
abbrev pub leads : NodeCut → Bool
leads own = (place_of own 0 == 0) && is_whole (left_of own 0)

-- COUNT looks at the first column of a bag, and what counts rows at none.
abbrev pub argument_seen : (ℕ → NodeCut) → Function → Left → Bool → Bool
argument_seen cuts f.Count (Some (Some n)) seen = leads (cuts n)
argument_seen cuts f.CountStar (Some (Some n)) seen = true
argument_seen cuts f.Size (Some (Some n)) seen = true
argument_seen cuts f.IsEmpty (Some (Some n)) seen = true
argument_seen cuts function left seen = seen

-- the plain field that is the only argument
abbrev pub only_field : TypedArgs → Option ℕ
only_field (more_args e no_args) = field_of e
only_field args = None

-- An expression sees what it looks at: each field whole, or of a bag the columns.
abbrev mutual
  pub sees : (ℕ → NodeCut) → NodeCut → Typed → Bool
  sees cuts own x_null = true
  sees cuts own (x_bool b) = true
  sees cuts own (x_int z) = true
  sees cuts own (x_long z) = true
  sees cuts own (x_chars text) = true
  sees cuts own (x_field n) = is_whole (left_of own n)
  sees cuts own (x_local n) = true
  sees cuts own (x_chain first links) = sees cuts own first && links_see cuts own links
  sees cuts own (x_compare r a b) = sees cuts own a && sees cuts own b
  sees cuts own (x_is_null a negated) = sees cuts own a
  sees cuts own (x_not a) = sees cuts own a
  sees cuts own (x_minus a) = sees cuts own a
  sees cuts own (x_choose test a b) = sees cuts own test && (sees cuts own a && sees cuts own b)
  sees cuts own (x_cast to a) = sees cuts own a
  sees cuts own (x_project a columns single) = columns_seen cuts (left_of_field own (field_of a)) columns (sees cuts own a)
  sees cuts own (x_look a key) = sees cuts own a
  sees cuts own (x_call function args) = argument_seen cuts function (left_of_field own (only_field args)) (args_see cuts own args)

  pub links_see : (ℕ → NodeCut) → NodeCut → TypedLinks → Bool
  links_see cuts own no_links = true
  links_see cuts own (more_links operator a links) = sees cuts own a && links_see cuts own links

  pub args_see : (ℕ → NodeCut) → NodeCut → TypedArgs → Bool
  args_see cuts own no_args = true
  args_see cuts own (more_args e args) = sees cuts own e && args_see cuts own args

-- what a nested step stands on; its condition and its keys see the columns of its bag alone
abbrev pub bag_in : TypedStep → Typed
bag_in (s_filter from cond) = from
bag_in (s_order from keys) = from
bag_in (s_limit from count) = from
bag_in (s_distinct from) = from
bag_in (s_take from) = from
