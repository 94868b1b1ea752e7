-- The hash of an operator, by which those before it are found that may be the same. Operators that are the same have the same hash, since it goes by
-- the operator alone; that others differ is not said, and not always so.
use Rattle.std.specs.Prelude.{ℕ, ◌*◌, ◌/◌, ◌%◌, ◌^◌, Bool, List, [], ◌∷◌, Option, Some, None, if◌then◌else◌, bit_xor}
use Rattle.std.specs.Int.{w64, cast_unsigned}
use Rattle.pig_value.specs.declared.functions.Function.{Function}
use Rattle.pig_value.specs.declared.functions.Function.TheVariants as function
use Rattle.pig_value.specs.declared.inputs.Column.{Column}
use Rattle.pig_value.specs.declared.operators.ChainOp.{ChainOp}
use Rattle.pig_value.specs.declared.operators.ChainOp.TheVariants as chain
use Rattle.pig_value.specs.declared.operators.Dir.{Dir}
use Rattle.pig_value.specs.declared.operators.Dir.TheVariants as dir
use Rattle.pig_value.specs.declared.operators.Rel.{Rel}
use Rattle.pig_value.specs.declared.operators.Rel.TheVariants as rel
use Rattle.pig_value.specs.declared.operators.Side.{Side}
use Rattle.pig_value.specs.declared.operators.Side.TheVariants as side
use Rattle.pig_value.specs.Trees.{KindTree, KindTrees, k_boolean, k_int, k_long, k_chars, k_bytes, k_tuple, k_bag, k_map, no_kinds, more_kinds, kind_tree}
use Rattle.pig_typed.specs.declared.blocks.SortKey.{SortKey}
use Rattle.pig_typed.specs.Typed.{Typed, TypedArgs, TypedBlock, TypedItem, TypedLinks, TypedStep, x_null, x_bool, x_int, x_long, x_chars, x_field, x_local, x_chain, x_compare, x_is_null, x_not, x_minus, x_choose, x_cast, x_project, x_look, x_call, no_links, more_links, no_args, more_args, s_filter, s_order, s_limit, s_distinct, s_take}
use Rattle.pig_plan.specs.Plans.{Keyed, PlanOp, p_load, p_filter, p_foreach, p_group_all, p_group, p_join, p_union, p_distinct, p_order, p_limit, p_store, p_assert, p_rank}

-- 64 bits times an odd number, whose upper half then goes into the lower one, which it depends on least
unfoldable pub spread : ℕ → ℕ
spread n = bit_xor n (n / 2 ^ 32)

unfoldable pub mixed : ℕ → ℕ → ℕ
mixed h x = spread ((bit_xor h x * 0x9e37_79b9_7f4a_7c15) % 2 ^ 64)

abbrev pub flag_hash : ℕ → Bool → ℕ
flag_hash h b = if b then mixed h 1 else mixed h 2

-- the items in turn, and that they end
abbrev pub all_hash : {X : Type 0} → (ℕ → X → ℕ) → ℕ → List X → ℕ
all_hash hash h [] = mixed h 99
all_hash hash h (x ∷ xs) = all_hash hash (hash h x) xs

abbrev pub rel_number : Rel → ℕ
rel_number rel.Eq = 1
rel_number rel.Ne = 2
rel_number rel.Lt = 3
rel_number rel.Le = 4
rel_number rel.Gt = 5
rel_number rel.Ge = 6

abbrev pub side_number : Side → ℕ
side_number side.Inner = 1
side_number side.Left = 2
side_number side.Right = 3
side_number side.Full = 4

abbrev pub dir_number : Dir → ℕ
dir_number dir.Asc = 1
dir_number dir.Desc = 2

abbrev pub chain_number : ChainOp → ℕ
chain_number chain.Or = 1
chain_number chain.And = 2
chain_number chain.Add = 3
chain_number chain.Sub = 4
chain_number chain.Mul = 5
chain_number chain.Div = 6
chain_number chain.Rem = 7

abbrev pub width_hash : ℕ → Option ℕ → ℕ
width_hash h None = mixed h 1
width_hash h (Some n) = mixed (mixed h 2) n

abbrev pub function_hash : ℕ → Function → ℕ
function_hash h function.Count = mixed h 1
function_hash h function.CountStar = mixed h 2
function_hash h function.Sum = mixed h 3
function_hash h function.Min = mixed h 4
function_hash h function.Max = mixed h 5
function_hash h function.Size = mixed h 6
function_hash h function.Concat = mixed h 7
function_hash h function.IsEmpty = mixed h 8
function_hash h function.Tokenize = mixed h 9
function_hash h function.Substring = mixed h 10
function_hash h function.StartsWith = mixed h 11
function_hash h function.EndsWith = mixed h 12
function_hash h function.IndexOf = mixed h 13
function_hash h function.Abs = mixed h 14
function_hash h function.ToTuple = mixed h 15
function_hash h (function.ToBag n) = width_hash (mixed h 16) n

-- ---- kinds

abbrev mutual
  pub kind_hash : ℕ → KindTree → ℕ
  kind_hash h k_boolean = mixed h 1
  kind_hash h k_int = mixed h 2
  kind_hash h k_long = mixed h 3
  kind_hash h k_chars = mixed h 4
  kind_hash h k_bytes = mixed h 5
  kind_hash h (k_tuple ks) = kinds_hash (mixed h 6) ks
  kind_hash h (k_bag ks) = kinds_hash (mixed h 7) ks
  kind_hash h (k_map k) = kind_hash (mixed h 8) k

  pub kinds_hash : ℕ → KindTrees → ℕ
  kinds_hash h no_kinds = mixed h 99
  kinds_hash h (more_kinds k ks) = kinds_hash (kind_hash h k) ks

-- ---- expressions

abbrev mutual
  pub expr_hash : ℕ → Typed → ℕ
  expr_hash h x_null = mixed h 1
  expr_hash h (x_bool b) = flag_hash (mixed h 2) b
  expr_hash h (x_int z) = mixed (mixed h 3) (cast_unsigned w64 z)
  expr_hash h (x_long z) = mixed (mixed h 4) (cast_unsigned w64 z)
  expr_hash h (x_chars text) = all_hash mixed (mixed h 5) text
  expr_hash h (x_field n) = mixed (mixed h 6) n
  expr_hash h (x_local n) = mixed (mixed h 7) n
  expr_hash h (x_chain a ls) = links_hash (expr_hash (mixed h 8) a) ls
  expr_hash h (x_compare r a b) = expr_hash (expr_hash (mixed (mixed h 9) (rel_number r)) a) b
  expr_hash h (x_is_null a m) = flag_hash (expr_hash (mixed h 10) a) m
  expr_hash h (x_not a) = expr_hash (mixed h 11) a
  expr_hash h (x_minus a) = expr_hash (mixed h 12) a
  expr_hash h (x_choose t a b) = expr_hash (expr_hash (expr_hash (mixed h 13) t) a) b
  expr_hash h (x_cast k a) = expr_hash (kind_hash (mixed h 14) k) a
  expr_hash h (x_project a ns s) = flag_hash (all_hash mixed (expr_hash (mixed h 15) a) ns) s
  expr_hash h (x_look a key) = all_hash mixed (expr_hash (mixed h 16) a) key
  expr_hash h (x_call f es) = args_hash (function_hash (mixed h 17) f) es

  pub links_hash : ℕ → TypedLinks → ℕ
  links_hash h no_links = mixed h 99
  links_hash h (more_links f a ls) = links_hash (expr_hash (mixed h (chain_number f)) a) ls

  pub args_hash : ℕ → TypedArgs → ℕ
  args_hash h no_args = mixed h 99
  args_hash h (more_args a es) = args_hash (expr_hash h a) es

-- ---- blocks and operators

abbrev pub sort_key_hash : ℕ → SortKey → ℕ
sort_key_hash h k = mixed (mixed h k.position) (dir_number k.dir)

abbrev pub step_hash : ℕ → TypedStep → ℕ
step_hash h (s_filter a c) = expr_hash (expr_hash (mixed h 1) a) c
step_hash h (s_order a ks) = all_hash sort_key_hash (expr_hash (mixed h 2) a) ks
step_hash h (s_limit a n) = mixed (expr_hash (mixed h 3) a) n
step_hash h (s_distinct a) = expr_hash (mixed h 4) a
step_hash h (s_take a) = expr_hash (mixed h 5) a

abbrev pub item_hash : ℕ → TypedItem → ℕ
item_hash h a = mixed (flag_hash (expr_hash h a.value) a.flatten) a.width

abbrev pub block_hash : ℕ → TypedBlock → ℕ
block_hash h a = all_hash item_hash (all_hash step_hash h a.steps) a.items

abbrev pub keyed_hash : ℕ → Keyed → ℕ
keyed_hash h a = all_hash expr_hash (flag_hash (mixed h a.input) a.inner) a.keys

abbrev pub column_hash : ℕ → Column → ℕ
column_hash h c = kind_hash (mixed h c.position) (kind_tree c.kind)

abbrev pub message_hash : ℕ → Option (List ℕ) → ℕ
message_hash h None = mixed h 1
message_hash h (Some message) = all_hash mixed (mixed h 2) message

-- a STORE is looked for by none
abbrev pub op_hash : PlanOp → ℕ
op_hash (p_load path delim columns) = all_hash column_hash (mixed (all_hash mixed (mixed 0 1) path) delim) columns
op_hash (p_filter i c) = expr_hash (mixed (mixed 0 2) i) c
op_hash (p_foreach i block) = block_hash (mixed (mixed 0 3) i) block
op_hash (p_group_all i) = mixed (mixed 0 4) i
op_hash (p_group ks) = all_hash keyed_hash (mixed 0 5) ks
op_hash (p_join ks s m) = all_hash keyed_hash (flag_hash (mixed (mixed 0 6) (side_number s)) m) ks
op_hash (p_union is) = all_hash mixed (mixed 0 7) is
op_hash (p_distinct i) = mixed (mixed 0 8) i
op_hash (p_order i ks) = all_hash sort_key_hash (mixed (mixed 0 9) i) ks
op_hash (p_limit i n) = mixed (mixed (mixed 0 10) i) n
op_hash (p_store i path delim) = 0
op_hash (p_assert i c message) = message_hash (expr_hash (mixed (mixed 0 12) i) c) message
op_hash (p_rank i ks dense) = all_hash sort_key_hash (flag_hash (mixed (mixed 0 11) i) dense) ks
