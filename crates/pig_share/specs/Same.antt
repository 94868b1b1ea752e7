-- When two operators are the same, decided by going through both.
use Rattle.std.specs.Prelude.{◌≡◌, IsTrue, ℕ, ◌==◌, Bool, true, false, ◌&&◌, not, List, [], ◌∷◌, Option, Some, None, if◌then◌else◌, bytes_eq}
use Rattle.std.specs.Ordering.{int_eq}
use Rattle.pig_value.specs.declared.functions.Function.{Function}
use Rattle.pig_value.specs.declared.functions.Function.TheVariants as function
use Rattle.pig_value.specs.declared.inputs.Column.{Column}
use Rattle.pig_value.specs.declared.operators.ChainOp.{ChainOp}
use Rattle.pig_value.specs.declared.operators.ChainOp.TheVariants as chain
use Rattle.pig_value.specs.declared.operators.Dir.{Dir}
use Rattle.pig_value.specs.declared.operators.Dir.TheVariants as dir
use Rattle.pig_value.specs.declared.operators.Rel.{Rel}
use Rattle.pig_value.specs.declared.operators.Rel.TheVariants as rel
use Rattle.pig_value.specs.declared.operators.Side.{Side}
use Rattle.pig_value.specs.declared.operators.Side.TheVariants as side
use Rattle.pig_value.specs.Kinds.{kind_eq}
use Rattle.pig_value.specs.Trees.{kind_tree}
use Rattle.pig_typed.specs.declared.blocks.SortKey.{SortKey}
use Rattle.pig_typed.specs.Typed.{Typed, TypedArgs, TypedBlock, TypedItem, TypedLinks, TypedStep, x_null, x_bool, x_int, x_long, x_chars, x_field, x_local, x_chain, x_compare, x_is_null, x_not, x_minus, x_choose, x_cast, x_project, x_look, x_call, no_links, more_links, no_args, more_args, s_filter, s_order, s_limit, s_distinct, s_take}
use Rattle.pig_plan.specs.Plans.{Keyed, PlanOp, p_load, p_filter, p_foreach, p_group_all, p_group, p_join, p_union, p_distinct, p_order, p_limit, p_assert, p_rank}

abbrev pub same_bool : Bool → Bool → Bool
same_bool a b = if a then b else not b

abbrev pub same_rel : Rel → Rel → Bool
same_rel rel.Eq rel.Eq = true
same_rel rel.Ne rel.Ne = true
same_rel rel.Lt rel.Lt = true
same_rel rel.Le rel.Le = true
same_rel rel.Gt rel.Gt = true
same_rel rel.Ge rel.Ge = true
same_rel _ _ = false

abbrev pub same_side : Side → Side → Bool
same_side side.Inner side.Inner = true
same_side side.Left side.Left = true
same_side side.Right side.Right = true
same_side side.Full side.Full = true
same_side _ _ = false

abbrev pub same_dir : Dir → Dir → Bool
same_dir dir.Asc dir.Asc = true
same_dir dir.Desc dir.Desc = true
same_dir _ _ = false

abbrev pub same_chain : ChainOp → ChainOp → Bool
same_chain chain.Or chain.Or = true
same_chain chain.And chain.And = true
same_chain chain.Add chain.Add = true
same_chain chain.Sub chain.Sub = true
same_chain chain.Mul chain.Mul = true
same_chain chain.Div chain.Div = true
same_chain chain.Rem chain.Rem = true
same_chain _ _ = false

abbrev pub same_width : Option ℕ → Option ℕ → Bool
same_width None None = true
same_width (Some m) (Some n) = m == n
same_width _ _ = false

abbrev pub same_function : Function → Function → Bool
same_function function.Count function.Count = true
same_function function.CountStar function.CountStar = true
same_function function.Sum function.Sum = true
same_function function.Min function.Min = true
same_function function.Max function.Max = true
same_function function.Size function.Size = true
same_function function.Concat function.Concat = true
same_function function.IsEmpty function.IsEmpty = true
same_function function.Tokenize function.Tokenize = true
same_function function.Substring function.Substring = true
same_function function.StartsWith function.StartsWith = true
same_function function.EndsWith function.EndsWith = true
same_function function.IndexOf function.IndexOf = true
same_function function.Abs function.Abs = true
same_function function.ToTuple function.ToTuple = true
same_function (function.ToBag m) (function.ToBag n) = same_width m n
same_function _ _ = false

-- ---- expressions

abbrev mutual
  pub same_expr : Typed → Typed → Bool
  same_expr x_null x_null = true
  same_expr (x_bool a) (x_bool b) = same_bool a b
  same_expr (x_int a) (x_int b) = int_eq a b
  same_expr (x_long a) (x_long b) = int_eq a b
  same_expr (x_chars a) (x_chars b) = bytes_eq a b
  same_expr (x_field a) (x_field b) = a == b
  same_expr (x_local a) (x_local b) = a == b
  same_expr (x_chain a ls) (x_chain b ms) = same_expr a b && same_links ls ms
  same_expr (x_compare r a c) (x_compare s b d) = same_rel r s && (same_expr a b && same_expr c d)
  same_expr (x_is_null a m) (x_is_null b n) = same_expr a b && same_bool m n
  same_expr (x_not a) (x_not b) = same_expr a b
  same_expr (x_minus a) (x_minus b) = same_expr a b
  same_expr (x_choose t a c) (x_choose u b d) = same_expr t u && (same_expr a b && same_expr c d)
  same_expr (x_cast k a) (x_cast l b) = kind_eq k l && same_expr a b
  same_expr (x_project a ms s) (x_project b ns t) = same_expr a b && (bytes_eq ms ns && same_bool s t)
  same_expr (x_look a m) (x_look b n) = same_expr a b && bytes_eq m n
  same_expr (x_call f as1) (x_call g bs) = same_function f g && same_args as1 bs
  same_expr _ _ = false

  pub same_links : TypedLinks → TypedLinks → Bool
  same_links no_links no_links = true
  same_links (more_links f a ls) (more_links g b ms) = (same_chain f g && same_expr a b) && same_links ls ms
  same_links _ _ = false

  pub same_args : TypedArgs → TypedArgs → Bool
  same_args no_args no_args = true
  same_args (more_args a as1) (more_args b bs) = same_expr a b && same_args as1 bs
  same_args _ _ = false

-- ---- lists of such, by the test of two

abbrev pub same_all : {X : Type 0} → (X → X → Bool) → List X → List X → Bool
same_all same [] [] = true
same_all same (x ∷ xs) (y ∷ ys) = same x y && same_all same xs ys
same_all same _ _ = false

abbrev pub same_key : SortKey → SortKey → Bool
same_key k l = (k.position == l.position) && same_dir k.dir l.dir

abbrev pub same_step : TypedStep → TypedStep → Bool
same_step (s_filter a c) (s_filter b d) = same_expr a b && same_expr c d
same_step (s_order a ks) (s_order b ls) = same_expr a b && same_all same_key ks ls
same_step (s_limit a m) (s_limit b n) = same_expr a b && (m == n)
same_step (s_distinct a) (s_distinct b) = same_expr a b
same_step (s_take a) (s_take b) = same_expr a b
same_step _ _ = false

abbrev pub same_item : TypedItem → TypedItem → Bool
same_item a b = same_expr a.value b.value && (same_bool a.flatten b.flatten && (a.width == b.width))

abbrev pub same_block : TypedBlock → TypedBlock → Bool
same_block a b = same_all same_step a.steps b.steps && same_all same_item a.items b.items

abbrev pub same_keyed : Keyed → Keyed → Bool
same_keyed a b = (a.input == b.input) && (same_bool a.inner b.inner && same_all same_expr a.keys b.keys)

abbrev pub same_column : Column → Column → Bool
same_column a b = (a.position == b.position) && kind_eq (kind_tree a.kind) (kind_tree b.kind)

-- the text behind the condition of an ASSERT
abbrev pub same_message : Option (List ℕ) → Option (List ℕ) → Bool
same_message None None = true
same_message (Some m) (Some n) = bytes_eq m n
same_message _ _ = false

-- ---- operators, but for STOREs

abbrev pub same_op : PlanOp → PlanOp → Bool
same_op (p_load p m cs) (p_load q n ds) = bytes_eq p q && ((m == n) && same_all same_column cs ds)
same_op (p_filter i c) (p_filter j d) = (i == j) && same_expr c d
same_op (p_foreach i a) (p_foreach j b) = (i == j) && same_block a b
same_op (p_group_all i) (p_group_all j) = i == j
same_op (p_group ks) (p_group ls) = same_all same_keyed ks ls
same_op (p_join ks s m) (p_join ls t n) = same_side s t && (same_bool m n && same_all same_keyed ks ls)
same_op (p_union is) (p_union js) = bytes_eq is js
same_op (p_distinct i) (p_distinct j) = i == j
same_op (p_order i ks) (p_order j ls) = (i == j) && same_all same_key ks ls
same_op (p_limit i m) (p_limit j n) = (i == j) && (m == n)
same_op (p_assert i c m) (p_assert j d n) = (i == j) && (same_expr c d && same_message m n)
same_op (p_rank i ks a) (p_rank j ls b) = (i == j) && (same_bool a b && same_all same_key ks ls)
same_op _ _ = false

-- what a LOAD reads, and nothing of another operator
abbrev pub columns_of : PlanOp → List Column
columns_of (p_load path delim columns) = columns
columns_of o = []

-- what is said of two operators: the test, and that the same ones read the same columns
abbrev pub SaysSame : PlanOp → PlanOp → Bool → Type 0
SaysSame o p c = (c ≡ same_op o p) × (IsTrue c → columns_of o ≡ columns_of p)
