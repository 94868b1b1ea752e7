-- Texts of expressions, blocks, kinds and plans, computed.
use Rattle.std.specs.Prelude.{◌≡◌, ℕ, pos, negsuc, Bool, true, false, List, [], ◌∷◌, ◌++◌, codes, map, None, Some, refl}
use Rattle.std.specs.Fmt.{digits}
use Rattle.pig_value.specs.declared.functions.Function.TheVariants as f
use Rattle.pig_value.specs.declared.operators.ChainOp.TheVariants as chain
use Rattle.pig_value.specs.declared.operators.Dir.TheVariants.{Asc, Desc}
use Rattle.pig_value.specs.declared.operators.Rel.{Rel}
use Rattle.pig_value.specs.declared.operators.Rel.TheVariants as rel
use Rattle.pig_value.specs.declared.operators.Side.TheVariants as side
use Rattle.pig_value.specs.Trees.{k_boolean, k_int, k_long, k_chars, k_bytes, k_tuple, k_bag, k_map, kinds_of}
use Rattle.pig_typed.specs.declared.blocks.SortKey.{SortKey}
use Rattle.pig_typed.specs.Typed.{Typed, TypedItem, args_of, links_of, x_null, x_bool, x_int, x_long, x_chars, x_field, x_local, x_chain, x_compare, x_is_null, x_not, x_minus, x_choose, x_cast, x_project, x_look, x_call, s_filter, s_order, s_limit, s_distinct, s_take}
use Rattle.pig_plan.specs.Plans.{Keyed, Plan, PlanNode, PlanOp, p_load, p_filter, p_foreach, p_group_all, p_group, p_join, p_union, p_distinct, p_order, p_limit, p_store, p_assert, p_rank}
use Rattle.pig_explain.specs.ExprTexts.{block_text, expr_text}
use Rattle.pig_explain.specs.Explained.{explain_text}
use Rattle.pig_explain.specs.KindTexts.{kind_text}
use Rattle.pig_explain.specs.NodeTexts.{node_text}
use Rattle.pig_explain.specs.Numbered.{post_order}

-- ---- expressions

abbrev field : ℕ → Typed
field = x_field

leaves : map expr_text (x_null ∷ x_bool true ∷ x_bool false ∷ x_int (pos 5) ∷ x_int (negsuc 4) ∷ x_long (pos 5) ∷ field 1 ∷ x_local 2 ∷ [])
    ≡ codes "null" ∷ codes "true" ∷ codes "false" ∷ codes "5" ∷ codes "-5" ∷ codes "5L" ∷ codes "$1" ∷ codes "@2" ∷ []
unfolding digits
leaves = refl

-- a quote, a backslash and a tab are escaped, and a line end isn't
escapes : expr_text (x_chars (97 ∷ 39 ∷ 92 ∷ 9 ∷ 34 ∷ 10 ∷ [])) ≡ 39 ∷ 97 ∷ 92 ∷ 39 ∷ 92 ∷ 92 ∷ 92 ∷ 116 ∷ 34 ∷ 10 ∷ 39 ∷ []
escapes = refl

chains : map expr_text (
    x_chain (field 0) (links_of ((chain.Add, field 1) ∷ (chain.Sub, field 2) ∷ [])) ∷
    x_chain (field 0) (links_of ((chain.And, field 1) ∷ [])) ∷
    x_chain (field 0) (links_of ((chain.Or, field 1) ∷ [])) ∷
    x_chain (field 0) (links_of ((chain.Mul, field 1) ∷ (chain.Div, field 2) ∷ (chain.Rem, field 3) ∷ [])) ∷ [])
    ≡ codes "($0 + $1 - $2)" ∷ codes "($0 AND $1)" ∷ codes "($0 OR $1)" ∷ codes "($0 * $1 / $2 % $3)" ∷ []
unfolding digits
chains = refl

abbrev compared : Rel → Typed
compared op = x_compare op (field 0) (x_int (pos 1))

comparisons : map expr_text (map compared (rel.Eq ∷ rel.Ne ∷ rel.Lt ∷ rel.Le ∷ rel.Gt ∷ rel.Ge ∷ []))
    ≡ codes "($0 == 1)" ∷ codes "($0 != 1)" ∷ codes "($0 < 1)" ∷ codes "($0 <= 1)" ∷ codes "($0 > 1)" ∷ codes "($0 >= 1)" ∷ []
unfolding digits
comparisons = refl

operators : map expr_text (x_is_null (field 0) false ∷ x_is_null (field 0) true ∷ x_not (field 0) ∷ x_minus (field 0) ∷ x_choose (field 0) (field 1) (field 2) ∷ [])
    ≡ codes "($0 IS NULL)" ∷ codes "($0 IS NOT NULL)" ∷ codes "(NOT $0)" ∷ codes "(- $0)" ∷ codes "($0 ? $1 : $2)" ∷ []
unfolding digits
operators = refl

casts_and_parts : map expr_text (
    x_cast k_long (field 0) ∷ x_project (field 1) (0 ∷ []) true ∷ x_project (field 1) (0 ∷ 2 ∷ []) false ∷ x_project (field 1) (3 ∷ []) false ∷
    x_look (field 0) (codes "k") ∷ x_call f.Count (args_of (field 1 ∷ [])) ∷ x_call f.Concat (args_of (field 0 ∷ field 1 ∷ field 2 ∷ [])) ∷
    x_call (f.ToBag None) (args_of []) ∷ [])
    ≡ codes "((long) $0)" ∷ codes "$1.0" ∷ codes "$1.(0,2)" ∷ codes "$1.(3)" ∷
    codes "$0#'k'" ∷ codes "COUNT($1)" ∷ codes "CONCAT($0, $1, $2)" ∷ codes "TOBAG()" ∷ []
unfolding digits
casts_and_parts = refl

kinds : map kind_text (k_boolean ∷ k_int ∷ k_long ∷ k_chars ∷ k_bytes ∷ k_tuple (kinds_of (k_int ∷ k_long ∷ [])) ∷ k_bag (kinds_of (k_int ∷ k_map k_chars ∷ [])) ∷ k_tuple (kinds_of []) ∷ [])
    ≡ codes "boolean" ∷ codes "int" ∷ codes "long" ∷ codes "chararray" ∷ codes "bytearray" ∷ codes "tuple(int,long)" ∷ codes "bag{int,map[chararray]}" ∷ codes "tuple()" ∷ []
kinds = refl

-- ---- blocks

abbrev plain : Typed → TypedItem
plain e = record { value = e; flatten = false; width = 1 }

abbrev flat : Typed → TypedItem
flat e = record { value = e; flatten = true; width = 1 }

abbrev asc : ℕ → SortKey
asc position = record { position = position; dir = Asc }

abbrev desc : ℕ → SortKey
desc position = record { position = position; dir = Desc }

block : block_text (record { steps = s_filter (field 1) (x_bool true) ∷ s_distinct (x_local 0) ∷ s_order (x_local 1) (asc 0 ∷ desc 2 ∷ []) ∷ s_limit (x_local 2) 10 ∷ s_take (field 1) ∷ []; items = plain (field 0) ∷ flat (x_local 3) ∷ [] })
    ≡ codes " @0 = FILTER $1 true; @1 = DISTINCT @0; @2 = ORDER @1 $0 ASC, $2 DESC; @3 = LIMIT @2 10; @4 = $1; $0, FLATTEN(@3)"
unfolding digits
block = refl

no_steps : block_text (record { steps = []; items = plain (field 0) ∷ plain (field 1) ∷ [] }) ≡ codes " $0, $1"
unfolding digits
no_steps = refl

-- ---- nodes

abbrev by : ℕ → List Typed → Bool → Keyed
by input keys inner = record { input = input; keys = keys; inner = inner }

-- printed are the nodes 4, 7 and 9, as 0, 1 and 2
abbrev shown : PlanOp → List ℕ
shown = node_text (4 ∷ 7 ∷ 9 ∷ [])

by_key : map shown (
    p_group_all 7 ∷ p_group (by 7 (field 0 ∷ field 1 ∷ []) false ∷ []) ∷ p_group (by 4 (field 0 ∷ []) true ∷ by 7 (field 1 ∷ []) false ∷ []) ∷
    p_join (by 4 (field 0 ∷ []) false ∷ by 9 (field 0 ∷ []) false ∷ []) side.Inner false ∷
    p_join (by 4 (field 0 ∷ []) false ∷ by 9 (field 0 ∷ []) false ∷ []) side.Right false ∷
    p_join (by 4 (field 0 ∷ []) false ∷ by 9 (field 0 ∷ []) false ∷ []) side.Full false ∷
    p_join (by 4 (field 0 ∷ []) false ∷ by 9 (field 0 ∷ []) false ∷ []) side.Left true ∷ [])
    ≡ codes "GROUP 1 ALL" ∷ codes "GROUP 1 BY $0,$1" ∷ codes "GROUP 0 BY $0 INNER; 1 BY $1" ∷
    codes "JOIN 0 BY $0; 2 BY $0" ∷ codes "JOIN 0 BY $0 RIGHT; 2 BY $0" ∷ codes "JOIN 0 BY $0 FULL; 2 BY $0" ∷ codes "JOIN 0 BY $0 LEFT; 2 BY $0 USING replicated" ∷ []
unfolding digits
by_key = refl

others : map shown (
    p_load (codes "in") 44 [] ∷ p_filter 9 (x_bool true) ∷ p_foreach 4 (record { steps = []; items = plain (field 0) ∷ [] }) ∷ p_union (4 ∷ 4 ∷ 9 ∷ []) ∷ p_distinct 7 ∷
    p_order 7 (asc 0 ∷ desc 1 ∷ []) ∷ p_limit 7 10 ∷ p_store 9 (codes "out") 124 ∷ p_assert 4 (x_bool true) (Some (codes "m")) ∷
    p_rank 4 (asc 0 ∷ []) false ∷ p_rank 4 (asc 0 ∷ []) true ∷ [])
    ≡ codes "LOAD 'in' 2c" ∷ codes "FILTER 2 true" ∷ codes "FOREACH 0 $0" ∷ codes "UNION 0 0 2" ∷ codes "DISTINCT 1" ∷
    codes "ORDER 1 $0 ASC, $1 DESC" ∷ codes "LIMIT 1 10" ∷ codes "STORE 2 'out' 7c" ∷ codes "ASSERT 0 true" ∷
    codes "RANK 0 $0 ASC" ∷ codes "RANK 0 $0 ASC DENSE" ∷ []
unfolding digits
others = refl

-- ---- plans

abbrev node : PlanOp → PlanNode
node o = record { op = o; statement = 0 }

abbrev load : List ℕ → PlanNode
load path = node (p_load path 9 [])

abbrev above : ℕ → ℕ → Typed
above position n = x_compare rel.Gt (field position) (x_int (pos n))

abbrev joins : ℕ → ℕ → PlanNode
joins a b = node (p_join (by a (field 0 ∷ []) false ∷ by b (field 0 ∷ []) false ∷ []) side.Left false)

abbrev checked : Plan
checked =
    load (codes "a") ∷ load (codes "b") ∷ joins 0 1 ∷
    node (p_filter 2 (x_chain (above 1 1) (links_of ((chain.And, above 3 2) ∷ [])))) ∷
    node (p_distinct 0) ∷ node (p_store 3 (codes "o") 9) ∷ []

abbrev rewritten : Plan
rewritten =
    load (codes "a") ∷ load (codes "b") ∷ node (p_filter 0 (above 1 1)) ∷ joins 2 1 ∷ node (p_filter 3 (above 3 2)) ∷
    node (p_store 4 (codes "o") 9) ∷ []

abbrev line : List ℕ → List ℕ
line text = text ++ 10 ∷ []

-- a filter on a left join, before and after its part on the left input went below the join: the DISTINCT that no STORE reaches isn't printed
pushed_left_join : explain_text checked rewritten ≡
    line (codes "checked") ++ line (codes "0 LOAD 'a' 09") ++ line (codes "1 LOAD 'b' 09") ++ line (codes "2 JOIN 0 BY $0 LEFT; 1 BY $0") ++
    line (codes "3 FILTER 2 (($1 > 1) AND ($3 > 2))") ++ line (codes "4 STORE 3 'o' 09") ++
    line (codes "rewritten") ++ line (codes "0 LOAD 'a' 09") ++ line (codes "1 FILTER 0 ($1 > 1)") ++ line (codes "2 LOAD 'b' 09") ++
    line (codes "3 JOIN 1 BY $0 LEFT; 2 BY $0") ++ line (codes "4 FILTER 3 ($3 > 2)") ++ line (codes "5 STORE 4 'o' 09") ++
    line (codes "waves") ++ line (codes "0 map 3") ++ line (codes "1 reduce 3") ++ line (codes "2 store")
unfolding digits
pushed_left_join = refl

-- two STOREs over what they share: each node stands once, before the first that names it
shared : post_order (load (codes "a") ∷ load (codes "b") ∷ node (p_union (1 ∷ 0 ∷ [])) ∷ node (p_store 1 (codes "o") 9) ∷ node (p_store 2 (codes "p") 9) ∷ [])
    ≡ 1 ∷ 3 ∷ 0 ∷ 2 ∷ 4 ∷ []
shared = refl

abbrev joins_copied : PlanNode
joins_copied = node (p_join (by 1 (field 0 ∷ []) false ∷ by 0 (field 0 ∷ []) false ∷ []) side.Inner true)

-- waves that combine, and those of a copied join and of ranks
waves : explain_text [] (load (codes "a") ∷ node (p_distinct 0) ∷ joins_copied ∷ node (p_rank 2 (asc 0 ∷ []) false) ∷ node (p_store 3 (codes "o") 9) ∷ []) ≡
    line (codes "checked") ++ line (codes "rewritten") ++ line (codes "0 LOAD 'a' 09") ++ line (codes "1 DISTINCT 0") ++
    line (codes "2 JOIN 1 BY $0; 0 BY $0 USING replicated") ++ line (codes "3 RANK 2 $0 ASC") ++ line (codes "4 STORE 3 'o' 09") ++
    line (codes "waves") ++ line (codes "0 map 1 combine") ++ line (codes "1 reduce 1") ++ line (codes "2 copy 2") ++ line (codes "3 probe 2") ++
    line (codes "4 map 3") ++ line (codes "5 reduce 3") ++ line (codes "6 rank 3") ++ line (codes "7 store")
unfolding digits
waves = refl
