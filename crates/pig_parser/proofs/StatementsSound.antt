-- What is read as a statement stands by the grammar.
use Rattle.std.proofs.Common.{◌≡◌, ℕ, refl, subst, Bool, true, if◌then◌else◌, List, [], ◌∷◌, length}
use Rattle.std.specs.Prelude.{Some, None}
use Rattle.pig_value.specs.declared.operators.Side.{Side}
use Rattle.pig_syntax.specs.declared.tokens.Keyword.{Keyword}
use Rattle.pig_syntax.specs.declared.tokens.Keyword.TheVariants as k
use Rattle.pig_syntax.specs.declared.tokens.Symbol.TheVariants as s
use Rattle.pig_syntax.specs.declared.tokens.TokenForm.{TokenForm}
use Rattle.pig_syntax.specs.declared.tokens.TokenForm.TheVariants as f
use Rattle.pig_syntax.specs.declared.trees.AsNames.TheVariants as named
use Rattle.pig_syntax.specs.declared.trees.Expr.{Expr}
use Rattle.pig_syntax.specs.declared.trees.FieldRef.{FieldRef}
use Rattle.pig_syntax.specs.declared.trees.FieldTree.{FieldTree}
use Rattle.pig_syntax.specs.declared.trees.BagRef.{BagRef}
use Rattle.pig_syntax.specs.declared.trees.Nested.TheVariants as nested
use Rattle.pig_syntax.specs.declared.trees.Op.TheVariants as op
use Rattle.pig_syntax.specs.declared.trees.Stmt.{Stmt}
use Rattle.pig_syntax.specs.declared.trees.Stmt.TheVariants as stmt
use Rattle.pig_exprs.specs.Grammar.{Forms, Listed, IsFieldRef, IsSchemaField}
use Rattle.pig_parser.specs.Statements.{IsExpr, AreKeys, IsDir, IsOrderField, AreOrderKeys, IsTextToken, IsIdent, IsFunc, IsUsingFunc, IsUsingText, IsParallel, count_of, AreNames, IsNaming, IsItem, IsBagRef, IsNested, AreSteps, IsGroupInput, IsJoinInput, side_of, IsSide, IsOnSchema, rollup_of, IsDense, is_group_word, IsOp, IsBranch, IsOtherwise, IsMessage, is_unsupported_word, IsStatement}
use Rattle.pig_exprs.specs.Reader.{field_ref_at, type_at}
use Rattle.pig_exprs.specs.ExprReader.{expr_at}
use Rattle.pig_parser.specs.StatementReader.{several, key_list_at, keys_at, dir_at, order_field_at, order_keys_at, text_at, ident_at, func_at, using_func_at, using_text_at, after_parallel, count_at, names_at, naming_at, flattened_at, value_at, item_at, bag_selection_at, bag_ref_at, nested_filter_at, nested_order_at, nested_limit_at, nested_at, step_turn, steps_at, inner_at, group_input_at, join_input_at, after_outer, side_at, on_schema_at, dense_at, load_at, filter_at, block_at, foreach_at, groups_at, group_at, join_at, union_at, distinct_at, order_at, limit_at, cube_at, rank_at, op_at, branch_with, branch_at, branch_turn, branches_at, otherwise_at, split_at, store_at, message_at, assert_at, is_unsupported, assign_at, front_at, ended, statement_at}
use Rattle.pig_exprs.proofs.Options.{Holds, of_known, itself, holds_then, holds_map, holds_map_or, holds_if}
use Rattle.pig_exprs.proofs.ListSound.{Upholds, TurnsLead, GoesOn, repeat_runs, members_listed, listed_upholds, symbol_stands, word_stands}
use Rattle.pig_exprs.proofs.NamesSound.{field_ref_upholds, selection_upholds}
use Rattle.pig_exprs.proofs.TypesSound.{type_upholds, field_upholds, schema_upholds}
use Rattle.pig_exprs.proofs.ExprsSound.{expr_upholds}

-- ---- parts

-- a list of two members at least
data AreSeveral {X : Type 0} (rule : Forms → X → Forms → Type 0) : Forms → List X → Forms → Type 0 where
  two : {ts mid rest : Forms} {a b : X} {others : List X} → rule ts a (f.Symbol s.Comma ∷ mid) → Listed rule mid (b ∷ others) rest → AreSeveral rule ts (a ∷ b ∷ others) rest

first_apart : {X : Type 0} (rule : Forms → X → Forms → Type 0) (a b : X) (others : List X) (ts rest : Forms) → Listed rule ts (a ∷ b ∷ others) rest → AreSeveral rule ts (a ∷ b ∷ others) rest
first_apart rule a b others ts rest (Listed.more first behind) = AreSeveral.two first behind

-- what is kept of a list has two members at least
several_stand : {X : Type 0} (rule : Forms → X → Forms → Type 0) (xs : List X) → Holds (λ ys. (ts rest : Forms) → Listed rule ts xs rest → AreSeveral rule ts ys rest) (several xs)
unfolding several
several_stand rule (a ∷ b ∷ others) = Holds.just (λ ts rest l. first_apart rule a b others ts rest l)
several_stand rule _ = Holds.nothing

keys_of : {ts rest : Forms} {xs : List Expr} → AreSeveral IsExpr ts xs (f.Symbol s.CloseParen ∷ rest) → AreKeys (f.Symbol s.OpenParen ∷ ts) xs rest
keys_of (AreSeveral.two first behind) = AreKeys.several_keys first behind

key_list_upholds : (most : ℕ) → Upholds (key_list_at most) AreKeys
unfolding key_list_at
key_list_upholds most (f.Symbol s.OpenParen ∷ ts) =
    holds_then _ (listed_upholds (expr_at most most) IsExpr (expr_upholds most most) ts) (λ read l.
    holds_then _ (several_stand IsExpr read.0) (λ keys are_several.
    holds_then _ (symbol_stands s.CloseParen (Listed IsExpr ts read.0) read.1 l) (λ rest l. Holds.just (keys_of (are_several ts (f.Symbol s.CloseParen ∷ rest) l)))))
key_list_upholds most _ = Holds.nothing

keys_upholds : (most : ℕ) → Upholds (keys_at most) AreKeys
unfolding keys_at
keys_upholds most ts = holds_map_or _ (expr_upholds most most ts) (λ p a. Holds.just (AreKeys.one_key a)) (key_list_upholds most ts)

dir_upholds : Upholds dir_at IsDir
unfolding dir_at
dir_upholds (f.Keyword k.Asc ∷ ts) = Holds.just IsDir.asc
dir_upholds (f.Keyword k.Desc ∷ ts) = Holds.just IsDir.desc
dir_upholds ts = Holds.just IsDir.no_dir

order_field_upholds : Upholds order_field_at IsOrderField
unfolding order_field_at
order_field_upholds ts =
    holds_then _ (field_ref_upholds ts) (λ field r.
    holds_then _ (dir_upholds field.1) (λ way d. Holds.just (IsOrderField.order_field r d)))

order_keys_upholds : Upholds order_keys_at AreOrderKeys
unfolding order_keys_at
order_keys_upholds (f.Symbol s.Star ∷ ts) = holds_map _ (dir_upholds ts) (λ p d. AreOrderKeys.all_fields d)
order_keys_upholds ts = holds_map _ (listed_upholds order_field_at IsOrderField order_field_upholds ts) (λ p fields. AreOrderKeys.order_fields fields)

text_upholds : Upholds text_at IsTextToken
unfolding text_at
text_upholds (f.Text content ∷ ts) = Holds.just IsTextToken.text
text_upholds _ = Holds.nothing

ident_upholds : Upholds ident_at IsIdent
unfolding ident_at
ident_upholds (f.Ident name ∷ ts) = Holds.just IsIdent.ident
ident_upholds _ = Holds.nothing

func_upholds : Upholds func_at IsFunc
unfolding func_at
func_upholds (f.Ident name ∷ f.Symbol s.OpenParen ∷ f.Symbol s.CloseParen ∷ ts) = Holds.just IsFunc.func_bare
func_upholds (f.Ident name ∷ f.Symbol s.OpenParen ∷ ts) =
    holds_then _ (listed_upholds text_at IsTextToken text_upholds ts) (λ args l.
    holds_then _ (symbol_stands s.CloseParen (Listed IsTextToken ts args.0) args.1 l) (λ rest l. Holds.just (IsFunc.func_args l)))
func_upholds _ = Holds.nothing

using_func_upholds : Upholds using_func_at IsUsingFunc
unfolding using_func_at
using_func_upholds (f.Keyword k.Using ∷ ts) = holds_map _ (func_upholds ts) (λ p func. IsUsingFunc.using_func func)
using_func_upholds ts = Holds.just IsUsingFunc.no_func

using_text_upholds : Upholds using_text_at IsUsingText
unfolding using_text_at
using_text_upholds (f.Keyword k.Using ∷ f.Text content ∷ ts) = Holds.just IsUsingText.using_text
using_text_upholds ts = Holds.just IsUsingText.no_text

parallel_stands : (ts : Forms) → IsParallel ts (after_parallel ts)
unfolding after_parallel
parallel_stands (f.Keyword k.Parallel ∷ f.Int n ∷ ts) = IsParallel.par
parallel_stands ts = IsParallel.no_par

-- Int | Long
data IsCount : Forms → ℕ → Forms → Type 0 where
  count : {t : TokenForm} {ts : Forms} {n : ℕ} → count_of t ≡ Some n → IsCount (t ∷ ts) n ts

count_upholds : Upholds count_at IsCount
unfolding count_at
count_upholds [] = Holds.nothing
count_upholds (t ∷ ts) = holds_map _ (itself (count_of t)) (λ n e. IsCount.count e)

-- ---- the items of GENERATE

field_names : {ts rest : Forms} {field : FieldTree} → IsSchemaField ts field rest → AreNames ts (named.One field) rest
field_names IsSchemaField.field_bare = AreNames.one_name
field_names (IsSchemaField.field_typed type) = AreNames.typed_name type

names_upholds : (most : ℕ) → Upholds (names_at most) AreNames
unfolding names_at
names_upholds most (f.Ident name ∷ ts) = holds_map _ (field_upholds (type_at most) (type_upholds most) (f.Ident name ∷ ts)) (λ p field. field_names field)
names_upholds most ts = holds_map _ (schema_upholds (type_at most) (type_upholds most) ts) (λ p fields. AreNames.several_names fields)

naming_upholds : (most : ℕ) → Upholds (naming_at most) IsNaming
unfolding naming_at
naming_upholds most (f.Keyword k.As ∷ ts) = holds_map _ (names_upholds most ts) (λ p names. IsNaming.naming names)
naming_upholds most ts = Holds.just IsNaming.no_naming

flattened_stands : (most : ℕ) (ts : Forms) → Holds (λ p. IsItem (f.Keyword k.Flatten ∷ f.Symbol s.OpenParen ∷ ts) p.0 p.1) (flattened_at most ts)
unfolding flattened_at
flattened_stands most ts =
    holds_then _ (expr_upholds most most ts) (λ a is_expr.
    holds_then _ (symbol_stands s.CloseParen (IsExpr ts a.0) a.1 is_expr) (λ behind is_expr.
    holds_then _ (naming_upholds most behind) (λ names is_naming. Holds.just (IsItem.flattened is_expr is_naming))))

value_upholds : (most : ℕ) → Upholds (value_at most) IsItem
unfolding value_at
value_upholds most ts =
    holds_then _ (expr_upholds most most ts) (λ a is_expr.
    holds_then _ (naming_upholds most a.1) (λ names is_naming. Holds.just (IsItem.value is_expr is_naming)))

item_upholds : (most : ℕ) → Upholds (item_at most) IsItem
unfolding item_at
item_upholds most (f.Symbol s.Star ∷ ts) = Holds.just IsItem.all_items
item_upholds most (f.Keyword k.Flatten ∷ f.Symbol s.OpenParen ∷ ts) = flattened_stands most ts
item_upholds most ts = value_upholds most ts

-- ---- nested blocks

bag_selection_stands : {start : Forms} {r : FieldRef} (ts : Forms) → IsFieldRef start r ts → Holds (λ p. IsBagRef start (record { field = r; sel = p.0 }) p.1) (bag_selection_at ts)
unfolding bag_selection_at
bag_selection_stands (f.Symbol s.Dot ∷ ts) field = holds_map _ (selection_upholds ts) (λ p selection. IsBagRef.bag_selection field selection)
bag_selection_stands ts field = Holds.just (IsBagRef.bag_field field)

bag_ref_upholds : Upholds bag_ref_at IsBagRef
unfolding bag_ref_at
bag_ref_upholds ts =
    holds_then _ (field_ref_upholds ts) (λ field r.
    holds_then _ (bag_selection_stands field.1 r) (λ sel bag. Holds.just bag))

nested_filter_stands : (most : ℕ) (ts : Forms) → Holds (λ p. IsNested (f.Keyword k.Filter ∷ ts) p.0 p.1) (nested_filter_at most ts)
unfolding nested_filter_at
nested_filter_stands most ts =
    holds_then _ (bag_ref_upholds ts) (λ bag b.
    holds_then _ (word_stands k.By (IsBagRef ts bag.0) bag.1 b) (λ behind b.
    holds_then _ (expr_upholds most most behind) (λ cond a. Holds.just (IsNested.nested_filter b a))))

nested_order_stands : (ts : Forms) → Holds (λ p. IsNested (f.Keyword k.Order ∷ ts) p.0 p.1) (nested_order_at ts)
unfolding nested_order_at
nested_order_stands ts =
    holds_then _ (bag_ref_upholds ts) (λ bag b.
    holds_then _ (word_stands k.By (IsBagRef ts bag.0) bag.1 b) (λ behind b.
    holds_then _ (order_keys_upholds behind) (λ by_ o. Holds.just (IsNested.nested_order b o))))

nested_limit_of : {ts mid rest : Forms} {b : BagRef} {n : ℕ} → IsBagRef ts b mid → IsCount mid n rest → IsNested (f.Keyword k.Limit ∷ ts) (nested.Limit b n) rest
nested_limit_of bag (IsCount.count e) = IsNested.nested_limit bag e

nested_limit_stands : (ts : Forms) → Holds (λ p. IsNested (f.Keyword k.Limit ∷ ts) p.0 p.1) (nested_limit_at ts)
unfolding nested_limit_at
nested_limit_stands ts =
    holds_then _ (bag_ref_upholds ts) (λ bag b.
    holds_then _ (count_upholds bag.1) (λ count n. Holds.just (nested_limit_of b n)))

nested_upholds : (most : ℕ) → Upholds (nested_at most) IsNested
unfolding nested_at
nested_upholds most (f.Keyword k.Filter ∷ ts) = nested_filter_stands most ts
nested_upholds most (f.Keyword k.Distinct ∷ ts) = holds_map _ (bag_ref_upholds ts) (λ p b. IsNested.nested_distinct b)
nested_upholds most (f.Keyword k.Order ∷ ts) = nested_order_stands ts
nested_upholds most (f.Keyword k.Limit ∷ ts) = nested_limit_stands ts
nested_upholds most ts = holds_map _ (bag_ref_upholds ts) (λ p b. IsNested.nested_take b)

step_leads : (most : ℕ) → TurnsLead (step_turn most) AreSteps
unfolding step_turn
step_leads most (f.Ident name ∷ f.Symbol s.Assign ∷ ts) =
    holds_then _ (nested_upholds most ts) (λ made n.
    holds_then _ (symbol_stands s.Semicolon (IsNested ts made.0) made.1 n) (λ behind n. Holds.just (Holds.just (λ others rest more. AreSteps.step n more))))
step_leads most ts = Holds.just Holds.nothing

steps_upholds : (most : ℕ) → Upholds (steps_at most) AreSteps
unfolding steps_at
steps_upholds most ts = repeat_runs (step_turn most) AreSteps (λ mid. AreSteps.no_step) (step_leads most) (length ts) ts

-- ---- the inputs of GROUP and JOIN

inner_stands : {ts : Forms} {name : List ℕ} {by_ : List Expr} (behind : Forms) → AreKeys ts by_ behind
    → Holds (λ p. IsGroupInput (f.Ident name ∷ f.Keyword k.By ∷ ts) (record { «from» = name; keys = by_; inner = p.0 }) p.1) (inner_at behind)
unfolding inner_at
inner_stands (f.Keyword k.Inner ∷ behind) are_keys = Holds.just (IsGroupInput.input_inner are_keys)
inner_stands (f.Keyword k.Outer ∷ behind) are_keys = Holds.just (IsGroupInput.input_outer are_keys)
inner_stands behind are_keys = Holds.just (IsGroupInput.input_bare are_keys)

group_input_upholds : (most : ℕ) → Upholds (group_input_at most) IsGroupInput
unfolding group_input_at
group_input_upholds most (f.Ident name ∷ f.Keyword k.By ∷ ts) =
    holds_then _ (keys_upholds most ts) (λ by_ are_keys.
    holds_then _ (inner_stands by_.1 are_keys) (λ inner input. Holds.just input))
group_input_upholds most _ = Holds.nothing

join_input_upholds : (most : ℕ) → Upholds (join_input_at most) IsJoinInput
unfolding join_input_at
join_input_upholds most (f.Ident name ∷ f.Keyword k.By ∷ ts) = holds_map _ (keys_upholds most ts) (λ p are_keys. IsJoinInput.join_input are_keys)
join_input_upholds most _ = Holds.nothing

outer_stands : {t : TokenForm} {x : Side} (ts : Forms) → side_of t ≡ Some x → IsSide (t ∷ ts) x (after_outer ts)
unfolding after_outer
outer_stands (f.Keyword k.Outer ∷ ts) is_side = IsSide.side_outer is_side
outer_stands ts is_side = IsSide.side_bare is_side

side_upholds : Upholds side_at IsSide
unfolding side_at
side_upholds [] = Holds.just IsSide.no_side
side_upholds (t ∷ ts) = holds_map_or _ (itself (side_of t)) (λ x is_side. Holds.just (outer_stands ts is_side)) (Holds.just IsSide.no_side)

on_schema_upholds : Upholds on_schema_at IsOnSchema
unfolding on_schema_at
on_schema_upholds (f.Keyword k.OnSchema ∷ ts) = Holds.just IsOnSchema.by_name
on_schema_upholds ts = Holds.just IsOnSchema.by_place

-- ---- operators

load_stands : (most : ℕ) (ts : Forms) → Holds (λ p. IsOp (f.Keyword k.Load ∷ ts) p.0 p.1) (load_at most ts)
unfolding load_at
load_stands most (f.Text path ∷ ts) =
    holds_then _ (using_func_upholds ts) (λ func u.
    holds_then _ (word_stands k.As (IsUsingFunc ts func.0) func.1 u) (λ behind u.
    holds_then _ (schema_upholds (type_at most) (type_upholds most) behind) (λ fields schema. Holds.just (IsOp.load u schema))))
load_stands most _ = Holds.nothing

filter_stands : (most : ℕ) (ts : Forms) → Holds (λ p. IsOp (f.Keyword k.Filter ∷ ts) p.0 p.1) (filter_at most ts)
unfolding filter_at
filter_stands most (f.Ident name ∷ f.Keyword k.By ∷ ts) = holds_map _ (expr_upholds most most ts) (λ p a. IsOp.filter a)
filter_stands most _ = Holds.nothing

block_stands : (most : ℕ) (name : List ℕ) (ts : Forms) → Holds (λ p. IsOp (f.Keyword k.Foreach ∷ f.Ident name ∷ f.Symbol s.OpenBrace ∷ ts) p.0 p.1) (block_at most name ts)
unfolding block_at
block_stands most name ts =
    holds_then _ (steps_upholds most ts) (λ steps are_steps.
    holds_then _ (word_stands k.Generate (AreSteps ts steps.0) steps.1 are_steps) (λ behind are_steps.
    holds_then _ (listed_upholds (item_at most) IsItem (item_upholds most) behind) (λ items l.
    holds_then _ (symbol_stands s.Semicolon (Listed IsItem behind items.0) items.1 l) (λ ended l.
    holds_then _ (symbol_stands s.CloseBrace (λ rest. Listed IsItem behind items.0 (f.Symbol s.Semicolon ∷ rest)) ended l) (λ rest l. Holds.just (IsOp.foreach_block are_steps l))))))

foreach_stands : (most : ℕ) (ts : Forms) → Holds (λ p. IsOp (f.Keyword k.Foreach ∷ ts) p.0 p.1) (foreach_at most ts)
unfolding foreach_at
foreach_stands most (f.Ident name ∷ f.Keyword k.Generate ∷ ts) = holds_map _ (listed_upholds (item_at most) IsItem (item_upholds most) ts) (λ p l. IsOp.foreach l)
foreach_stands most (f.Ident name ∷ f.Symbol s.OpenBrace ∷ ts) = block_stands most name ts
foreach_stands most _ = Holds.nothing

groups_stand : (most : ℕ) (word : Keyword) → is_group_word word ≡ true → (ts : Forms) → Holds (λ p. IsOp (f.Keyword word ∷ ts) p.0 p.1) (groups_at most ts)
unfolding groups_at
groups_stand most word is_word ts =
    holds_then _ (listed_upholds (group_input_at most) IsGroupInput (group_input_upholds most) ts) (λ inputs l.
    holds_then _ (using_text_upholds inputs.1) (λ how u. Holds.just (IsOp.group is_word l u (parallel_stands how.1))))

group_stands : (most : ℕ) (word : Keyword) → is_group_word word ≡ true → (ts : Forms) → Holds (λ p. IsOp (f.Keyword word ∷ ts) p.0 p.1) (group_at most ts)
unfolding group_at
group_stands most word is_word (f.Ident name ∷ f.Keyword k.All ∷ ts) = holds_map _ (using_text_upholds ts) (λ how u. IsOp.group_all is_word u (parallel_stands how.1))
group_stands most word is_word ts = groups_stand most word is_word ts

join_stands : (most : ℕ) (ts : Forms) → Holds (λ p. IsOp (f.Keyword k.Join ∷ ts) p.0 p.1) (join_at most ts)
unfolding join_at
join_stands most ts =
    holds_then _ (join_input_upholds most ts) (λ first input.
    holds_then _ (side_upholds first.1) (λ which is_side.
    holds_then _ (symbol_stands s.Comma (IsSide first.1 which.0) which.1 is_side) (λ behind is_side.
    holds_then _ (listed_upholds (join_input_at most) IsJoinInput (join_input_upholds most) behind) (λ others l.
    holds_then _ (using_text_upholds others.1) (λ how u. Holds.just (IsOp.join input is_side l u (parallel_stands how.1)))))))

union_of : {ts mid rest : Forms} {onschema : Bool} {names : List (List ℕ)} → IsOnSchema ts onschema mid → AreSeveral IsIdent mid names rest → IsOp (f.Keyword k.Union ∷ ts) (op.Union onschema names) rest
union_of way (AreSeveral.two IsIdent.ident others) = IsOp.union way others

union_stands : (ts : Forms) → Holds (λ p. IsOp (f.Keyword k.Union ∷ ts) p.0 p.1) (union_at ts)
unfolding union_at
union_stands ts =
    holds_then _ (on_schema_upholds ts) (λ way is_way.
    holds_then _ (listed_upholds ident_at IsIdent ident_upholds way.1) (λ read l.
    holds_then _ (several_stand IsIdent read.0) (λ names are_several. Holds.just (union_of is_way (are_several way.1 read.1 l)))))

distinct_stands : (ts : Forms) → Holds (λ p. IsOp (f.Keyword k.Distinct ∷ ts) p.0 p.1) (distinct_at ts)
unfolding distinct_at
distinct_stands (f.Ident name ∷ ts) = Holds.just (IsOp.distinct (parallel_stands ts))
distinct_stands _ = Holds.nothing

order_stands : (ts : Forms) → Holds (λ p. IsOp (f.Keyword k.Order ∷ ts) p.0 p.1) (order_at ts)
unfolding order_at
order_stands (f.Ident name ∷ f.Keyword k.By ∷ ts) = holds_map _ (order_keys_upholds ts) (λ p o. IsOp.order o (parallel_stands p.1))
order_stands _ = Holds.nothing

limit_of : {ts rest : Forms} {name : List ℕ} {n : ℕ} → IsCount ts n rest → IsOp (f.Keyword k.Limit ∷ f.Ident name ∷ ts) (op.Limit name n) rest
limit_of (IsCount.count e) = IsOp.limit e

limit_stands : (ts : Forms) → Holds (λ p. IsOp (f.Keyword k.Limit ∷ ts) p.0 p.1) (limit_at ts)
unfolding limit_at
limit_stands (f.Ident name ∷ ts) = holds_map _ (count_upholds ts) (λ p n. limit_of n)
limit_stands _ = Holds.nothing

cube_stands : (ts : Forms) → Holds (λ p. IsOp (f.Keyword k.Cube ∷ ts) p.0 p.1) (cube_at ts)
unfolding cube_at
cube_stands (f.Ident name ∷ f.Keyword k.By ∷ f.Keyword word ∷ f.Symbol s.OpenParen ∷ ts) =
    holds_then _ (itself (rollup_of word)) (λ rollup is_word.
    holds_then _ (listed_upholds field_ref_at IsFieldRef field_ref_upholds ts) (λ dims l.
    holds_then _ (symbol_stands s.CloseParen (Listed IsFieldRef ts dims.0) dims.1 l) (λ rest l. Holds.just (IsOp.cube is_word l (parallel_stands rest)))))
cube_stands _ = Holds.nothing

dense_upholds : Upholds dense_at IsDense
unfolding dense_at
dense_upholds (f.Keyword k.Dense ∷ ts) = Holds.just IsDense.is_dense
dense_upholds ts = Holds.just IsDense.not_dense

rank_stands : (ts : Forms) → Holds (λ p. IsOp (f.Keyword k.Rank ∷ ts) p.0 p.1) (rank_at ts)
unfolding rank_at
rank_stands (f.Ident name ∷ f.Keyword k.By ∷ ts) =
    holds_then _ (order_keys_upholds ts) (λ by_ o.
    holds_then _ (dense_upholds by_.1) (λ dense h. Holds.just (IsOp.rank o h)))
rank_stands _ = Holds.nothing

op_upholds : (most : ℕ) → Upholds (op_at most) IsOp
unfolding op_at
op_upholds most (f.Keyword k.Load ∷ ts) = load_stands most ts
op_upholds most (f.Keyword k.Filter ∷ ts) = filter_stands most ts
op_upholds most (f.Keyword k.Foreach ∷ ts) = foreach_stands most ts
op_upholds most (f.Keyword k.Group ∷ ts) = group_stands most k.Group refl ts
op_upholds most (f.Keyword k.Cogroup ∷ ts) = group_stands most k.Cogroup refl ts
op_upholds most (f.Keyword k.Join ∷ ts) = join_stands most ts
op_upholds most (f.Keyword k.Union ∷ ts) = union_stands ts
op_upholds most (f.Keyword k.Distinct ∷ ts) = distinct_stands ts
op_upholds most (f.Keyword k.Order ∷ ts) = order_stands ts
op_upholds most (f.Keyword k.Limit ∷ ts) = limit_stands ts
op_upholds most (f.Keyword k.Cube ∷ ts) = cube_stands ts
op_upholds most (f.Keyword k.Rank ∷ ts) = rank_stands ts
op_upholds most _ = Holds.nothing

-- ---- statements

branch_stands : (most : ℕ) (name : List ℕ) (ts : Forms) → Holds (λ p. IsBranch (f.Ident name ∷ f.Keyword k.If ∷ ts) p.0 p.1) (branch_with most name ts)
unfolding branch_with
branch_stands most name ts = holds_map _ (expr_upholds most most ts) (λ p a. IsBranch.branch a)

branch_upholds : (most : ℕ) → Upholds (branch_at most) IsBranch
unfolding branch_at
branch_upholds most (f.Ident name ∷ f.Keyword k.If ∷ ts) = branch_stands most name ts
branch_upholds most _ = Holds.nothing

branch_leads : (most : ℕ) → TurnsLead (branch_turn most) (GoesOn IsBranch)
unfolding branch_turn
branch_leads most (f.Symbol s.Comma ∷ f.Ident name ∷ f.Keyword k.If ∷ ts) =
    holds_map Some (branch_stands most name ts) (λ p b. Holds.just (λ others rest after before a first. Listed.more first (after (f.Ident name ∷ f.Keyword k.If ∷ ts) p.0 b)))
branch_leads most ts = Holds.just Holds.nothing

branches_upholds : (most : ℕ) → Upholds (branches_at most) (Listed IsBranch)
unfolding branches_at
branches_upholds most ts =
    holds_then _ (branch_upholds most ts) (λ first b. members_listed (branch_turn most) IsBranch (branch_leads most) (length first.1) ts first b)

otherwise_upholds : Upholds otherwise_at IsOtherwise
unfolding otherwise_at
otherwise_upholds (f.Symbol s.Comma ∷ f.Ident name ∷ f.Keyword k.Otherwise ∷ ts) = Holds.just IsOtherwise.otherwise
otherwise_upholds ts = Holds.just IsOtherwise.no_otherwise

-- a statement, where nothing is left behind it
abbrev IsFront : Forms → Stmt → Forms → Type 0
IsFront ts tree rest = rest ≡ [] → IsStatement ts tree

-- what stands where a word of a statement that is left out does
where_unsupported : (P : Forms → Type 0) → ((word : Keyword) (ts : Forms) → is_unsupported_word word ≡ true → P (f.Keyword word ∷ ts)) → (ts : Forms) → is_unsupported ts ≡ true → P ts
unfolding is_unsupported
where_unsupported P each (f.Keyword word ∷ ts) e = each word ts e
where_unsupported P each _ e = absurd (cc)

split_stands : (most : ℕ) (ts : Forms) → Holds (λ p. IsFront (f.Keyword k.Split ∷ ts) p.0 p.1) (split_at most ts)
unfolding split_at
split_stands most (f.Ident name ∷ f.Keyword k.Into ∷ ts) =
    holds_then _ (branches_upholds most ts) (λ branches l.
    holds_then _ (otherwise_upholds branches.1) (λ otherwise o. Holds.just (λ end. IsStatement.split l (subst (λ rest. IsOtherwise branches.1 otherwise.0 rest) end o))))
split_stands most _ = Holds.nothing

store_stands : (ts : Forms) → Holds (λ p. IsFront (f.Keyword k.Store ∷ ts) p.0 p.1) (store_at ts)
unfolding store_at
store_stands (f.Ident name ∷ f.Keyword k.Into ∷ f.Text path ∷ ts) =
    holds_map _ (using_func_upholds ts) (λ p u end. IsStatement.store (subst (λ rest. IsUsingFunc ts p.0 rest) end u))
store_stands _ = Holds.nothing

message_upholds : Upholds message_at IsMessage
unfolding message_at
message_upholds (f.Symbol s.Comma ∷ f.Text content ∷ ts) = Holds.just IsMessage.with_message
message_upholds ts = Holds.just IsMessage.no_message

assert_stands : (most : ℕ) (ts : Forms) → Holds (λ p. IsFront (f.Keyword k.Assert ∷ ts) p.0 p.1) (assert_at most ts)
unfolding assert_at
assert_stands most (f.Ident name ∷ f.Keyword k.By ∷ ts) =
    holds_then _ (expr_upholds most most ts) (λ met a.
    holds_then _ (message_upholds met.1) (λ message m. Holds.just (λ end. IsStatement.assertion a (subst (λ rest. IsMessage met.1 message.0 rest) end m))))
assert_stands most _ = Holds.nothing

assign_stands : (most : ℕ) (name : List ℕ) (ts : Forms) → Holds (λ p. IsFront (f.Ident name ∷ f.Symbol s.Assign ∷ ts) p.0 p.1) (assign_at most name ts)
unfolding assign_at
assign_stands most name ts =
    holds_if (is_unsupported ts)
    (λ e. Holds.just (λ end. where_unsupported (λ us. IsStatement (f.Ident name ∷ f.Symbol s.Assign ∷ us) stmt.Unsupported) (λ word us is_word. IsStatement.unsupported_named is_word) ts e))
    (λ e. holds_map _ (op_upholds most ts) (λ p o end. IsStatement.assign (subst (λ rest. IsOp ts p.0 rest) end o)))

unsupported_stands : (ts : Forms) → Holds (λ (p : Stmt × Forms). IsFront ts p.0 p.1) (if is_unsupported ts then Some (stmt.Unsupported, []) else None)
unsupported_stands ts =
    holds_if (is_unsupported ts)
    (λ e. Holds.just (λ end. where_unsupported (λ us. IsStatement us stmt.Unsupported) (λ word us is_word. IsStatement.unsupported is_word) ts e))
    (λ e. Holds.nothing)

front_upholds : (most : ℕ) → Upholds (front_at most) IsFront
unfolding front_at
front_upholds most (f.Ident name ∷ f.Symbol s.Assign ∷ ts) = assign_stands most name ts
front_upholds most (f.Keyword k.Split ∷ ts) = split_stands most ts
front_upholds most (f.Keyword k.Store ∷ ts) = store_stands ts
front_upholds most (f.Keyword k.Assert ∷ ts) = assert_stands most ts
front_upholds most ts = unsupported_stands ts

ended_stands : {ts : Forms} (tree : Stmt) (rest : Forms) → IsFront ts tree rest → Holds (IsStatement ts) (ended tree rest)
unfolding ended
ended_stands tree [] front = Holds.just (front refl)
ended_stands tree (t ∷ rest) front = Holds.nothing

pub statement_upholds : (most : ℕ) (ts : Forms) → Holds (IsStatement ts) (statement_at most ts)
unfolding statement_at
statement_upholds most [] = Holds.just IsStatement.empty
statement_upholds most (t ∷ ts) = holds_then _ (front_upholds most (t ∷ ts)) (λ p front. ended_stands p.0 p.1 front)

pub statement_sound : (most : ℕ) (ts : Forms) (tree : Stmt) → statement_at most ts ≡ Some tree → IsStatement ts tree
statement_sound most ts tree e = of_known (statement_upholds most ts) e
