-- What readers of statements find at the front of some tokens, and what they leave, with types and expressions whose brackets nest less
-- deep than `most`.
use Rattle.std.specs.Prelude.{◌≡◌, ℕ, Bool, true, false, List, [], ◌∷◌, length, if◌then◌else◌, Option, Some, None, Result, Ok, Err}
use Rattle.std.specs.Option.{option_map, option_and_then, option_map_or}
use Rattle.pig_value.specs.declared.operators.Dir.{Dir}
use Rattle.pig_value.specs.declared.operators.Dir.TheVariants as dir
use Rattle.pig_value.specs.declared.operators.Side.{Side}
use Rattle.pig_value.specs.declared.operators.Side.TheVariants as side
use Rattle.pig_syntax.specs.declared.tokens.Keyword.TheVariants as k
use Rattle.pig_syntax.specs.declared.tokens.Symbol.TheVariants as s
use Rattle.pig_syntax.specs.declared.tokens.TokenForm.TheVariants as f
use Rattle.pig_syntax.specs.declared.trees.AsNames.{AsNames}
use Rattle.pig_syntax.specs.declared.trees.AsNames.TheVariants as named
use Rattle.pig_syntax.specs.declared.trees.BagRef.{BagRef}
use Rattle.pig_syntax.specs.declared.trees.Branch.{Branch}
use Rattle.pig_syntax.specs.declared.trees.Expr.{Expr}
use Rattle.pig_syntax.specs.declared.trees.Func.{Func}
use Rattle.pig_syntax.specs.declared.trees.GroupInput.{GroupInput}
use Rattle.pig_syntax.specs.declared.trees.Item.{Item}
use Rattle.pig_syntax.specs.declared.trees.Item.TheVariants as item
use Rattle.pig_syntax.specs.declared.trees.JoinInput.{JoinInput}
use Rattle.pig_syntax.specs.declared.trees.Nested.{Nested}
use Rattle.pig_syntax.specs.declared.trees.Nested.TheVariants as nested
use Rattle.pig_syntax.specs.declared.trees.Op.{Op}
use Rattle.pig_syntax.specs.declared.trees.Op.TheVariants as op
use Rattle.pig_syntax.specs.declared.trees.OrderField.{OrderField}
use Rattle.pig_syntax.specs.declared.trees.OrderKeys.{OrderKeys}
use Rattle.pig_syntax.specs.declared.trees.OrderKeys.TheVariants as keys
use Rattle.pig_syntax.specs.declared.trees.PostStep.{PostStep}
use Rattle.pig_syntax.specs.declared.trees.Step.{Step}
use Rattle.pig_syntax.specs.declared.trees.Stmt.{Stmt}
use Rattle.pig_syntax.specs.declared.trees.Stmt.TheVariants as stmt
use Rattle.pig_exprs.specs.declared.reading.ParseFault.{ParseFault}
use Rattle.pig_exprs.specs.declared.reading.ParseFault.TheVariants as fault
use Rattle.pig_exprs.specs.Grammar.{Forms}
use Rattle.pig_parser.specs.Statements.{count_of, side_of, rollup_of, is_unsupported_word}
use Rattle.pig_exprs.specs.Reader.{FoundPart, Turn, repeat, listed, after_symbol, after_word, close_paren, field_ref_at, selection_at, field_at, schema_at, type_at}
use Rattle.pig_exprs.specs.ExprReader.{expr_at}
use Rattle.pig_value.specs.Results.{◌>>=◌}

-- the code gives what is found
abbrev pub GivesFound : {A : Type 0} → Option A → Result A ParseFault → Type 0
GivesFound found (Ok a) = found ≡ Some a
GivesFound found (Err fault.Off) = found ≡ None
GivesFound found (Err fault.OutOfMemory) = Unit {0}

-- ---- parts

-- two at least
unfoldable pub several : {A : Type 0} → List A → Option (List A)
several (a ∷ b ∷ others) = Some (a ∷ b ∷ others)
several _ = None

-- keys in parentheses
unfoldable pub key_list_at : ℕ → Forms → FoundPart (List Expr)
key_list_at most (f.Symbol s.OpenParen ∷ ts) = do
  read ← listed (expr_at most most) ts
  keys ← several read.0
  rest ← close_paren read.1
  Some (keys, rest)
key_list_at most _ = None

-- one key where an expression stands there, and otherwise keys in parentheses
unfoldable pub keys_at : ℕ → Forms → FoundPart (List Expr)
keys_at most ts = option_map_or (λ p. Some (p.0 ∷ [], p.1)) (expr_at most most ts) (key_list_at most ts)

unfoldable pub dir_at : Forms → FoundPart Dir
dir_at (f.Keyword k.Asc ∷ ts) = Some (dir.Asc, ts)
dir_at (f.Keyword k.Desc ∷ ts) = Some (dir.Desc, ts)
dir_at ts = Some (dir.Asc, ts)

unfoldable pub order_field_at : Forms → FoundPart OrderField
order_field_at ts = do
  field ← field_ref_at ts
  way ← dir_at field.1
  Some (record { field = field.0; dir = way.0 }, way.1)

unfoldable pub order_keys_at : Forms → FoundPart OrderKeys
order_keys_at (f.Symbol s.Star ∷ ts) = option_map (λ p. (keys.All p.0, p.1)) (dir_at ts)
order_keys_at ts = option_map (λ p. (keys.Fields p.0, p.1)) (listed order_field_at ts)

unfoldable pub text_at : Forms → FoundPart (List ℕ)
text_at (f.Text content ∷ ts) = Some (content, ts)
text_at _ = None

unfoldable pub ident_at : Forms → FoundPart (List ℕ)
ident_at (f.Ident name ∷ ts) = Some (name, ts)
ident_at _ = None

unfoldable pub func_at : Forms → FoundPart Func
func_at (f.Ident name ∷ f.Symbol s.OpenParen ∷ f.Symbol s.CloseParen ∷ ts) = Some (record { name = name; args = [] }, ts)
func_at (f.Ident name ∷ f.Symbol s.OpenParen ∷ ts) = do
  args ← listed text_at ts
  rest ← close_paren args.1
  Some (record { name = name; args = args.0 }, rest)
func_at _ = None

unfoldable pub using_func_at : Forms → FoundPart (Option Func)
using_func_at (f.Keyword k.Using ∷ ts) = option_map (λ p. (Some p.0, p.1)) (func_at ts)
using_func_at ts = Some (None, ts)

unfoldable pub using_text_at : Forms → FoundPart (Option (List ℕ))
using_text_at (f.Keyword k.Using ∷ f.Text content ∷ ts) = Some (Some content, ts)
using_text_at ts = Some (None, ts)

-- the tokens behind PARALLEL and its number, where they stand
unfoldable pub after_parallel : Forms → Forms
after_parallel (f.Keyword k.Parallel ∷ f.Int n ∷ ts) = ts
after_parallel ts = ts

unfoldable pub count_at : Forms → FoundPart ℕ
count_at [] = None
count_at (t ∷ ts) = option_map (λ n. (n, ts)) (count_of t)

-- ---- the items of GENERATE

unfoldable pub names_at : ℕ → Forms → FoundPart AsNames
names_at most (f.Ident name ∷ ts) = option_map (λ p. (named.One p.0, p.1)) (field_at (type_at most) (f.Ident name ∷ ts))
names_at most ts = option_map (λ p. (named.Several p.0, p.1)) (schema_at (type_at most) ts)

unfoldable pub naming_at : ℕ → Forms → FoundPart (Option AsNames)
naming_at most (f.Keyword k.As ∷ ts) = option_map (λ p. (Some p.0, p.1)) (names_at most ts)
naming_at most ts = Some (None, ts)

-- an item behind FLATTEN and `(`
unfoldable pub flattened_at : ℕ → Forms → FoundPart Item
flattened_at most ts = do
  a ← expr_at most most ts
  behind ← close_paren a.1
  names ← naming_at most behind
  Some (item.Value a.0 true names.0, names.1)

unfoldable pub value_at : ℕ → Forms → FoundPart Item
value_at most ts = do
  a ← expr_at most most ts
  names ← naming_at most a.1
  Some (item.Value a.0 false names.0, names.1)

unfoldable pub item_at : ℕ → Forms → FoundPart Item
item_at most (f.Symbol s.Star ∷ ts) = Some (item.All, ts)
item_at most (f.Keyword k.Flatten ∷ f.Symbol s.OpenParen ∷ ts) = flattened_at most ts
item_at most ts = value_at most ts

-- ---- nested blocks

-- [ '.' sel ]
unfoldable pub bag_selection_at : Forms → FoundPart (Option PostStep)
bag_selection_at (f.Symbol s.Dot ∷ ts) = option_map (λ p. (Some p.0, p.1)) (selection_at ts)
bag_selection_at ts = Some (None, ts)

unfoldable pub bag_ref_at : Forms → FoundPart BagRef
bag_ref_at ts = do
  field ← field_ref_at ts
  sel ← bag_selection_at field.1
  Some (record { field = field.0; sel = sel.0 }, sel.1)

-- what stands behind FILTER, ORDER and LIMIT in a block
unfoldable pub nested_filter_at : ℕ → Forms → FoundPart Nested
nested_filter_at most ts = do
  bag ← bag_ref_at ts
  behind ← after_word k.By bag.1
  cond ← expr_at most most behind
  Some (nested.Filter bag.0 cond.0, cond.1)

unfoldable pub nested_order_at : Forms → FoundPart Nested
nested_order_at ts = do
  bag ← bag_ref_at ts
  behind ← after_word k.By bag.1
  by_ ← order_keys_at behind
  Some (nested.Order bag.0 by_.0, by_.1)

unfoldable pub nested_limit_at : Forms → FoundPart Nested
nested_limit_at ts = do
  bag ← bag_ref_at ts
  count ← count_at bag.1
  Some (nested.Limit bag.0 count.0, count.1)

unfoldable pub nested_at : ℕ → Forms → FoundPart Nested
nested_at most (f.Keyword k.Filter ∷ ts) = nested_filter_at most ts
nested_at most (f.Keyword k.Distinct ∷ ts) = option_map (λ p. (nested.Distinct p.0, p.1)) (bag_ref_at ts)
nested_at most (f.Keyword k.Order ∷ ts) = nested_order_at ts
nested_at most (f.Keyword k.Limit ∷ ts) = nested_limit_at ts
nested_at most ts = option_map (λ p. (nested.Take p.0, p.1)) (bag_ref_at ts)

-- one more step of a block
unfoldable pub step_turn : ℕ → Forms → Turn Step
step_turn most (f.Ident name ∷ f.Symbol s.Assign ∷ ts) = do
  made ← nested_at most ts
  behind ← after_symbol s.Semicolon made.1
  Some (Some (record { alias = name; nested = made.0 }, behind))
step_turn most ts = Some None

unfoldable pub steps_at : ℕ → Forms → FoundPart (List Step)
steps_at most ts = repeat (step_turn most) (length ts) [] ts

-- ---- the inputs of GROUP and JOIN

-- [ INNER | OUTER ], and whether INNER stands there
unfoldable pub inner_at : Forms → FoundPart Bool
inner_at (f.Keyword k.Inner ∷ ts) = Some (true, ts)
inner_at (f.Keyword k.Outer ∷ ts) = Some (false, ts)
inner_at ts = Some (false, ts)

unfoldable pub group_input_at : ℕ → Forms → FoundPart GroupInput
group_input_at most (f.Ident name ∷ f.Keyword k.By ∷ ts) = do
  by_ ← keys_at most ts
  inner ← inner_at by_.1
  Some (record { «from» = name; keys = by_.0; inner = inner.0 }, inner.1)
group_input_at most _ = None

unfoldable pub join_input_at : ℕ → Forms → FoundPart JoinInput
join_input_at most (f.Ident name ∷ f.Keyword k.By ∷ ts) = option_map (λ p. (record { «from» = name; keys = p.0 }, p.1)) (keys_at most ts)
join_input_at most _ = None

-- the tokens behind OUTER, where it stands
unfoldable pub after_outer : Forms → Forms
after_outer (f.Keyword k.Outer ∷ ts) = ts
after_outer ts = ts

unfoldable pub side_at : Forms → FoundPart Side
side_at [] = Some (side.Inner, [])
side_at (t ∷ ts) = option_map_or (λ x. Some (x, after_outer ts)) (side_of t) (Some (side.Inner, t ∷ ts))

unfoldable pub on_schema_at : Forms → FoundPart Bool
on_schema_at (f.Keyword k.OnSchema ∷ ts) = Some (true, ts)
on_schema_at ts = Some (false, ts)

unfoldable pub dense_at : Forms → FoundPart Bool
dense_at (f.Keyword k.Dense ∷ ts) = Some (true, ts)
dense_at ts = Some (false, ts)

-- ---- operators, behind their first word

unfoldable pub load_at : ℕ → Forms → FoundPart Op
load_at most (f.Text path ∷ ts) = do
  func ← using_func_at ts
  behind ← after_word k.As func.1
  fields ← schema_at (type_at most) behind
  Some (op.Load path func.0 fields.0, fields.1)
load_at most _ = None

unfoldable pub filter_at : ℕ → Forms → FoundPart Op
filter_at most (f.Ident name ∷ f.Keyword k.By ∷ ts) = option_map (λ p. (op.Filter name p.0, p.1)) (expr_at most most ts)
filter_at most _ = None

-- a block behind its `{`
unfoldable pub block_at : ℕ → List ℕ → Forms → FoundPart Op
block_at most name ts = do
  steps ← steps_at most ts
  behind ← after_word k.Generate steps.1
  items ← listed (item_at most) behind
  ended ← after_symbol s.Semicolon items.1
  rest ← after_symbol s.CloseBrace ended
  Some (op.Foreach name steps.0 items.0, rest)

unfoldable pub foreach_at : ℕ → Forms → FoundPart Op
foreach_at most (f.Ident name ∷ f.Keyword k.Generate ∷ ts) = option_map (λ p. (op.Foreach name [] p.0, p.1)) (listed (item_at most) ts)
foreach_at most (f.Ident name ∷ f.Symbol s.OpenBrace ∷ ts) = block_at most name ts
foreach_at most _ = None

unfoldable pub groups_at : ℕ → Forms → FoundPart Op
groups_at most ts = do
  inputs ← listed (group_input_at most) ts
  how ← using_text_at inputs.1
  Some (op.Group inputs.0 how.0, after_parallel how.1)

unfoldable pub group_at : ℕ → Forms → FoundPart Op
group_at most (f.Ident name ∷ f.Keyword k.All ∷ ts) = option_map (λ how. (op.GroupAll name how.0, after_parallel how.1)) (using_text_at ts)
group_at most ts = groups_at most ts

unfoldable pub join_at : ℕ → Forms → FoundPart Op
join_at most ts = do
  first ← join_input_at most ts
  which ← side_at first.1
  behind ← after_symbol s.Comma which.1
  others ← listed (join_input_at most) behind
  how ← using_text_at others.1
  Some (op.Join (first.0 ∷ others.0) which.0 how.0, after_parallel how.1)

unfoldable pub union_at : Forms → FoundPart Op
union_at ts = do
  way ← on_schema_at ts
  read ← listed ident_at way.1
  names ← several read.0
  Some (op.Union way.0 names, read.1)

unfoldable pub distinct_at : Forms → FoundPart Op
distinct_at (f.Ident name ∷ ts) = Some (op.Distinct name, after_parallel ts)
distinct_at _ = None

unfoldable pub order_at : Forms → FoundPart Op
order_at (f.Ident name ∷ f.Keyword k.By ∷ ts) = option_map (λ p. (op.Order name p.0, after_parallel p.1)) (order_keys_at ts)
order_at _ = None

unfoldable pub limit_at : Forms → FoundPart Op
limit_at (f.Ident name ∷ ts) = option_map (λ p. (op.Limit name p.0, p.1)) (count_at ts)
limit_at _ = None

unfoldable pub cube_at : Forms → FoundPart Op
cube_at (f.Ident name ∷ f.Keyword k.By ∷ f.Keyword word ∷ f.Symbol s.OpenParen ∷ ts) = do
  rollup ← rollup_of word
  dims ← listed field_ref_at ts
  rest ← close_paren dims.1
  Some (op.Cube name rollup dims.0, after_parallel rest)
cube_at _ = None

unfoldable pub rank_at : Forms → FoundPart Op
rank_at (f.Ident name ∷ f.Keyword k.By ∷ ts) = do
  by_ ← order_keys_at ts
  dense ← dense_at by_.1
  Some (op.Rank name by_.0 dense.0, dense.1)
rank_at _ = None

unfoldable pub op_at : ℕ → Forms → FoundPart Op
op_at most (f.Keyword k.Load ∷ ts) = load_at most ts
op_at most (f.Keyword k.Filter ∷ ts) = filter_at most ts
op_at most (f.Keyword k.Foreach ∷ ts) = foreach_at most ts
op_at most (f.Keyword k.Group ∷ ts) = group_at most ts
op_at most (f.Keyword k.Cogroup ∷ ts) = group_at most ts
op_at most (f.Keyword k.Join ∷ ts) = join_at most ts
op_at most (f.Keyword k.Union ∷ ts) = union_at ts
op_at most (f.Keyword k.Distinct ∷ ts) = distinct_at ts
op_at most (f.Keyword k.Order ∷ ts) = order_at ts
op_at most (f.Keyword k.Limit ∷ ts) = limit_at ts
op_at most (f.Keyword k.Cube ∷ ts) = cube_at ts
op_at most (f.Keyword k.Rank ∷ ts) = rank_at ts
op_at most _ = None

-- ---- statements

-- a branch behind its name and IF
unfoldable pub branch_with : ℕ → List ℕ → Forms → FoundPart Branch
branch_with most name ts = option_map (λ p. (record { alias = name; cond = p.0 }, p.1)) (expr_at most most ts)

unfoldable pub branch_at : ℕ → Forms → FoundPart Branch
branch_at most (f.Ident name ∷ f.Keyword k.If ∷ ts) = branch_with most name ts
branch_at most _ = None

-- one more branch; before anything but a name and IF a comma ends the branches
unfoldable pub branch_turn : ℕ → Forms → Turn Branch
branch_turn most (f.Symbol s.Comma ∷ f.Ident name ∷ f.Keyword k.If ∷ ts) = option_map Some (branch_with most name ts)
branch_turn most ts = Some None

unfoldable pub branches_at : ℕ → Forms → FoundPart (List Branch)
branches_at most ts = do
  first ← branch_at most ts
  repeat (branch_turn most) (length first.1) (first.0 ∷ []) first.1

unfoldable pub otherwise_at : Forms → FoundPart (Option (List ℕ))
otherwise_at (f.Symbol s.Comma ∷ f.Ident name ∷ f.Keyword k.Otherwise ∷ ts) = Some (Some name, ts)
otherwise_at ts = Some (None, ts)

-- a SPLIT behind its first word
unfoldable pub split_at : ℕ → Forms → FoundPart Stmt
split_at most (f.Ident name ∷ f.Keyword k.Into ∷ ts) = do
  branches ← branches_at most ts
  otherwise ← otherwise_at branches.1
  Some (stmt.Split name branches.0 otherwise.0, otherwise.1)
split_at most _ = None

-- a STORE behind its first word
unfoldable pub store_at : Forms → FoundPart Stmt
store_at (f.Ident name ∷ f.Keyword k.Into ∷ f.Text path ∷ ts) = option_map (λ p. (stmt.Store name path p.0, p.1)) (using_func_at ts)
store_at _ = None

-- the message behind a condition, where one stands
unfoldable pub message_at : Forms → FoundPart (Option (List ℕ))
message_at (f.Symbol s.Comma ∷ f.Text content ∷ ts) = Some (Some content, ts)
message_at ts = Some (None, ts)

-- an ASSERT behind its first word
unfoldable pub assert_at : ℕ → Forms → FoundPart Stmt
assert_at most (f.Ident name ∷ f.Keyword k.By ∷ ts) = do
  met ← expr_at most most ts
  message ← message_at met.1
  Some (stmt.Assert name met.0 message.0, message.1)
assert_at most _ = None

-- a statement that is left out, by its first word
unfoldable pub is_unsupported : Forms → Bool
is_unsupported (f.Keyword word ∷ ts) = is_unsupported_word word
is_unsupported _ = false

-- what stands behind a name and `=`
unfoldable pub assign_at : ℕ → List ℕ → Forms → FoundPart Stmt
assign_at most name ts = if is_unsupported ts then Some (stmt.Unsupported, []) else option_map (λ p. (stmt.Assign name p.0, p.1)) (op_at most ts)

-- a statement that isn't empty
unfoldable pub front_at : ℕ → Forms → FoundPart Stmt
front_at most (f.Ident name ∷ f.Symbol s.Assign ∷ ts) = assign_at most name ts
front_at most (f.Keyword k.Split ∷ ts) = split_at most ts
front_at most (f.Keyword k.Store ∷ ts) = store_at ts
front_at most (f.Keyword k.Assert ∷ ts) = assert_at most ts
front_at most ts = if is_unsupported ts then Some (stmt.Unsupported, []) else None

-- the tree, where no token is left
unfoldable pub ended : Stmt → Forms → Option Stmt
ended tree [] = Some tree
ended tree (t ∷ ts) = None

-- the whole of a statement's tokens
unfoldable pub statement_at : ℕ → Forms → Option Stmt
statement_at most [] = Some stmt.Empty
statement_at most (t ∷ ts) = option_and_then (λ p. ended p.0 p.1) (front_at most (t ∷ ts))
