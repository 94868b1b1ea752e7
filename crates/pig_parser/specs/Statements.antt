-- The grammar of statements: what is read from the front of some tokens, its tree, and what is left. Each rule stands beside the
-- alternative that it is. Names in capitals are keywords, [ ] is what may be left out, { } what may be repeated.
use Rattle.std.specs.Prelude.{◌≡◌, ℕ, pos, Bool, true, false, List, [], ◌∷◌, Option, Some, None}
use Rattle.pig_value.specs.declared.operators.Dir.{Dir}
use Rattle.pig_value.specs.declared.operators.Dir.TheVariants as dir
use Rattle.pig_value.specs.declared.operators.Side.{Side}
use Rattle.pig_value.specs.declared.operators.Side.TheVariants as side
use Rattle.pig_syntax.specs.declared.tokens.Keyword.{Keyword}
use Rattle.pig_syntax.specs.declared.tokens.Keyword.TheVariants as k
use Rattle.pig_syntax.specs.declared.tokens.Symbol.TheVariants as s
use Rattle.pig_syntax.specs.declared.tokens.TokenForm.{TokenForm}
use Rattle.pig_syntax.specs.declared.tokens.TokenForm.TheVariants as f
use Rattle.pig_syntax.specs.declared.trees.AsNames.{AsNames}
use Rattle.pig_syntax.specs.declared.trees.AsNames.TheVariants as named
use Rattle.pig_syntax.specs.declared.trees.BagRef.{BagRef}
use Rattle.pig_syntax.specs.declared.trees.Branch.{Branch}
use Rattle.pig_syntax.specs.declared.trees.Expr.{Expr}
use Rattle.pig_syntax.specs.declared.trees.FieldRef.{FieldRef}
use Rattle.pig_syntax.specs.declared.trees.FieldTree.{FieldTree}
use Rattle.pig_syntax.specs.declared.trees.Func.{Func}
use Rattle.pig_syntax.specs.declared.trees.GroupInput.{GroupInput}
use Rattle.pig_syntax.specs.declared.trees.Item.{Item}
use Rattle.pig_syntax.specs.declared.trees.Item.TheVariants as item
use Rattle.pig_syntax.specs.declared.trees.JoinInput.{JoinInput}
use Rattle.pig_syntax.specs.declared.trees.Nested.{Nested}
use Rattle.pig_syntax.specs.declared.trees.Nested.TheVariants as nested
use Rattle.pig_syntax.specs.declared.trees.Op.{Op}
use Rattle.pig_syntax.specs.declared.trees.Op.TheVariants as op
use Rattle.pig_syntax.specs.declared.trees.OrderField.{OrderField}
use Rattle.pig_syntax.specs.declared.trees.OrderKeys.{OrderKeys}
use Rattle.pig_syntax.specs.declared.trees.OrderKeys.TheVariants as keys
use Rattle.pig_syntax.specs.declared.trees.PostStep.{PostStep}
use Rattle.pig_syntax.specs.declared.trees.Step.{Step}
use Rattle.pig_syntax.specs.declared.trees.Stmt.{Stmt}
use Rattle.pig_syntax.specs.declared.trees.Stmt.TheVariants as stmt
use Rattle.pig_exprs.specs.Grammar.{Forms, Listed, IsFieldRef, IsSelection, IsType, IsSchema, expr, ReadsExpr}

-- ---- parts

-- an expression
abbrev pub IsExpr : Forms → Expr → Forms → Type 0
IsExpr ts a rest = ReadsExpr expr ts a rest

-- keys = expr | '(' expr ',' expr { ',' expr } ')'
pub data AreKeys : Forms → List Expr → Forms → Type 0 where
  one_key : {ts rest : Forms} {a : Expr} → IsExpr ts a rest → AreKeys ts (a ∷ []) rest
  several_keys : {ts mid rest : Forms} {a b : Expr} {others : List Expr} → IsExpr ts a (f.Symbol s.Comma ∷ mid) → Listed IsExpr mid (b ∷ others) (f.Symbol s.CloseParen ∷ rest)
      → AreKeys (f.Symbol s.OpenParen ∷ ts) (a ∷ b ∷ others) rest

-- [ ASC | DESC ]
pub data IsDir : Forms → Dir → Forms → Type 0 where
  no_dir : {ts : Forms} → IsDir ts dir.Asc ts
  asc : {ts : Forms} → IsDir (f.Keyword k.Asc ∷ ts) dir.Asc ts
  desc : {ts : Forms} → IsDir (f.Keyword k.Desc ∷ ts) dir.Desc ts

-- fref [ ASC | DESC ]
pub data IsOrderField : Forms → OrderField → Forms → Type 0 where
  order_field : {ts mid rest : Forms} {r : FieldRef} {d : Dir} → IsFieldRef ts r mid → IsDir mid d rest → IsOrderField ts (record { field = r; dir = d }) rest

-- okeys = '*' [ ASC | DESC ] | fref [ ASC | DESC ] { ',' fref [ ASC | DESC ] }
pub data AreOrderKeys : Forms → OrderKeys → Forms → Type 0 where
  all_fields : {ts rest : Forms} {d : Dir} → IsDir ts d rest → AreOrderKeys (f.Symbol s.Star ∷ ts) (keys.All d) rest
  order_fields : {ts rest : Forms} {os : List OrderField} → Listed IsOrderField ts os rest → AreOrderKeys ts (keys.Fields os) rest

-- Text
pub data IsTextToken : Forms → List ℕ → Forms → Type 0 where
  text : {ts : Forms} {content : List ℕ} → IsTextToken (f.Text content ∷ ts) content ts

-- Ident
pub data IsIdent : Forms → List ℕ → Forms → Type 0 where
  ident : {ts : Forms} {name : List ℕ} → IsIdent (f.Ident name ∷ ts) name ts

-- func = Ident '(' [ Text { ',' Text } ] ')'
pub data IsFunc : Forms → Func → Forms → Type 0 where
  func_bare : {ts : Forms} {name : List ℕ} → IsFunc (f.Ident name ∷ f.Symbol s.OpenParen ∷ f.Symbol s.CloseParen ∷ ts) (record { name = name; args = [] }) ts
  func_args : {ts rest : Forms} {name : List ℕ} {args : List (List ℕ)} → Listed IsTextToken ts args (f.Symbol s.CloseParen ∷ rest)
      → IsFunc (f.Ident name ∷ f.Symbol s.OpenParen ∷ ts) (record { name = name; args = args }) rest

-- [ USING func ]
pub data IsUsingFunc : Forms → Option Func → Forms → Type 0 where
  no_func : {ts : Forms} → IsUsingFunc ts None ts
  using_func : {ts rest : Forms} {func : Func} → IsFunc ts func rest → IsUsingFunc (f.Keyword k.Using ∷ ts) (Some func) rest

-- [ USING Text ]
pub data IsUsingText : Forms → Option (List ℕ) → Forms → Type 0 where
  no_text : {ts : Forms} → IsUsingText ts None ts
  using_text : {ts : Forms} {content : List ℕ} → IsUsingText (f.Keyword k.Using ∷ f.Text content ∷ ts) (Some content) ts

-- [ par ], par = PARALLEL Int, which leaves nothing
pub data IsParallel : Forms → Forms → Type 0 where
  no_par : {ts : Forms} → IsParallel ts ts
  par : {ts : Forms} {n : _} → IsParallel (f.Keyword k.Parallel ∷ f.Int n ∷ ts) ts

-- Int | Long, whose numbers are never negative
abbrev pub count_of : TokenForm → Option ℕ
count_of (f.Int (pos n)) = Some n
count_of (f.Long (pos n)) = Some n
count_of _ = None

-- ---- the items of GENERATE

-- names = Ident [ ':' type ] | schema
pub data AreNames : Forms → AsNames → Forms → Type 0 where
  one_name : {ts : Forms} {text : List ℕ} → AreNames (f.Ident text ∷ ts) (named.One (record { name = text; kind = None })) ts
  typed_name : {ts rest : Forms} {text : List ℕ} {type : _} → IsType ts type rest
      → AreNames (f.Ident text ∷ f.Symbol s.Colon ∷ ts) (named.One (record { name = text; kind = Some type })) rest
  several_names : {ts rest : Forms} {fields : List FieldTree} → IsSchema ts fields rest → AreNames ts (named.Several fields) rest

-- [ AS names ]
pub data IsNaming : Forms → Option AsNames → Forms → Type 0 where
  no_naming : {ts : Forms} → IsNaming ts None ts
  naming : {ts rest : Forms} {names : AsNames} → AreNames ts names rest → IsNaming (f.Keyword k.As ∷ ts) (Some names) rest

-- item = '*' | FLATTEN '(' expr ')' [ AS names ] | expr [ AS names ]
pub data IsItem : Forms → Item → Forms → Type 0 where
  all_items : {ts : Forms} → IsItem (f.Symbol s.Star ∷ ts) item.All ts
  flattened : {ts mid rest : Forms} {a : Expr} {names : Option AsNames} → IsExpr ts a (f.Symbol s.CloseParen ∷ mid) → IsNaming mid names rest
      → IsItem (f.Keyword k.Flatten ∷ f.Symbol s.OpenParen ∷ ts) (item.Value a true names) rest
  value : {ts mid rest : Forms} {a : Expr} {names : Option AsNames} → IsExpr ts a mid → IsNaming mid names rest → IsItem ts (item.Value a false names) rest

-- ---- nested blocks

-- bagref = fref [ '.' sel ]
pub data IsBagRef : Forms → BagRef → Forms → Type 0 where
  bag_field : {ts rest : Forms} {r : FieldRef} → IsFieldRef ts r rest → IsBagRef ts (record { field = r; sel = None }) rest
  bag_selection : {ts mid rest : Forms} {r : FieldRef} {p : PostStep} → IsFieldRef ts r (f.Symbol s.Dot ∷ mid) → IsSelection mid p rest → IsBagRef ts (record { field = r; sel = Some p }) rest

-- nested = FILTER bagref BY expr | DISTINCT bagref | ORDER bagref BY okeys | LIMIT bagref ( Int | Long ) | bagref
pub data IsNested : Forms → Nested → Forms → Type 0 where
  nested_filter : {ts mid rest : Forms} {b : BagRef} {a : Expr} → IsBagRef ts b (f.Keyword k.By ∷ mid) → IsExpr mid a rest → IsNested (f.Keyword k.Filter ∷ ts) (nested.Filter b a) rest
  nested_distinct : {ts rest : Forms} {b : BagRef} → IsBagRef ts b rest → IsNested (f.Keyword k.Distinct ∷ ts) (nested.Distinct b) rest
  nested_order : {ts mid rest : Forms} {b : BagRef} {o : OrderKeys} → IsBagRef ts b (f.Keyword k.By ∷ mid) → AreOrderKeys mid o rest → IsNested (f.Keyword k.Order ∷ ts) (nested.Order b o) rest
  nested_limit : {ts rest : Forms} {b : BagRef} {t : TokenForm} {n : ℕ} → IsBagRef ts b (t ∷ rest) → count_of t ≡ Some n → IsNested (f.Keyword k.Limit ∷ ts) (nested.Limit b n) rest
  nested_take : {ts rest : Forms} {b : BagRef} → IsBagRef ts b rest → IsNested ts (nested.Take b) rest

-- { Ident '=' nested ';' }
pub data AreSteps : Forms → List Step → Forms → Type 0 where
  no_step : {ts : Forms} → AreSteps ts [] ts
  step : {ts mid rest : Forms} {name : List ℕ} {n : Nested} {steps : List Step} → IsNested ts n (f.Symbol s.Semicolon ∷ mid) → AreSteps mid steps rest
      → AreSteps (f.Ident name ∷ f.Symbol s.Assign ∷ ts) (record { alias = name; nested = n } ∷ steps) rest

-- ---- the inputs of GROUP and JOIN

-- ginput = Ident BY keys [ INNER | OUTER ]
pub data IsGroupInput : Forms → GroupInput → Forms → Type 0 where
  input_bare : {ts rest : Forms} {name : List ℕ} {by_ : List Expr} → AreKeys ts by_ rest
      → IsGroupInput (f.Ident name ∷ f.Keyword k.By ∷ ts) (record { «from» = name; keys = by_; inner = false }) rest
  input_inner : {ts rest : Forms} {name : List ℕ} {by_ : List Expr} → AreKeys ts by_ (f.Keyword k.Inner ∷ rest)
      → IsGroupInput (f.Ident name ∷ f.Keyword k.By ∷ ts) (record { «from» = name; keys = by_; inner = true }) rest
  input_outer : {ts rest : Forms} {name : List ℕ} {by_ : List Expr} → AreKeys ts by_ (f.Keyword k.Outer ∷ rest)
      → IsGroupInput (f.Ident name ∷ f.Keyword k.By ∷ ts) (record { «from» = name; keys = by_; inner = false }) rest

-- Ident BY keys
pub data IsJoinInput : Forms → JoinInput → Forms → Type 0 where
  join_input : {ts rest : Forms} {name : List ℕ} {by_ : List Expr} → AreKeys ts by_ rest
      → IsJoinInput (f.Ident name ∷ f.Keyword k.By ∷ ts) (record { «from» = name; keys = by_ }) rest

-- side = LEFT | RIGHT | FULL
abbrev pub side_of : TokenForm → Option Side
side_of (f.Keyword k.Left) = Some side.Left
side_of (f.Keyword k.Right) = Some side.Right
side_of (f.Keyword k.Full) = Some side.Full
side_of _ = None

-- [ side [ OUTER ] ]
pub data IsSide : Forms → Side → Forms → Type 0 where
  no_side : {ts : Forms} → IsSide ts side.Inner ts
  side_bare : {t : TokenForm} {ts : Forms} {x : Side} → side_of t ≡ Some x → IsSide (t ∷ ts) x ts
  side_outer : {t : TokenForm} {ts : Forms} {x : Side} → side_of t ≡ Some x → IsSide (t ∷ f.Keyword k.Outer ∷ ts) x ts

-- [ ONSCHEMA ]
pub data IsOnSchema : Forms → Bool → Forms → Type 0 where
  by_place : {ts : Forms} → IsOnSchema ts false ts
  by_name : {ts : Forms} → IsOnSchema (f.Keyword k.OnSchema ∷ ts) true ts

-- CUBE | ROLLUP, and whether ROLLUP stands there
abbrev pub rollup_of : Keyword → Option Bool
rollup_of k.Cube = Some false
rollup_of k.Rollup = Some true
rollup_of _ = None

-- [ DENSE ], and whether it stands there
pub data IsDense : Forms → Bool → Forms → Type 0 where
  not_dense : {ts : Forms} → IsDense ts false ts
  is_dense : {ts : Forms} → IsDense (f.Keyword k.Dense ∷ ts) true ts

-- ---- operators

-- GROUP | COGROUP
abbrev pub is_group_word : Keyword → Bool
is_group_word k.Group = true
is_group_word k.Cogroup = true
is_group_word _ = false

-- op, one rule for each alternative
pub data IsOp : Forms → Op → Forms → Type 0 where
  -- LOAD Text [ USING func ] AS schema
  load : {ts mid rest : Forms} {path : List ℕ} {func : Option Func} {fields : List FieldTree} → IsUsingFunc ts func (f.Keyword k.As ∷ mid) → IsSchema mid fields rest
      → IsOp (f.Keyword k.Load ∷ f.Text path ∷ ts) (op.Load path func fields) rest
  -- FILTER Ident BY expr
  filter : {ts rest : Forms} {name : List ℕ} {a : Expr} → IsExpr ts a rest → IsOp (f.Keyword k.Filter ∷ f.Ident name ∷ f.Keyword k.By ∷ ts) (op.Filter name a) rest
  -- FOREACH Ident GENERATE items
  foreach : {ts rest : Forms} {name : List ℕ} {items : List Item} → Listed IsItem ts items rest
      → IsOp (f.Keyword k.Foreach ∷ f.Ident name ∷ f.Keyword k.Generate ∷ ts) (op.Foreach name [] items) rest
  -- FOREACH Ident '{' { Ident '=' nested ';' } GENERATE items ';' '}'
  foreach_block : {ts mid rest : Forms} {name : List ℕ} {steps : List Step} {items : List Item} → AreSteps ts steps (f.Keyword k.Generate ∷ mid)
      → Listed IsItem mid items (f.Symbol s.Semicolon ∷ f.Symbol s.CloseBrace ∷ rest)
      → IsOp (f.Keyword k.Foreach ∷ f.Ident name ∷ f.Symbol s.OpenBrace ∷ ts) (op.Foreach name steps items) rest
  -- ( GROUP | COGROUP ) Ident ALL [ USING Text ] [ par ]
  group_all : {ts mid rest : Forms} {word : Keyword} {name : List ℕ} {using_ : Option (List ℕ)} → is_group_word word ≡ true → IsUsingText ts using_ mid → IsParallel mid rest
      → IsOp (f.Keyword word ∷ f.Ident name ∷ f.Keyword k.All ∷ ts) (op.GroupAll name using_) rest
  -- ( GROUP | COGROUP ) ginput { ',' ginput } [ USING Text ] [ par ]
  group : {ts mid behind rest : Forms} {word : Keyword} {inputs : List GroupInput} {using_ : Option (List ℕ)} → is_group_word word ≡ true → Listed IsGroupInput ts inputs mid
      → IsUsingText mid using_ behind → IsParallel behind rest → IsOp (f.Keyword word ∷ ts) (op.Group inputs using_) rest
  -- JOIN Ident BY keys [ side [ OUTER ] ] ',' Ident BY keys { ',' Ident BY keys } [ USING Text ] [ par ]
  join : {ts left right mid behind rest : Forms} {first : JoinInput} {others : List JoinInput} {x : Side} {using_ : Option (List ℕ)} → IsJoinInput ts first left
      → IsSide left x (f.Symbol s.Comma ∷ right) → Listed IsJoinInput right others mid → IsUsingText mid using_ behind → IsParallel behind rest
      → IsOp (f.Keyword k.Join ∷ ts) (op.Join (first ∷ others) x using_) rest
  -- UNION [ ONSCHEMA ] Ident ',' Ident { ',' Ident }
  union : {ts mid rest : Forms} {onschema : Bool} {name : List ℕ} {others : List (List ℕ)} → IsOnSchema ts onschema (f.Ident name ∷ f.Symbol s.Comma ∷ mid)
      → Listed IsIdent mid others rest → IsOp (f.Keyword k.Union ∷ ts) (op.Union onschema (name ∷ others)) rest
  -- DISTINCT Ident [ par ]
  distinct : {ts rest : Forms} {name : List ℕ} → IsParallel ts rest → IsOp (f.Keyword k.Distinct ∷ f.Ident name ∷ ts) (op.Distinct name) rest
  -- ORDER Ident BY okeys [ par ]
  order : {ts mid rest : Forms} {name : List ℕ} {o : OrderKeys} → AreOrderKeys ts o mid → IsParallel mid rest
      → IsOp (f.Keyword k.Order ∷ f.Ident name ∷ f.Keyword k.By ∷ ts) (op.Order name o) rest
  -- LIMIT Ident ( Int | Long )
  limit : {t : TokenForm} {ts : Forms} {name : List ℕ} {n : ℕ} → count_of t ≡ Some n → IsOp (f.Keyword k.Limit ∷ f.Ident name ∷ t ∷ ts) (op.Limit name n) ts
  -- CUBE Ident BY ( CUBE | ROLLUP ) '(' fref { ',' fref } ')' [ par ]
  cube : {ts mid rest : Forms} {word : Keyword} {name : List ℕ} {rollup : Bool} {dims : List FieldRef} → rollup_of word ≡ Some rollup
      → Listed IsFieldRef ts dims (f.Symbol s.CloseParen ∷ mid) → IsParallel mid rest
      → IsOp (f.Keyword k.Cube ∷ f.Ident name ∷ f.Keyword k.By ∷ f.Keyword word ∷ f.Symbol s.OpenParen ∷ ts) (op.Cube name rollup dims) rest
  -- RANK Ident BY okeys [ DENSE ]
  rank : {ts mid rest : Forms} {name : List ℕ} {o : OrderKeys} {dense : Bool} → AreOrderKeys ts o mid → IsDense mid dense rest
      → IsOp (f.Keyword k.Rank ∷ f.Ident name ∷ f.Keyword k.By ∷ ts) (op.Rank name o dense) rest

-- ---- statements

-- Ident IF expr
pub data IsBranch : Forms → Branch → Forms → Type 0 where
  branch : {ts rest : Forms} {name : List ℕ} {a : Expr} → IsExpr ts a rest → IsBranch (f.Ident name ∷ f.Keyword k.If ∷ ts) (record { alias = name; cond = a }) rest

-- [ ',' Ident OTHERWISE ]
pub data IsOtherwise : Forms → Option (List ℕ) → Forms → Type 0 where
  no_otherwise : {ts : Forms} → IsOtherwise ts None ts
  otherwise : {ts : Forms} {name : List ℕ} → IsOtherwise (f.Symbol s.Comma ∷ f.Ident name ∷ f.Keyword k.Otherwise ∷ ts) (Some name) ts

-- [ ',' Text ]
pub data IsMessage : Forms → Option (List ℕ) → Forms → Type 0 where
  no_message : {ts : Forms} → IsMessage ts None ts
  with_message : {ts : Forms} {content : List ℕ} → IsMessage (f.Symbol s.Comma ∷ f.Text content ∷ ts) (Some content) ts

-- uword = REGISTER | DEFINE | STREAM | MAPREDUCE | SAMPLE | CROSS | DUMP | ILLUSTRATE | DESCRIBE | EXPLAIN | IMPORT | SET
abbrev pub is_unsupported_word : Keyword → Bool
is_unsupported_word k.Register = true
is_unsupported_word k.Define = true
is_unsupported_word k.Stream = true
is_unsupported_word k.MapReduce = true
is_unsupported_word k.Sample = true
is_unsupported_word k.Cross = true
is_unsupported_word k.Dump = true
is_unsupported_word k.Illustrate = true
is_unsupported_word k.Describe = true
is_unsupported_word k.Explain = true
is_unsupported_word k.Import = true
is_unsupported_word k.Set = true
is_unsupported_word _ = false

-- stmt, the whole of a statement's tokens, one rule for each alternative
pub data IsStatement : Forms → Stmt → Type 0 where
  -- (nothing)
  empty : IsStatement [] stmt.Empty
  -- Ident '=' op
  assign : {ts : Forms} {name : List ℕ} {o : Op} → IsOp ts o [] → IsStatement (f.Ident name ∷ f.Symbol s.Assign ∷ ts) (stmt.Assign name o)
  -- SPLIT Ident INTO Ident IF expr { ',' Ident IF expr } [ ',' Ident OTHERWISE ]
  split : {ts mid : Forms} {name : List ℕ} {branches : List Branch} {otherwise : Option (List ℕ)} → Listed IsBranch ts branches mid → IsOtherwise mid otherwise []
      → IsStatement (f.Keyword k.Split ∷ f.Ident name ∷ f.Keyword k.Into ∷ ts) (stmt.Split name branches otherwise)
  -- STORE Ident INTO Text [ USING func ]
  store : {ts : Forms} {name path : List ℕ} {func : Option Func} → IsUsingFunc ts func []
      → IsStatement (f.Keyword k.Store ∷ f.Ident name ∷ f.Keyword k.Into ∷ f.Text path ∷ ts) (stmt.Store name path func)
  -- ASSERT Ident BY expr [ ',' Text ]
  assertion : {ts mid : Forms} {name : List ℕ} {a : Expr} {message : Option (List ℕ)} → IsExpr ts a mid → IsMessage mid message []
      → IsStatement (f.Keyword k.Assert ∷ f.Ident name ∷ f.Keyword k.By ∷ ts) (stmt.Assert name a message)
  -- [ Ident '=' ] uword { any token }
  unsupported : {word : Keyword} {ts : Forms} → is_unsupported_word word ≡ true → IsStatement (f.Keyword word ∷ ts) stmt.Unsupported
  unsupported_named : {word : Keyword} {ts : Forms} {name : List ℕ} → is_unsupported_word word ≡ true
      → IsStatement (f.Ident name ∷ f.Symbol s.Assign ∷ f.Keyword word ∷ ts) stmt.Unsupported
