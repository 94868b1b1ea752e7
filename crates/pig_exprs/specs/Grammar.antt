-- The grammar of fields, types and expressions: what is read from the front of some tokens, its tree, and what is left. Each rule
-- stands beside the alternative that it is. Names in capitals are keywords, [ ] is what may be left out, { } what may be repeated.
use Rattle.std.specs.Prelude.{◌≡◌, ℕ, true, false, List, [], ◌∷◌, ◌++◌, map, Option, Some, None, codes}
use Rattle.pig_value.specs.declared.operators.ChainOp.{ChainOp}
use Rattle.pig_value.specs.declared.operators.ChainOp.TheVariants as op
use Rattle.pig_value.specs.declared.operators.Rel.{Rel}
use Rattle.pig_value.specs.declared.operators.Rel.TheVariants as rel
use Rattle.pig_syntax.specs.declared.tokens.Keyword.{Keyword}
use Rattle.pig_syntax.specs.declared.tokens.Keyword.TheVariants as k
use Rattle.pig_syntax.specs.declared.tokens.Symbol.TheVariants as s
use Rattle.pig_syntax.specs.declared.tokens.TokenForm.{TokenForm}
use Rattle.pig_syntax.specs.declared.tokens.TokenForm.TheVariants as f
use Rattle.pig_syntax.specs.declared.trees.Expr.{Expr}
use Rattle.pig_syntax.specs.declared.trees.Expr.TheVariants as e
use Rattle.pig_syntax.specs.declared.trees.FieldRef.{FieldRef}
use Rattle.pig_syntax.specs.declared.trees.FieldRef.TheVariants as ref
use Rattle.pig_syntax.specs.declared.trees.FieldTree.{FieldTree}
use Rattle.pig_syntax.specs.declared.trees.Link.{Link}
use Rattle.pig_syntax.specs.declared.trees.PostStep.{PostStep}
use Rattle.pig_syntax.specs.declared.trees.PostStep.TheVariants as step
use Rattle.pig_syntax.specs.declared.trees.TypeTree.{TypeTree}
use Rattle.pig_syntax.specs.declared.trees.TypeTree.TheVariants as type

-- the forms of tokens, one after the other
abbrev pub Forms : Type 0
Forms = List TokenForm

-- X { ',' X }
pub data Listed {X : Type 0} (Reads : Forms → X → Forms → Type 0) : Forms → List X → Forms → Type 0 where
  last : {ts rest : Forms} {x : X} → Reads ts x rest → Listed Reads ts (x ∷ []) rest
  more : {ts mid rest : Forms} {x : X} {xs : List X} → Reads ts x (f.Symbol s.Comma ∷ mid) → Listed Reads mid xs rest → Listed Reads ts (x ∷ xs) rest

-- ---- names

-- part = Ident | GROUP | CUBE, where the words are the names `group` and `cube`
abbrev pub part_of : TokenForm → Option (List ℕ)
part_of (f.Ident text) = Some text
part_of (f.Keyword k.Group) = Some (codes "group")
part_of (f.Keyword k.Cube) = Some (codes "cube")
part_of _ = None

-- name = part { '::' part }
pub data IsName : Forms → List ℕ → Forms → Type 0 where
  part : {t : TokenForm} {ts : Forms} {text : List ℕ} → part_of t ≡ Some text → IsName (t ∷ ts) text ts
  parts : {t : TokenForm} {ts rest : Forms} {text name : List ℕ} → part_of t ≡ Some text → IsName ts name rest
      → IsName (t ∷ f.Symbol s.DoubleColon ∷ ts) (text ++ codes "::" ++ name) rest

-- fref = name | Position
pub data IsFieldRef : Forms → FieldRef → Forms → Type 0 where
  name : {ts rest : Forms} {text : List ℕ} → IsName ts text rest → IsFieldRef ts (ref.Name text) rest
  position : {ts : Forms} {n : ℕ} → IsFieldRef (f.Position n ∷ ts) (ref.Position n) ts

-- sel = fref | '(' fref { ',' fref } ')'
pub data IsSelection : Forms → PostStep → Forms → Type 0 where
  one : {ts rest : Forms} {r : FieldRef} → IsFieldRef ts r rest → IsSelection ts (step.Project (r ∷ []) true) rest
  several : {ts rest : Forms} {rs : List FieldRef} → Listed IsFieldRef ts rs (f.Symbol s.CloseParen ∷ rest)
      → IsSelection (f.Symbol s.OpenParen ∷ ts) (step.Project rs false) rest

-- ---- types

-- scalar = INT | LONG | CHARARRAY | BYTEARRAY | BOOLEAN | FLOAT | DOUBLE | BIGINTEGER | BIGDECIMAL | DATETIME
abbrev pub scalar_of : Keyword → Option TypeTree
scalar_of k.Int = Some type.Int
scalar_of k.Long = Some type.Long
scalar_of k.Chararray = Some type.Chararray
scalar_of k.Bytearray = Some type.Bytearray
scalar_of k.Boolean = Some type.Boolean
scalar_of k.Float = Some type.Float
scalar_of k.Double = Some type.Float
scalar_of k.BigInteger = Some type.Float
scalar_of k.BigDecimal = Some type.Float
scalar_of k.DateTime = Some type.Float
scalar_of _ = None

mutual
  -- type = scalar | [ TUPLE ] schema | [ BAG ] '{' [ Ident ':' ] [ TUPLE ] schema '}' | [ MAP ] '[' [ type ] ']'
  pub data IsType : Forms → TypeTree → Forms → Type 0 where
    type_scalar : {ts : Forms} {word : Keyword} {type : TypeTree} → scalar_of word ≡ Some type → IsType (f.Keyword word ∷ ts) type ts
    type_tuple : {ts rest : Forms} {fields : List FieldTree} → IsTuple ts fields rest → IsType ts (type.Tuple fields) rest
    type_bag : {ts rest : Forms} {fields : List FieldTree} → IsBag ts fields rest → IsType ts (type.Bag fields) rest
    type_bag_word : {ts rest : Forms} {fields : List FieldTree} → IsBag ts fields rest → IsType (f.Keyword k.Bag ∷ ts) (type.Bag fields) rest
    type_map : {ts rest : Forms} {values : Option TypeTree} → IsMap ts values rest → IsType ts (type.Map values) rest
    type_map_word : {ts rest : Forms} {values : Option TypeTree} → IsMap ts values rest → IsType (f.Keyword k.Map ∷ ts) (type.Map values) rest

  -- [ TUPLE ] schema
  pub data IsTuple : Forms → List FieldTree → Forms → Type 0 where
    tuple_bare : {ts rest : Forms} {fields : List FieldTree} → IsSchema ts fields rest → IsTuple ts fields rest
    tuple_word : {ts rest : Forms} {fields : List FieldTree} → IsSchema ts fields rest → IsTuple (f.Keyword k.Tuple ∷ ts) fields rest

  -- '{' [ Ident ':' ] [ TUPLE ] schema '}'
  pub data IsBag : Forms → List FieldTree → Forms → Type 0 where
    bag_bare : {ts rest : Forms} {fields : List FieldTree} → IsTuple ts fields (f.Symbol s.CloseBrace ∷ rest) → IsBag (f.Symbol s.OpenBrace ∷ ts) fields rest
    bag_named : {ts rest : Forms} {name : List ℕ} {fields : List FieldTree} → IsTuple ts fields (f.Symbol s.CloseBrace ∷ rest)
        → IsBag (f.Symbol s.OpenBrace ∷ f.Ident name ∷ f.Symbol s.Colon ∷ ts) fields rest

  -- '[' [ type ] ']'
  pub data IsMap : Forms → Option TypeTree → Forms → Type 0 where
    map_bare : {ts : Forms} → IsMap (f.Symbol s.OpenBracket ∷ f.Symbol s.CloseBracket ∷ ts) None ts
    map_typed : {ts rest : Forms} {type : TypeTree} → IsType ts type (f.Symbol s.CloseBracket ∷ rest) → IsMap (f.Symbol s.OpenBracket ∷ ts) (Some type) rest

  -- schema = '(' field { ',' field } ')'
  pub data IsSchema : Forms → List FieldTree → Forms → Type 0 where
    schema : {ts rest : Forms} {fields : List FieldTree} → AreSchemaFields ts fields (f.Symbol s.CloseParen ∷ rest) → IsSchema (f.Symbol s.OpenParen ∷ ts) fields rest

  -- field { ',' field }
  pub data AreSchemaFields : Forms → List FieldTree → Forms → Type 0 where
    fields_last : {ts rest : Forms} {field : FieldTree} → IsSchemaField ts field rest → AreSchemaFields ts (field ∷ []) rest
    fields_more : {ts mid rest : Forms} {field : FieldTree} {fields : List FieldTree} → IsSchemaField ts field (f.Symbol s.Comma ∷ mid) → AreSchemaFields mid fields rest → AreSchemaFields ts (field ∷ fields) rest

  -- field = Ident [ ':' type ]
  pub data IsSchemaField : Forms → FieldTree → Forms → Type 0 where
    field_bare : {ts : Forms} {text : List ℕ} → IsSchemaField (f.Ident text ∷ ts) (record { name = text; kind = None }) ts
    field_typed : {ts rest : Forms} {text : List ℕ} {type : TypeTree} → IsType ts type rest → IsSchemaField (f.Ident text ∷ f.Symbol s.Colon ∷ ts) (record { name = text; kind = Some type }) rest

-- ctype = scalar | TUPLE schema | BAG '{' [ Ident ':' ] [ TUPLE ] schema '}' | MAP '[' [ type ] ']'
pub data IsCastType : Forms → TypeTree → Forms → Type 0 where
  cast_scalar : {ts : Forms} {word : Keyword} {type : TypeTree} → scalar_of word ≡ Some type → IsCastType (f.Keyword word ∷ ts) type ts
  cast_tuple : {ts rest : Forms} {fields : List FieldTree} → IsSchema ts fields rest → IsCastType (f.Keyword k.Tuple ∷ ts) (type.Tuple fields) rest
  cast_bag : {ts rest : Forms} {fields : List FieldTree} → IsBag ts fields rest → IsCastType (f.Keyword k.Bag ∷ ts) (type.Bag fields) rest
  cast_map : {ts rest : Forms} {values : Option TypeTree} → IsMap ts values rest → IsCastType (f.Keyword k.Map ∷ ts) (type.Map values) rest

-- ---- expressions

-- the rules of expressions, from the one that binds least
pub data Level : Type 0 where
  expr and_chain neg comparison sum term unary casted post primary : Level

-- relop = '==' | '!=' | '<' | '<=' | '>' | '>='
abbrev pub rel_of : TokenForm → Option Rel
rel_of (f.Symbol s.Equal) = Some rel.Eq
rel_of (f.Symbol s.NotEqual) = Some rel.Ne
rel_of (f.Symbol s.Less) = Some rel.Lt
rel_of (f.Symbol s.LessEqual) = Some rel.Le
rel_of (f.Symbol s.Greater) = Some rel.Gt
rel_of (f.Symbol s.GreaterEqual) = Some rel.Ge
rel_of _ = None

-- the operators of the chains: OR, AND, '+' and '-', '*' and '/' and '%'
abbrev pub chain_op : Level → TokenForm → Option ChainOp
chain_op expr (f.Keyword k.Or) = Some op.Or
chain_op and_chain (f.Keyword k.And) = Some op.And
chain_op sum (f.Symbol s.Plus) = Some op.Add
chain_op sum (f.Symbol s.Minus) = Some op.Sub
chain_op term (f.Symbol s.Star) = Some op.Mul
chain_op term (f.Symbol s.Slash) = Some op.Div
chain_op term (f.Symbol s.Percent) = Some op.Rem
chain_op _ _ = None

-- Int | Long | Float | Text | TRUE | FALSE | NULL
abbrev pub token_literal : TokenForm → Option Expr
token_literal (f.Int n) = Some (e.Int n)
token_literal (f.Long n) = Some (e.Long n)
token_literal f.Float = Some e.Float
token_literal (f.Text text) = Some (e.Text text)
token_literal (f.Keyword k.True) = Some (e.Bool true)
token_literal (f.Keyword k.False) = Some (e.Bool false)
token_literal (f.Keyword k.Null) = Some e.Null
token_literal _ = None

-- { '.' sel | '#' Text }
pub data ArePostSteps : Forms → List PostStep → Forms → Type 0 where
  none : {ts : Forms} → ArePostSteps ts [] ts
  project : {ts mid rest : Forms} {p : PostStep} {ps : List PostStep} → IsSelection ts p mid → ArePostSteps mid ps rest → ArePostSteps (f.Symbol s.Dot ∷ ts) (p ∷ ps) rest
  look : {ts rest : Forms} {key : List ℕ} {ps : List PostStep} → ArePostSteps ts ps rest → ArePostSteps (f.Symbol s.Hash ∷ f.Text key ∷ ts) (step.Look key ∷ ps) rest

-- ---- the trees that IN and CASE stand for

-- an operand by itself, or the chain that it begins
unfoldable pub chain_of : Expr → List Link → Expr
chain_of a [] = a
chain_of a (l ∷ ls) = e.Chain a (l ∷ ls)

-- x == v
abbrev pub equals : Expr → Expr → Expr
equals x v = e.Compare rel.Eq x v

-- x IN (v, w, ..) is x == v OR x == w OR ..
abbrev pub is_among : Expr → Expr → List Expr → Expr
is_among x v others = chain_of (equals x v) (map (λ w. record { op = op.Or; a = equals x w }) others)

-- CASE WHEN c THEN a WHEN d THEN b ELSE e END is c ? a : (d ? b : e)
unfoldable pub choice_of : List (Expr × Expr) → Expr → Expr
choice_of [] default = default
choice_of (w ∷ others) default = e.Choose w.0 w.1 (choice_of others default)

-- CASE x WHEN v THEN a is CASE WHEN x == v THEN a
abbrev pub compared : Expr → List (Expr × Expr) → List (Expr × Expr)
compared x whens = map (λ w. (equals x w.0, w.1)) whens

mutual
  pub data ReadsExpr : Level → Forms → Expr → Forms → Type 0 where
    -- expr = and_chain { OR and_chain }
    expr_one : {ts rest : Forms} {a : Expr} → ReadsExpr and_chain ts a rest → ReadsExpr expr ts a rest
    expr_more : {ts mid rest : Forms} {a : Expr} {l : Link} {ls : List Link} → ReadsExpr and_chain ts a mid → Links expr and_chain mid (l ∷ ls) rest → ReadsExpr expr ts (e.Chain a (l ∷ ls)) rest
    -- and_chain = neg { AND neg }
    and_chain_one : {ts rest : Forms} {a : Expr} → ReadsExpr neg ts a rest → ReadsExpr and_chain ts a rest
    and_chain_more : {ts mid rest : Forms} {a : Expr} {l : Link} {ls : List Link} → ReadsExpr neg ts a mid → Links and_chain neg mid (l ∷ ls) rest → ReadsExpr and_chain ts (e.Chain a (l ∷ ls)) rest
    -- neg = [ NOT ] comparison
    neg_none : {ts rest : Forms} {a : Expr} → ReadsExpr comparison ts a rest → ReadsExpr neg ts a rest
    neg_not : {ts rest : Forms} {a : Expr} → ReadsExpr comparison ts a rest → ReadsExpr neg (f.Keyword k.Not ∷ ts) (e.Not a) rest
    -- comparison = sum [ relop sum ] | sum IS [ NOT ] NULL | sum IN '(' expr { ',' expr } ')'
    comparison_one : {ts rest : Forms} {a : Expr} → ReadsExpr sum ts a rest → ReadsExpr comparison ts a rest
    comparison_rel : {ts mid rest : Forms} {t : TokenForm} {r : Rel} {a b : Expr} → ReadsExpr sum ts a (t ∷ mid) → rel_of t ≡ Some r → ReadsExpr sum mid b rest → ReadsExpr comparison ts (e.Compare r a b) rest
    comparison_null : {ts rest : Forms} {a : Expr} → ReadsExpr sum ts a (f.Keyword k.Is ∷ f.Keyword k.Null ∷ rest) → ReadsExpr comparison ts (e.IsNull a false) rest
    comparison_not_null : {ts rest : Forms} {a : Expr} → ReadsExpr sum ts a (f.Keyword k.Is ∷ f.Keyword k.Not ∷ f.Keyword k.Null ∷ rest) → ReadsExpr comparison ts (e.IsNull a true) rest
    comparison_in : {ts mid rest : Forms} {a v : Expr} {others : List Expr} → ReadsExpr sum ts a (f.Keyword k.In ∷ f.Symbol s.OpenParen ∷ mid) → AreExprs mid (v ∷ others) (f.Symbol s.CloseParen ∷ rest)
        → ReadsExpr comparison ts (is_among a v others) rest
    -- sum = term { ( '+' | '-' ) term }
    sum_one : {ts rest : Forms} {a : Expr} → ReadsExpr term ts a rest → ReadsExpr sum ts a rest
    sum_more : {ts mid rest : Forms} {a : Expr} {l : Link} {ls : List Link} → ReadsExpr term ts a mid → Links sum term mid (l ∷ ls) rest → ReadsExpr sum ts (e.Chain a (l ∷ ls)) rest
    -- term = unary { ( '*' | '/' | '%' ) unary }
    term_one : {ts rest : Forms} {a : Expr} → ReadsExpr unary ts a rest → ReadsExpr term ts a rest
    term_more : {ts mid rest : Forms} {a : Expr} {l : Link} {ls : List Link} → ReadsExpr unary ts a mid → Links term unary mid (l ∷ ls) rest → ReadsExpr term ts (e.Chain a (l ∷ ls)) rest
    -- unary = [ '-' ] casted
    unary_none : {ts rest : Forms} {a : Expr} → ReadsExpr casted ts a rest → ReadsExpr unary ts a rest
    unary_minus : {ts rest : Forms} {a : Expr} → ReadsExpr casted ts a rest → ReadsExpr unary (f.Symbol s.Minus ∷ ts) (e.Minus a) rest
    -- casted = [ '(' ctype ')' ] post
    casted_none : {ts rest : Forms} {a : Expr} → ReadsExpr post ts a rest → ReadsExpr casted ts a rest
    casted_cast : {ts mid rest : Forms} {type : TypeTree} {a : Expr} → IsCastType ts type (f.Symbol s.CloseParen ∷ mid) → ReadsExpr post mid a rest → ReadsExpr casted (f.Symbol s.OpenParen ∷ ts) (e.Cast type a) rest
    -- post = primary { '.' sel | '#' Text }
    post_one : {ts rest : Forms} {a : Expr} → ReadsExpr primary ts a rest → ReadsExpr post ts a rest
    post_more : {ts mid rest : Forms} {a : Expr} {p : PostStep} {ps : List PostStep} → ReadsExpr primary ts a mid → ArePostSteps mid (p ∷ ps) rest → ReadsExpr post ts (e.Post a (p ∷ ps)) rest
    -- primary = Int | Long | Float | Text | TRUE | FALSE | NULL | fref
    --      | Ident '(' [ expr { ',' expr } ] ')'
    --      | '(' expr ')' | '(' expr '?' expr ':' expr ')'
    --      | CASE [ expr ] WHEN expr THEN expr { WHEN expr THEN expr } [ ELSE expr ] END
    primary_literal : {ts : Forms} {t : TokenForm} {a : Expr} → token_literal t ≡ Some a → ReadsExpr primary (t ∷ ts) a ts
    primary_field : {ts rest : Forms} {r : FieldRef} → IsFieldRef ts r rest → ReadsExpr primary ts (e.Field r) rest
    primary_call_none : {ts : Forms} {name : List ℕ} → ReadsExpr primary (f.Ident name ∷ f.Symbol s.OpenParen ∷ f.Symbol s.CloseParen ∷ ts) (e.Call name []) ts
    primary_call : {ts rest : Forms} {name : List ℕ} {args : List Expr} → AreExprs ts args (f.Symbol s.CloseParen ∷ rest) → ReadsExpr primary (f.Ident name ∷ f.Symbol s.OpenParen ∷ ts) (e.Call name args) rest
    primary_paren : {ts rest : Forms} {a : Expr} → ReadsExpr expr ts a (f.Symbol s.CloseParen ∷ rest) → ReadsExpr primary (f.Symbol s.OpenParen ∷ ts) a rest
    primary_choose : {ts left right rest : Forms} {a b c : Expr} → ReadsExpr expr ts a (f.Symbol s.Question ∷ left) → ReadsExpr expr left b (f.Symbol s.Colon ∷ right)
        → ReadsExpr expr right c (f.Symbol s.CloseParen ∷ rest) → ReadsExpr primary (f.Symbol s.OpenParen ∷ ts) (e.Choose a b c) rest
    primary_case : {ts mid rest : Forms} {w : Expr × Expr} {others : List (Expr × Expr)} {default : Expr} → AreWhens ts (w ∷ others) mid → IsLast mid default rest
        → ReadsExpr primary (f.Keyword k.Case ∷ ts) (choice_of (w ∷ others) default) rest
    primary_case_of : {ts mid behind rest : Forms} {x : Expr} {w : Expr × Expr} {others : List (Expr × Expr)} {default : Expr} → ReadsExpr expr ts x mid → AreWhens mid (w ∷ others) behind
        → IsLast behind default rest → ReadsExpr primary (f.Keyword k.Case ∷ ts) (choice_of (compared x (w ∷ others)) default) rest

  -- { WHEN expr THEN expr }
  pub data AreWhens : Forms → List (Expr × Expr) → Forms → Type 0 where
    whens_none : {ts : Forms} → AreWhens ts [] ts
    whens_more : {ts mid behind rest : Forms} {c a : Expr} {others : List (Expr × Expr)} → ReadsExpr expr ts c (f.Keyword k.Then ∷ mid) → ReadsExpr expr mid a behind → AreWhens behind others rest
        → AreWhens (f.Keyword k.When ∷ ts) ((c, a) ∷ others) rest

  -- [ ELSE expr ] END, where a missing ELSE is NULL
  pub data IsLast : Forms → Expr → Forms → Type 0 where
    last_none : {ts : Forms} → IsLast (f.Keyword k.End ∷ ts) e.Null ts
    last_else : {ts rest : Forms} {a : Expr} → ReadsExpr expr ts a (f.Keyword k.End ∷ rest) → IsLast (f.Keyword k.Else ∷ ts) a rest

  -- { operator operand }, of one chain
  pub data Links : Level → Level → Forms → List Link → Forms → Type 0 where
    links_none : {chain member : Level} {ts : Forms} → Links chain member ts [] ts
    links_link : {chain member : Level} {t : TokenForm} {ts mid rest : Forms} {o : ChainOp} {a : Expr} {ls : List Link} → chain_op chain t ≡ Some o → ReadsExpr member ts a mid
        → Links chain member mid ls rest → Links chain member (t ∷ ts) (record { op = o; a = a } ∷ ls) rest

  -- expr { ',' expr }
  pub data AreExprs : Forms → List Expr → Forms → Type 0 where
    exprs_last : {ts rest : Forms} {a : Expr} → ReadsExpr expr ts a rest → AreExprs ts (a ∷ []) rest
    exprs_more : {ts mid rest : Forms} {a : Expr} {others : List Expr} → ReadsExpr expr ts a (f.Symbol s.Comma ∷ mid) → AreExprs mid others rest → AreExprs ts (a ∷ others) rest
