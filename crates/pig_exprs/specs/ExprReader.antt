-- What readers of expressions find at the front of some tokens, and what they leave.
use Rattle.std.specs.Prelude.{ℕ, zero, suc, true, false, List, [], ◌∷◌, length, if◌then◌else◌, Bool, is_some, Option, Some, None}
use Rattle.std.specs.Option.{option_map, option_and_then, option_map_or}
use Rattle.pig_syntax.specs.declared.tokens.Keyword.{Keyword}
use Rattle.pig_syntax.specs.declared.tokens.Keyword.TheVariants as k
use Rattle.pig_syntax.specs.declared.tokens.Symbol.TheVariants as s
use Rattle.pig_syntax.specs.declared.tokens.TokenForm.TheVariants as f
use Rattle.pig_syntax.specs.declared.trees.Expr.{Expr}
use Rattle.pig_syntax.specs.declared.trees.Expr.TheVariants as e
use Rattle.pig_syntax.specs.declared.trees.Link.{Link}
use Rattle.pig_syntax.specs.declared.trees.PostStep.{PostStep}
use Rattle.pig_syntax.specs.declared.trees.PostStep.TheVariants as step
use Rattle.pig_value.specs.declared.operators.Rel.{Rel}
use Rattle.pig_exprs.specs.declared.chains.Chain.{Chain}
use Rattle.pig_exprs.specs.declared.chains.Chain.TheVariants as chain
use Rattle.pig_exprs.specs.Grammar.{Forms, scalar_of, Level, expr, and_chain, sum, term, chain_op, rel_of, token_literal, chain_of, is_among, choice_of, compared}
use Rattle.pig_exprs.specs.Reader.{FoundPart, Turn, repeat, comma_turn, listed, after_symbol, after_word, close_paren, field_ref_at, selection_at, cast_type_with, type_at}
use Rattle.pig_value.specs.Results.{◌>>=◌}

-- ---- expressions, by the reader of the expressions inside brackets, with types in casts whose brackets nest less deep than `most`

-- the rule that a chain stands for
abbrev pub level_of : Chain → Level
level_of chain.Or = expr
level_of chain.And = and_chain
level_of chain.Sum = sum
level_of chain.Product = term

-- an operator of a chain and what follows it
unfoldable pub link_turn : Level → (Forms → FoundPart Expr) → Forms → Turn Link
link_turn level member [] = Some None
link_turn level member (t ∷ ts) = option_map_or (λ o. option_map (λ p. Some (record { op = o; a = p.0 }, p.1)) (member ts)) (chain_op level t) (Some None)

unfoldable pub chain_at : Level → (Forms → FoundPart Expr) → Forms → FoundPart Expr
chain_at level member ts = do
  first ← member ts
  links ← repeat (link_turn level member) (length first.1) [] first.1
  Some (chain_of first.0 links.0, links.1)

unfoldable pub post_turn : Forms → Turn PostStep
post_turn (f.Symbol s.Dot ∷ ts) = option_map Some (selection_at ts)
post_turn (f.Symbol s.Hash ∷ f.Text key ∷ ts) = Some (Some (step.Look key, ts))
post_turn ts = Some None

unfoldable pub post_of : Expr → List PostStep → Expr
post_of a [] = a
post_of a (p ∷ ps) = e.Post a (p ∷ ps)

-- what stands behind the `?` of a choice
unfoldable pub both_at : (Forms → FoundPart Expr) → Forms → FoundPart (Expr × Expr)
both_at inner ts = do
  left ← inner ts
  behind ← after_symbol s.Colon left.1
  right ← inner behind
  rest ← close_paren right.1
  Some ((left.0, right.0), rest)

-- what may follow an expression behind `(`: `)`, or `? b : c)`
unfoldable pub paren_after : (Forms → FoundPart Expr) → Expr → Forms → FoundPart Expr
paren_after inner a (f.Symbol s.CloseParen ∷ ts) = Some (a, ts)
paren_after inner a (f.Symbol s.Question ∷ ts) = do
  both ← both_at inner ts
  Some (e.Choose a both.0.0 both.0.1, both.1)
paren_after inner a _ = None

-- what may follow a name and `(`
unfoldable pub call_at : (Forms → FoundPart Expr) → List ℕ → Forms → FoundPart Expr
call_at inner name (f.Symbol s.CloseParen ∷ ts) = Some (e.Call name [], ts)
call_at inner name ts = do
  args ← listed inner ts
  rest ← close_paren args.1
  Some (e.Call name args.0, rest)

unfoldable pub simple_at : Forms → FoundPart Expr
simple_at [] = None
simple_at (t ∷ ts) = option_map_or (λ a. Some (a, ts)) (token_literal t) (option_map (λ p. (e.Field p.0, p.1)) (field_ref_at (t ∷ ts)))

-- ---- CASE

-- a condition and its value, behind WHEN
unfoldable pub when_at : (Forms → FoundPart Expr) → Forms → FoundPart (Expr × Expr)
when_at inner ts = do
  test ← inner ts
  behind ← after_word k.Then test.1
  value ← inner behind
  Some ((test.0, value.0), value.1)

unfoldable pub when_turn : (Forms → FoundPart Expr) → Forms → Turn (Expr × Expr)
when_turn inner (f.Keyword k.When ∷ ts) = option_map Some (when_at inner ts)
when_turn inner ts = Some None

unfoldable pub first_when : (Forms → FoundPart Expr) → Forms → FoundPart (Expr × Expr)
first_when inner (f.Keyword k.When ∷ ts) = when_at inner ts
first_when inner _ = None

-- what stands behind the last WHEN: the value of ELSE, or NULL, and END
unfoldable pub last_at : (Forms → FoundPart Expr) → Forms → FoundPart Expr
last_at inner (f.Keyword k.End ∷ ts) = Some (e.Null, ts)
last_at inner (f.Keyword k.Else ∷ ts) = do
  a ← inner ts
  rest ← after_word k.End a.1
  Some (a.0, rest)
last_at inner _ = None

-- the first WHEN, the others, and the value where none holds
unfoldable pub cases_at : (Forms → FoundPart Expr) → Forms → FoundPart (((Expr × Expr) × List (Expr × Expr)) × Expr)
cases_at inner ts = do
  first ← first_when inner ts
  others ← repeat (when_turn inner) (length first.1) [] first.1
  last ← last_at inner others.1
  Some (((first.0, others.0), last.0), last.1)

-- a CASE of conditions, behind its word
unfoldable pub case_bare_at : (Forms → FoundPart Expr) → Forms → FoundPart Expr
case_bare_at inner ts = do
  cases ← cases_at inner ts
  Some (choice_of (cases.0.0.0 ∷ cases.0.0.1) cases.0.1, cases.1)

-- a CASE of an operand, behind its word
unfoldable pub case_of_at : (Forms → FoundPart Expr) → Forms → FoundPart Expr
case_of_at inner ts = do
  x ← inner ts
  cases ← cases_at inner x.1
  Some (choice_of (compared x.0 (cases.0.0.0 ∷ cases.0.0.1)) cases.0.1, cases.1)

unfoldable pub case_at : (Forms → FoundPart Expr) → Forms → FoundPart Expr
case_at inner (f.Keyword k.When ∷ ts) = case_bare_at inner (f.Keyword k.When ∷ ts)
case_at inner ts = case_of_at inner ts

-- ---- operands

unfoldable pub primary_at : (Forms → FoundPart Expr) → Forms → FoundPart Expr
primary_at inner (f.Ident name ∷ f.Symbol s.OpenParen ∷ ts) = call_at inner name ts
primary_at inner (f.Keyword k.Case ∷ ts) = case_at inner ts
primary_at inner (f.Symbol s.OpenParen ∷ ts) = option_and_then (λ p. paren_after inner p.0 p.1) (inner ts)
primary_at inner ts = simple_at ts

unfoldable pub post_at : (Forms → FoundPart Expr) → Forms → FoundPart Expr
post_at inner ts = do
  first ← primary_at inner ts
  steps ← repeat post_turn (length first.1) [] first.1
  Some (post_of first.0 steps.0, steps.1)

-- a word with which a type begins
abbrev pub is_type_word : Keyword → Bool
is_type_word k.Tuple = true
is_type_word k.Bag = true
is_type_word k.Map = true
is_type_word word = is_some (scalar_of word)

-- a type that begins with a word
abbrev pub begins_type : Forms → Bool
begins_type (f.Keyword word ∷ ts) = is_type_word word
begins_type _ = false

unfoldable pub cast_at : ℕ → (Forms → FoundPart Expr) → Forms → FoundPart Expr
cast_at most inner ts = do
  type ← cast_type_with (type_at most) ts
  rest ← close_paren type.1
  a ← post_at inner rest
  Some (e.Cast type.0 a.0, a.1)

unfoldable pub casted_at : ℕ → (Forms → FoundPart Expr) → Forms → FoundPart Expr
casted_at most inner (f.Symbol s.OpenParen ∷ ts) = if begins_type ts then cast_at most inner ts else post_at inner (f.Symbol s.OpenParen ∷ ts)
casted_at most inner ts = post_at inner ts

unfoldable pub unary_at : ℕ → (Forms → FoundPart Expr) → Forms → FoundPart Expr
unary_at most inner (f.Symbol s.Minus ∷ ts) = option_map (λ p. (e.Minus p.0, p.1)) (casted_at most inner ts)
unary_at most inner ts = casted_at most inner ts

unfoldable pub term_at : ℕ → (Forms → FoundPart Expr) → Forms → FoundPart Expr
term_at most inner ts = chain_at term (unary_at most inner) ts

unfoldable pub sum_at : ℕ → (Forms → FoundPart Expr) → Forms → FoundPart Expr
sum_at most inner ts = chain_at sum (term_at most inner) ts

-- IS NULL or IS NOT NULL, and whether NOT stands in it
unfoldable pub null_test : Forms → Option (Bool × Forms)
null_test (f.Keyword k.Is ∷ f.Keyword k.Null ∷ ts) = Some (false, ts)
null_test (f.Keyword k.Is ∷ f.Keyword k.Not ∷ f.Keyword k.Null ∷ ts) = Some (true, ts)
null_test ts = None

-- a comparison's sign
unfoldable pub rel_ahead : Forms → Option (Rel × Forms)
rel_ahead [] = None
rel_ahead (t ∷ ts) = option_map (λ r. (r, ts)) (rel_of t)

-- the tokens behind IN and its `(`
unfoldable pub in_ahead : Forms → Option Forms
in_ahead (f.Keyword k.In ∷ f.Symbol s.OpenParen ∷ ts) = Some ts
in_ahead ts = None

-- the values behind IN and its `(`
unfoldable pub among_at : (Forms → FoundPart Expr) → Expr → Forms → FoundPart Expr
among_at inner a ts = do
  first ← inner ts
  others ← repeat (comma_turn inner) (length first.1) [] first.1
  rest ← close_paren others.1
  Some (is_among a first.0 others.0, rest)

-- what may follow the first operand of a comparison
unfoldable pub comparison_after : ℕ → (Forms → FoundPart Expr) → Expr → Forms → FoundPart Expr
comparison_after most inner a ts =
    option_map_or (λ n. Some (e.IsNull a n.0, n.1)) (null_test ts)
    (option_map_or (λ r. option_map (λ p. (e.Compare r.0 a p.0, p.1)) (sum_at most inner r.1)) (rel_ahead ts)
    (option_map_or (λ behind. among_at inner a behind) (in_ahead ts) (Some (a, ts))))

unfoldable pub comparison_at : ℕ → (Forms → FoundPart Expr) → Forms → FoundPart Expr
comparison_at most inner ts = option_and_then (λ p. comparison_after most inner p.0 p.1) (sum_at most inner ts)

unfoldable pub neg_at : ℕ → (Forms → FoundPart Expr) → Forms → FoundPart Expr
neg_at most inner (f.Keyword k.Not ∷ ts) = option_map (λ p. (e.Not p.0, p.1)) (comparison_at most inner ts)
neg_at most inner ts = comparison_at most inner ts

unfoldable pub and_chain_at : ℕ → (Forms → FoundPart Expr) → Forms → FoundPart Expr
and_chain_at most inner ts = chain_at and_chain (neg_at most inner) ts

unfoldable pub expr_with : ℕ → (Forms → FoundPart Expr) → Forms → FoundPart Expr
expr_with most inner ts = chain_at expr (and_chain_at most inner) ts

-- an expression whose brackets nest less deep than this
unfoldable pub expr_at : ℕ → ℕ → Forms → FoundPart Expr
expr_at most zero ts = None
expr_at most (suc depth) ts = expr_with most (expr_at most depth) ts
