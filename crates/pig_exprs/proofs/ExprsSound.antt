-- What is read as an expression, at any depth of brackets, stands by its rule.
use Rattle.std.proofs.Common.{ℕ, zero, suc, List, [], ◌∷◌, length}
use Rattle.pig_syntax.specs.declared.tokens.Keyword.TheVariants as k
use Rattle.pig_syntax.specs.declared.tokens.Symbol.TheVariants as s
use Rattle.pig_syntax.specs.declared.tokens.TokenForm.TheVariants as f
use Rattle.pig_syntax.specs.declared.trees.Expr.{Expr}
use Rattle.pig_syntax.specs.declared.trees.Expr.TheVariants as e
use Rattle.pig_syntax.specs.declared.trees.Link.{Link}
use Rattle.pig_syntax.specs.declared.trees.PostStep.{PostStep}
use Rattle.pig_exprs.specs.Grammar.{Forms, Listed, Level, expr, and_chain, neg, comparison, sum, term, unary, casted, post, primary, chain_op, rel_of, token_literal, chain_of, IsCastType, ArePostSteps, ReadsExpr, Links, AreExprs, AreWhens, IsLast}
use Rattle.pig_exprs.specs.Reader.{FoundPart, comma_turn, type_at}
use Rattle.pig_exprs.specs.ExprReader.{link_turn, chain_at, post_turn, post_of, both_at, paren_after, call_at, simple_at, when_at, when_turn, first_when, last_at, cases_at, case_bare_at, case_of_at, case_at, primary_at, post_at, begins_type, cast_at, casted_at, unary_at, term_at, sum_at, null_test, rel_ahead, in_ahead, among_at, comparison_after, comparison_at, neg_at, and_chain_at, expr_with, expr_at}
use Rattle.pig_exprs.proofs.Options.{Holds, itself, holds_then, holds_map, holds_map_or, holds_weaken, holds_if}
use Rattle.pig_exprs.proofs.ListSound.{Upholds, Leads, TurnsLead, GoesOn, comma_leads, repeat_runs, listed_upholds, symbol_stands, word_stands}
use Rattle.pig_exprs.proofs.NamesSound.{field_ref_upholds, selection_upholds}
use Rattle.pig_exprs.proofs.TypesSound.{cast_type_upholds, type_upholds}

-- a list of expressions
pub are_exprs : {ts rest : Forms} {xs : List Expr} → Listed (ReadsExpr expr) ts xs rest → AreExprs ts xs rest
are_exprs (Listed.last a) = AreExprs.exprs_last a
are_exprs (Listed.more a others) = AreExprs.exprs_more a (are_exprs others)

-- ---- chains

-- a chain's rules: one member, and a member with links
pub record Chains (chain member : Level) : Type 0 where
  pub one : (ts : Forms) (a : Expr) (rest : Forms) → ReadsExpr member ts a rest → ReadsExpr chain ts a rest
  pub more : (ts mid : Forms) (a : Expr) (l : Link) (ls : List Link) (rest : Forms) → ReadsExpr member ts a mid → Links chain member mid (l ∷ ls) rest → ReadsExpr chain ts (e.Chain a (l ∷ ls)) rest

links_lead : (chain member : Level) (reader : Forms → FoundPart Expr) → Upholds reader (ReadsExpr member) → TurnsLead (link_turn chain reader) (Links chain member)
unfolding link_turn
links_lead chain member reader upholds [] = Holds.just Holds.nothing
links_lead chain member reader upholds (t ∷ ts) =
    holds_map_or _ (itself (chain_op chain t))
    (λ o is_op. holds_map _ (upholds ts) (λ p a. Holds.just (λ others rest more. Links.links_link is_op a more)))
    (Holds.just Holds.nothing)

chain_of_links : {chain member : Level} → Chains chain member → {ts mid rest : Forms} {a : Expr} (links : List Link) → ReadsExpr member ts a mid → Links chain member mid links rest → ReadsExpr chain ts (chain_of a links) rest
unfolding chain_of
chain_of_links rules {ts} {a = a} [] first Links.links_none = rules.one ts a _ first
chain_of_links rules {ts} {mid} {rest} {a} (l ∷ ls) first links = rules.more ts mid a l ls rest first links

chain_upholds : (chain member : Level) (reader : Forms → FoundPart Expr) → Chains chain member → Upholds reader (ReadsExpr member) → Upholds (chain_at chain reader) (ReadsExpr chain)
unfolding chain_at
chain_upholds chain member reader rules upholds ts =
    holds_then _ (upholds ts) (λ first a.
    holds_then _ (repeat_runs (link_turn chain reader) (Links chain member) (λ mid. Links.links_none) (links_lead chain member reader upholds) (length first.1) first.1) (λ links ls.
    Holds.just (chain_of_links rules links.0 a ls)))

-- ---- what follows a primary

steps_lead : TurnsLead post_turn ArePostSteps
unfolding post_turn
steps_lead (f.Symbol s.Dot ∷ ts) = holds_map _ (selection_upholds ts) (λ p is_selection. Holds.just (λ others rest more. ArePostSteps.project is_selection more))
steps_lead (f.Symbol s.Hash ∷ f.Text key ∷ ts) = Holds.just (Holds.just (λ others rest more. ArePostSteps.look more))
steps_lead ts = Holds.just Holds.nothing

post_of_steps : {ts mid rest : Forms} {a : Expr} (steps : List PostStep) → ReadsExpr primary ts a mid → ArePostSteps mid steps rest → ReadsExpr post ts (post_of a steps) rest
unfolding post_of
post_of_steps [] first ArePostSteps.none = ReadsExpr.post_one first
post_of_steps (p ∷ ps) first steps = ReadsExpr.post_more first steps

-- ---- simple operands

simple_upholds : Upholds simple_at (ReadsExpr primary)
unfolding simple_at
simple_upholds [] = Holds.nothing
simple_upholds (t ∷ ts) =
    holds_map_or _ (itself (token_literal t)) (λ a is_literal. Holds.just (ReadsExpr.primary_literal is_literal))
    (holds_map _ (field_ref_upholds (t ∷ ts)) (λ p field. ReadsExpr.primary_field field))

-- what stands in front of IS NULL or IS NOT NULL
null_stands : {start : Forms} {a : Expr} (ts : Forms) → ReadsExpr sum start a ts → Holds (λ n. ReadsExpr comparison start (e.IsNull a n.0) n.1) (null_test ts)
unfolding null_test
null_stands (f.Keyword k.Is ∷ f.Keyword k.Null ∷ ts) first = Holds.just (ReadsExpr.comparison_null first)
null_stands (f.Keyword k.Is ∷ f.Keyword k.Not ∷ f.Keyword k.Null ∷ ts) first = Holds.just (ReadsExpr.comparison_not_null first)
null_stands ts first = Holds.nothing

-- what stands in front of a comparison's sign
rel_stands : {start : Forms} {a : Expr} (ts : Forms) → ReadsExpr sum start a ts
    → Holds (λ r. (b : Expr) (rest : Forms) → ReadsExpr sum r.1 b rest → ReadsExpr comparison start (e.Compare r.0 a b) rest) (rel_ahead ts)
unfolding rel_ahead
rel_stands [] first = Holds.nothing
rel_stands (t ∷ ts) first = holds_map _ (itself (rel_of t)) (λ r is_rel b rest second. ReadsExpr.comparison_rel first is_rel second)

-- what stands in front of IN and its `(`
in_stands : (P : Forms → Type 0) (ts : Forms) → P ts → Holds (λ rest. P (f.Keyword k.In ∷ f.Symbol s.OpenParen ∷ rest)) (in_ahead ts)
unfolding in_ahead
in_stands P (f.Keyword k.In ∷ f.Symbol s.OpenParen ∷ ts) p = Holds.just p
in_stands P ts p = Holds.nothing

-- the WHENs of a CASE, and what stands behind them
record AreCases (ts : Forms) (whens : List (Expr × Expr)) (last : Expr) (rest : Forms) : Type 0 where
  mid : Forms
  whens_are : AreWhens ts whens mid
  last_is : IsLast mid last rest

-- by the expressions inside brackets
module _ (most : ℕ) (inner : Forms → FoundPart Expr) (inside : Upholds inner (ReadsExpr expr)) where
  both_stand : (ts : Forms)
      → Holds (λ q. (start : Forms) (a : Expr) → ReadsExpr expr start a (f.Symbol s.Question ∷ ts) → ReadsExpr primary (f.Symbol s.OpenParen ∷ start) (e.Choose a q.0.0 q.0.1) q.1) (both_at inner ts)
  unfolding both_at
  both_stand ts =
      holds_then _ (inside ts) (λ left b.
      holds_then _ (symbol_stands s.Colon (ReadsExpr expr ts left.0) left.1 b) (λ behind b.
      holds_then _ (inside behind) (λ right c.
      holds_then _ (symbol_stands s.CloseParen (ReadsExpr expr behind right.0) right.1 c) (λ rest c.
      Holds.just (λ start a first. ReadsExpr.primary_choose first b c)))))

  paren_stands : (start : Forms) (a : Expr) (ts : Forms) → ReadsExpr expr start a ts → Holds (λ p. ReadsExpr primary (f.Symbol s.OpenParen ∷ start) p.0 p.1) (paren_after inner a ts)
  unfolding paren_after
  paren_stands start a (f.Symbol s.CloseParen ∷ ts) first = Holds.just (ReadsExpr.primary_paren first)
  paren_stands start a (f.Symbol s.Question ∷ ts) first = holds_then _ (both_stand ts) (λ both choose. Holds.just (choose start a first))
  paren_stands start a _ first = Holds.nothing

  call_stands : (name : List ℕ) (ts : Forms) → Holds (λ p. ReadsExpr primary (f.Ident name ∷ f.Symbol s.OpenParen ∷ ts) p.0 p.1) (call_at inner name ts)
  unfolding call_at
  call_stands name (f.Symbol s.CloseParen ∷ ts) = Holds.just ReadsExpr.primary_call_none
  call_stands name ts =
      holds_then _ (listed_upholds inner (ReadsExpr expr) inside ts) (λ args l.
      holds_then _ (symbol_stands s.CloseParen (Listed (ReadsExpr expr) ts args.0) args.1 l) (λ rest l. Holds.just (ReadsExpr.primary_call (are_exprs l))))

  when_stands : (ts : Forms) → Holds (Leads AreWhens (f.Keyword k.When ∷ ts)) (when_at inner ts)
  unfolding when_at
  when_stands ts =
      holds_then _ (inside ts) (λ test c.
      holds_then _ (word_stands k.Then (ReadsExpr expr ts test.0) test.1 c) (λ behind c.
      holds_then _ (inside behind) (λ value a.
      Holds.just (λ others rest more. AreWhens.whens_more c a more))))

  whens_lead : TurnsLead (when_turn inner) AreWhens
  unfolding when_turn
  whens_lead (f.Keyword k.When ∷ ts) = holds_map _ (when_stands ts) (λ p leads. Holds.just leads)
  whens_lead ts = Holds.just Holds.nothing

  first_stands : (ts : Forms) → Holds (Leads AreWhens ts) (first_when inner ts)
  unfolding first_when
  first_stands (f.Keyword k.When ∷ ts) = when_stands ts
  first_stands _ = Holds.nothing

  last_upholds : Upholds (last_at inner) IsLast
  unfolding last_at
  last_upholds (f.Keyword k.End ∷ ts) = Holds.just IsLast.last_none
  last_upholds (f.Keyword k.Else ∷ ts) =
      holds_then _ (inside ts) (λ a is_else.
      holds_then _ (word_stands k.End (ReadsExpr expr ts a.0) a.1 is_else) (λ rest is_else. Holds.just (IsLast.last_else is_else)))
  last_upholds _ = Holds.nothing

  cases_stand : (ts : Forms) → Holds (λ p. AreCases ts (p.0.0.0 ∷ p.0.0.1) p.0.1 p.1) (cases_at inner ts)
  unfolding cases_at
  cases_stand ts =
      holds_then _ (first_stands ts) (λ first leads.
      holds_then _ (repeat_runs (when_turn inner) AreWhens (λ mid. AreWhens.whens_none) whens_lead (length first.1) first.1) (λ others ws.
      holds_then _ (last_upholds others.1) (λ last is_last.
      Holds.just (record { mid = others.1; whens_are = leads others.0 others.1 ws; last_is = is_last }))))

  case_bare_stands : (ts : Forms) → Holds (λ p. ReadsExpr primary (f.Keyword k.Case ∷ ts) p.0 p.1) (case_bare_at inner ts)
  unfolding case_bare_at
  case_bare_stands ts = holds_then _ (cases_stand ts) (λ p cases. Holds.just (ReadsExpr.primary_case cases.whens_are cases.last_is))

  case_of_stands : (ts : Forms) → Holds (λ p. ReadsExpr primary (f.Keyword k.Case ∷ ts) p.0 p.1) (case_of_at inner ts)
  unfolding case_of_at
  case_of_stands ts =
      holds_then _ (inside ts) (λ x operand.
      holds_then _ (cases_stand x.1) (λ p cases. Holds.just (ReadsExpr.primary_case_of operand cases.whens_are cases.last_is)))

  case_stands : (ts : Forms) → Holds (λ p. ReadsExpr primary (f.Keyword k.Case ∷ ts) p.0 p.1) (case_at inner ts)
  unfolding case_at
  case_stands (f.Keyword k.When ∷ ts) = case_bare_stands (f.Keyword k.When ∷ ts)
  case_stands ts = case_of_stands ts

  primary_upholds : Upholds (primary_at inner) (ReadsExpr primary)
  unfolding primary_at
  primary_upholds (f.Ident name ∷ f.Symbol s.OpenParen ∷ ts) = call_stands name ts
  primary_upholds (f.Keyword k.Case ∷ ts) = case_stands ts
  primary_upholds (f.Symbol s.OpenParen ∷ ts) = holds_then _ (inside ts) (λ p a. paren_stands ts p.0 p.1 a)
  primary_upholds ts = simple_upholds ts

  post_upholds : Upholds (post_at inner) (ReadsExpr post)
  unfolding post_at
  post_upholds ts =
      holds_then _ (primary_upholds ts) (λ first a.
      holds_then _ (repeat_runs post_turn ArePostSteps (λ mid. ArePostSteps.none) steps_lead (length first.1) first.1) (λ steps more.
      Holds.just (post_of_steps steps.0 a more)))

  cast_stands : (ts : Forms) → Holds (λ p. ReadsExpr casted (f.Symbol s.OpenParen ∷ ts) p.0 p.1) (cast_at most inner ts)
  unfolding cast_at
  cast_stands ts =
      holds_then _ (cast_type_upholds (type_at most) (type_upholds most) ts) (λ type is_type.
      holds_then _ (symbol_stands s.CloseParen (IsCastType ts type.0) type.1 is_type) (λ rest is_type.
      holds_then _ (post_upholds rest) (λ a is_post.
      Holds.just (ReadsExpr.casted_cast is_type is_post))))

  casted_upholds : Upholds (casted_at most inner) (ReadsExpr casted)
  unfolding casted_at
  casted_upholds (f.Symbol s.OpenParen ∷ ts) =
      holds_if (begins_type ts) (λ begins. cast_stands ts) (λ begins. holds_weaken (post_upholds (f.Symbol s.OpenParen ∷ ts)) (λ p a. ReadsExpr.casted_none a))
  casted_upholds ts = holds_weaken (post_upholds ts) (λ p a. ReadsExpr.casted_none a)

  unary_upholds : Upholds (unary_at most inner) (ReadsExpr unary)
  unfolding unary_at
  unary_upholds (f.Symbol s.Minus ∷ ts) = holds_map _ (casted_upholds ts) (λ p a. ReadsExpr.unary_minus a)
  unary_upholds ts = holds_weaken (casted_upholds ts) (λ p a. ReadsExpr.unary_none a)

  term_upholds : Upholds (term_at most inner) (ReadsExpr term)
  unfolding term_at
  term_upholds ts =
      chain_upholds term unary (unary_at most inner)
      (record { one = λ ts a rest first. ReadsExpr.term_one first; more = λ ts mid a l ls rest first links. ReadsExpr.term_more first links })
      unary_upholds ts

  sum_upholds : Upholds (sum_at most inner) (ReadsExpr sum)
  unfolding sum_at
  sum_upholds ts =
      chain_upholds sum term (term_at most inner)
      (record { one = λ ts a rest first. ReadsExpr.sum_one first; more = λ ts mid a l ls rest first links. ReadsExpr.sum_more first links })
      term_upholds ts

  among_stands : (start : Forms) (a : Expr) (ts : Forms) → ReadsExpr sum start a (f.Keyword k.In ∷ f.Symbol s.OpenParen ∷ ts) → Holds (λ p. ReadsExpr comparison start p.0 p.1) (among_at inner a ts)
  unfolding among_at
  among_stands start a ts operand =
      holds_then _ (inside ts) (λ first v.
      holds_then _ (repeat_runs (comma_turn inner) (GoesOn (ReadsExpr expr)) (λ mid before b r. Listed.last r) (comma_leads inner (ReadsExpr expr) inside) (length first.1) first.1) (λ others goes.
      holds_then _ (symbol_stands s.CloseParen (Listed (ReadsExpr expr) ts (first.0 ∷ others.0)) others.1 (goes ts first.0 v)) (λ rest l.
      Holds.just (ReadsExpr.comparison_in operand (are_exprs l)))))

  comparison_stands : (start : Forms) (a : Expr) (ts : Forms) → ReadsExpr sum start a ts → Holds (λ p. ReadsExpr comparison start p.0 p.1) (comparison_after most inner a ts)
  unfolding comparison_after
  comparison_stands start a ts first =
      holds_map_or _ (null_stands ts first) (λ n test. Holds.just test)
      (holds_map_or _ (rel_stands ts first) (λ r compare. holds_map _ (sum_upholds r.1) (λ p b. compare p.0 p.1 b))
      (holds_map_or _ (in_stands (ReadsExpr sum start a) ts first) (λ behind operand. among_stands start a behind operand) (Holds.just (ReadsExpr.comparison_one first))))

  comparison_upholds : Upholds (comparison_at most inner) (ReadsExpr comparison)
  unfolding comparison_at
  comparison_upholds ts = holds_then _ (sum_upholds ts) (λ p a. comparison_stands ts p.0 p.1 a)

  neg_upholds : Upholds (neg_at most inner) (ReadsExpr neg)
  unfolding neg_at
  neg_upholds (f.Keyword k.Not ∷ ts) = holds_map _ (comparison_upholds ts) (λ p a. ReadsExpr.neg_not a)
  neg_upholds ts = holds_weaken (comparison_upholds ts) (λ p a. ReadsExpr.neg_none a)

  and_chain_upholds : Upholds (and_chain_at most inner) (ReadsExpr and_chain)
  unfolding and_chain_at
  and_chain_upholds ts =
      chain_upholds and_chain neg (neg_at most inner)
      (record { one = λ ts a rest first. ReadsExpr.and_chain_one first; more = λ ts mid a l ls rest first links. ReadsExpr.and_chain_more first links })
      neg_upholds ts

  expr_with_upholds : Upholds (expr_with most inner) (ReadsExpr expr)
  unfolding expr_with
  expr_with_upholds ts =
      chain_upholds expr and_chain (and_chain_at most inner)
      (record { one = λ ts a rest first. ReadsExpr.expr_one first; more = λ ts mid a l ls rest first links. ReadsExpr.expr_more first links })
      and_chain_upholds ts

pub expr_upholds : (most depth : ℕ) → Upholds (expr_at most depth) (ReadsExpr expr)
unfolding expr_at
expr_upholds most zero ts = Holds.nothing
expr_upholds most (suc depth) ts = expr_with_upholds most (expr_at most depth) (expr_upholds most depth) ts
