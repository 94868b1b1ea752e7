-- With what an expression begins, and what would go on with one.
use Rattle.std.proofs.Common.{◌≡◌, ℕ, ◌<◌, ◌≤◌, refl, ◌∙◌, ap, subst, true, false, List, [], ◌∷◌, arith}
use Rattle.std.specs.Prelude.{Some, None, is_some}
use Rattle.std.specs.Option.{option_map, option_and_then, option_map_or}
use Rattle.pig_value.specs.declared.operators.ChainOp.{ChainOp}
use Rattle.pig_value.specs.declared.operators.Rel.{Rel}
use Rattle.pig_syntax.specs.declared.tokens.Keyword.{Keyword}
use Rattle.pig_syntax.specs.declared.tokens.Keyword.TheVariants as k
use Rattle.pig_syntax.specs.declared.tokens.Symbol.TheVariants as s
use Rattle.pig_syntax.specs.declared.tokens.TokenForm.{TokenForm}
use Rattle.pig_syntax.specs.declared.tokens.TokenForm.TheVariants as f
use Rattle.pig_syntax.specs.declared.trees.Expr.{Expr}
use Rattle.pig_syntax.specs.declared.trees.Expr.TheVariants as ex
use Rattle.pig_syntax.specs.declared.trees.FieldRef.{FieldRef}
use Rattle.pig_syntax.specs.declared.trees.Link.{Link}
use Rattle.pig_syntax.specs.declared.trees.PostStep.{PostStep}
use Rattle.pig_syntax.specs.declared.trees.TypeTree.{TypeTree}
use Rattle.pig_exprs.specs.Grammar.{Forms, part_of, scalar_of, part, parts, IsFieldRef, name as by_name, position as by_position, IsCastType, cast_scalar, cast_tuple, cast_bag, cast_map, Level, expr, and_chain, neg, comparison, sum, term, unary, casted, post, primary, rel_of, chain_op, token_literal, ArePostSteps, none, project, look, ReadsExpr, expr_one, expr_more, and_chain_one, and_chain_more, neg_none, neg_not, comparison_one, comparison_rel, comparison_null, comparison_not_null, sum_one, sum_more, term_one, term_more, unary_none, unary_minus, casted_none, casted_cast, post_one, post_more, primary_literal, primary_field, primary_call_none, primary_call, primary_paren, primary_choose, comparison_in, primary_case, primary_case_of, AreWhens, whens_none, whens_more, IsLast, last_none, last_else, Links, links_none, links_link, AreExprs, exprs_last, exprs_more}
use Rattle.pig_exprs.specs.Reader.{FoundPart, part_turn, listed, close_paren, field_ref_at}
use Rattle.pig_exprs.specs.ExprReader.{link_turn, post_turn, call_at, simple_at, when_turn, case_bare_at, case_of_at, case_at, primary_at, post_at, is_type_word, begins_type, cast_at, casted_at, unary_at, null_test, rel_ahead, in_ahead, comparison_at, neg_at}
use Rattle.pig_exprs.proofs.Fits.{Fits}

-- how tight a rule binds
abbrev pub rank : Level → ℕ
rank expr = 1
rank and_chain = 2
rank neg = 3
rank comparison = 4
rank sum = 5
rank term = 6
rank unary = 7
rank casted = 8
rank post = 9
rank primary = 10

pub rank_some : (l : Level) → 1 ≤ rank l
rank_some expr = omega arith
rank_some l = omega arith

pub rank_few : (l : Level) → rank l < 11
rank_few expr = omega arith
rank_few l = omega arith

-- ---- what would go on with an expression

-- the rank of the rule that would take the token behind one of its parts, 0 where none would
abbrev pub binds : TokenForm → ℕ
binds (f.Keyword k.Or) = 1
binds (f.Keyword k.And) = 2
binds (f.Keyword k.Is) = 4
binds (f.Keyword k.In) = 4
binds (f.Symbol s.Equal) = 4
binds (f.Symbol s.NotEqual) = 4
binds (f.Symbol s.Less) = 4
binds (f.Symbol s.LessEqual) = 4
binds (f.Symbol s.Greater) = 4
binds (f.Symbol s.GreaterEqual) = 4
binds (f.Symbol s.Plus) = 5
binds (f.Symbol s.Minus) = 5
binds (f.Symbol s.Star) = 6
binds (f.Symbol s.Slash) = 6
binds (f.Symbol s.Percent) = 6
binds (f.Symbol s.Dot) = 9
binds (f.Symbol s.Hash) = 9
binds (f.Symbol s.DoubleColon) = 10
binds (f.Symbol s.OpenParen) = 11
binds _ = 0

abbrev pub binds_ahead : Forms → ℕ
binds_ahead [] = 0
binds_ahead (t ∷ ts) = binds t

-- a token that goes on with an expression inside its brackets is no bracket
pub binder_fits : (t : TokenForm) (ts : Forms) (d : ℕ) → 1 ≤ binds t → binds t < 11 → Fits (t ∷ ts) d → Fits ts d
unfolding Fits
binder_fits (f.Symbol s.OpenParen) ts d some few fits = absurd (omega (arith, few))
binder_fits (f.Symbol s.OpenBrace) ts d some few fits = absurd (omega (arith, some))
binder_fits (f.Symbol s.OpenBracket) ts d some few fits = absurd (omega (arith, some))
binder_fits (f.Symbol s.CloseParen) ts d some few fits = absurd (omega (arith, some))
binder_fits (f.Symbol s.CloseBrace) ts d some few fits = absurd (omega (arith, some))
binder_fits (f.Symbol s.CloseBracket) ts d some few fits = absurd (omega (arith, some))
binder_fits (f.Keyword k.Case) ts d some few fits = absurd (omega (arith, some))
binder_fits (f.Keyword k.End) ts d some few fits = absurd (omega (arith, some))
binder_fits t ts d some few fits = fits

pub op_binds : (l : Level) (t : TokenForm) (o : ChainOp) → chain_op l t ≡ Some o → binds t ≡ rank l
op_binds expr (f.Keyword k.Or) o h = refl
op_binds and_chain (f.Keyword k.And) o h = refl
op_binds sum (f.Symbol s.Plus) o h = refl
op_binds sum (f.Symbol s.Minus) o h = refl
op_binds term (f.Symbol s.Star) o h = refl
op_binds term (f.Symbol s.Slash) o h = refl
op_binds term (f.Symbol s.Percent) o h = refl
op_binds l t o h = absurd (cc)

no_op : (l : Level) (t : TokenForm) → binds t < rank l → chain_op l t ≡ None
no_op expr (f.Keyword k.Or) h = absurd (omega (arith, h))
no_op and_chain (f.Keyword k.And) h = absurd (omega (arith, h))
no_op sum (f.Symbol s.Plus) h = absurd (omega (arith, h))
no_op sum (f.Symbol s.Minus) h = absurd (omega (arith, h))
no_op term (f.Symbol s.Star) h = absurd (omega (arith, h))
no_op term (f.Symbol s.Slash) h = absurd (omega (arith, h))
no_op term (f.Symbol s.Percent) h = absurd (omega (arith, h))
no_op l t h = refl

-- a chain goes no further
pub chain_stops : (l : Level) (member : Forms → FoundPart Expr) (ts : Forms) → binds_ahead ts < rank l → link_turn l member ts ≡ Some None
unfolding link_turn
chain_stops l member [] h = refl
chain_stops l member (t ∷ ts) h = rw (no_op l t h) refl

-- what stands behind the member of a chain is behind the chain or an operator of the chain
pub links_ahead : {chain member : Level} {ts rest : Forms} {ls : List Link} → Links chain member ts ls rest → binds_ahead rest < rank chain → binds_ahead ts ≤ rank chain
links_ahead links_none h = omega (arith, h)
links_ahead (links_link {chain = chain} {t = t} {o = o} is h later) ends = omega (arith, op_binds chain t o is)

pub rel_binds : (t : TokenForm) (r : Rel) → rel_of t ≡ Some r → binds t ≡ 4
rel_binds (f.Symbol s.Equal) r h = refl
rel_binds (f.Symbol s.NotEqual) r h = refl
rel_binds (f.Symbol s.Less) r h = refl
rel_binds (f.Symbol s.LessEqual) r h = refl
rel_binds (f.Symbol s.Greater) r h = refl
rel_binds (f.Symbol s.GreaterEqual) r h = refl
rel_binds t r h = absurd (cc)

-- a comparison's sign begins no test for null
pub rel_no_null : (t : TokenForm) (ts : Forms) (r : Rel) → rel_of t ≡ Some r → null_test (t ∷ ts) ≡ None
unfolding null_test
rel_no_null (f.Keyword k.Is) ts r h = absurd (cc)
rel_no_null t ts r h = refl

pub no_null : (ts : Forms) → binds_ahead ts < 4 → null_test ts ≡ None
unfolding null_test
no_null (f.Keyword k.Is ∷ ts) h = absurd (omega (arith, h))
no_null ts h = refl

pub no_rel : (ts : Forms) → binds_ahead ts < 4 → rel_ahead ts ≡ None
unfolding rel_ahead
no_rel (f.Symbol s.Equal ∷ ts) h = absurd (omega (arith, h))
no_rel (f.Symbol s.NotEqual ∷ ts) h = absurd (omega (arith, h))
no_rel (f.Symbol s.Less ∷ ts) h = absurd (omega (arith, h))
no_rel (f.Symbol s.LessEqual ∷ ts) h = absurd (omega (arith, h))
no_rel (f.Symbol s.Greater ∷ ts) h = absurd (omega (arith, h))
no_rel (f.Symbol s.GreaterEqual ∷ ts) h = absurd (omega (arith, h))
no_rel ts h = refl

pub no_in : (ts : Forms) → binds_ahead ts < 4 → in_ahead ts ≡ None
unfolding in_ahead
no_in (f.Keyword k.In ∷ ts) h = absurd (omega (arith, h))
no_in ts h = refl

pub post_stops : (ts : Forms) → binds_ahead ts < 9 → post_turn ts ≡ Some None
unfolding post_turn
post_stops (f.Symbol s.Dot ∷ ts) h = absurd (omega (arith, h))
post_stops (f.Symbol s.Hash ∷ ts) h = absurd (omega (arith, h))
post_stops ts h = refl

pub name_stops : (ts : Forms) → binds_ahead ts < 10 → part_turn ts ≡ Some None
unfolding part_turn
name_stops (f.Symbol s.DoubleColon ∷ ts) h = absurd (omega (arith, h))
name_stops ts h = refl

pub steps_ahead : {ts rest : Forms} {ps : List PostStep} → ArePostSteps ts ps rest → binds_ahead rest < 9 → binds_ahead ts < 10
steps_ahead none h = omega (arith, h)
steps_ahead (project h later) ends = omega arith
steps_ahead (look later) ends = omega arith

-- ---- with what an expression begins

-- the rank of the tightest rule that the token can begin, 0 where it begins none; more than that of the tightest rule for a literal, and
-- more still for a field
abbrev pub begins : TokenForm → ℕ
begins (f.Keyword k.Not) = 3
begins (f.Symbol s.Minus) = 7
begins (f.Symbol s.OpenParen) = 10
begins (f.Keyword k.Case) = 10
begins (f.Int n) = 11
begins (f.Long n) = 11
begins f.Float = 11
begins (f.Text text) = 11
begins (f.Keyword k.True) = 11
begins (f.Keyword k.False) = 11
begins (f.Keyword k.Null) = 11
begins (f.Ident text) = 12
begins (f.Keyword k.Group) = 12
begins (f.Keyword k.Cube) = 12
begins (f.Position n) = 12
begins _ = 0

abbrev pub begins_ahead : Forms → ℕ
begins_ahead [] = 0
begins_ahead (t ∷ ts) = begins t

part_begins : (t : TokenForm) (text : List ℕ) → part_of t ≡ Some text → begins t ≡ 12
part_begins (f.Ident name) text h = refl
part_begins (f.Keyword k.Group) text h = refl
part_begins (f.Keyword k.Cube) text h = refl
part_begins t text h = absurd (cc)

literal_begins : (t : TokenForm) (a : Expr) → token_literal t ≡ Some a → begins t ≡ 11
literal_begins (f.Int n) a h = refl
literal_begins (f.Long n) a h = refl
literal_begins f.Float a h = refl
literal_begins (f.Text text) a h = refl
literal_begins (f.Keyword k.True) a h = refl
literal_begins (f.Keyword k.False) a h = refl
literal_begins (f.Keyword k.Null) a h = refl
literal_begins t a h = absurd (cc)

pub literal_fits : (t : TokenForm) (ts : Forms) (a : Expr) (d : ℕ) → token_literal t ≡ Some a → Fits (t ∷ ts) d → Fits ts d
unfolding Fits
literal_fits (f.Int n) ts a d h fits = fits
literal_fits (f.Long n) ts a d h fits = fits
literal_fits f.Float ts a d h fits = fits
literal_fits (f.Text text) ts a d h fits = fits
literal_fits (f.Keyword k.True) ts a d h fits = fits
literal_fits (f.Keyword k.False) ts a d h fits = fits
literal_fits (f.Keyword k.Null) ts a d h fits = fits
literal_fits t ts a d h fits = absurd (cc)

pub field_begins : {ts rest : Forms} {r : FieldRef} → IsFieldRef ts r rest → begins_ahead ts ≡ 12
field_begins (by_name (part {t = t} {text = text} is)) = part_begins t text is
field_begins (by_name (parts {t = t} {text = text} is later)) = part_begins t text is
field_begins by_position = refl

pub reads_begin : {l : Level} {ts rest : Forms} {a : Expr} → ReadsExpr l ts a rest → rank l ≤ begins_ahead ts
reads_begin (expr_one h) = omega (arith, reads_begin h)
reads_begin (expr_more h links) = omega (arith, reads_begin h)
reads_begin (and_chain_one h) = omega (arith, reads_begin h)
reads_begin (and_chain_more h links) = omega (arith, reads_begin h)
reads_begin (neg_none h) = omega (arith, reads_begin h)
reads_begin (neg_not h) = omega arith
reads_begin (comparison_one h) = omega (arith, reads_begin h)
reads_begin (comparison_rel h is b) = omega (arith, reads_begin h)
reads_begin (comparison_null h) = omega (arith, reads_begin h)
reads_begin (comparison_not_null h) = omega (arith, reads_begin h)
reads_begin (comparison_in h values) = omega (arith, reads_begin h)
reads_begin (sum_one h) = omega (arith, reads_begin h)
reads_begin (sum_more h links) = omega (arith, reads_begin h)
reads_begin (term_one h) = omega (arith, reads_begin h)
reads_begin (term_more h links) = omega (arith, reads_begin h)
reads_begin (unary_none h) = omega (arith, reads_begin h)
reads_begin (unary_minus h) = omega arith
reads_begin (casted_none h) = omega (arith, reads_begin h)
reads_begin (casted_cast type h) = omega arith
reads_begin (post_one h) = omega (arith, reads_begin h)
reads_begin (post_more h steps) = omega (arith, reads_begin h)
reads_begin (primary_literal {t = t} {a = a} is) = omega (arith, literal_begins t a is)
reads_begin (primary_field h) = omega (arith, field_begins h)
reads_begin primary_call_none = omega arith
reads_begin (primary_call h) = omega arith
reads_begin (primary_paren h) = omega arith
reads_begin (primary_choose a b c) = omega arith
reads_begin (primary_case whens default) = omega arith
reads_begin (primary_case_of x whens default) = omega arith

exprs_begin : {ts rest : Forms} {args : List Expr} → AreExprs ts args rest → 1 ≤ begins_ahead ts
exprs_begin (exprs_last h) = reads_begin h
exprs_begin (exprs_more h later) = reads_begin h

-- ---- which rule a reader takes

pub neg_plain : (most : ℕ) (inner : Forms → FoundPart Expr) (ts : Forms) → 4 ≤ begins_ahead ts → neg_at most inner ts ≡ comparison_at most inner ts
unfolding neg_at
neg_plain most inner (f.Keyword k.Not ∷ ts) h = absurd (omega (arith, h))
neg_plain most inner ts h = refl

pub unary_plain : (most : ℕ) (inner : Forms → FoundPart Expr) (ts : Forms) → 8 ≤ begins_ahead ts → unary_at most inner ts ≡ casted_at most inner ts
unfolding unary_at
unary_plain most inner (f.Symbol s.Minus ∷ ts) h = absurd (omega (arith, h))
unary_plain most inner ts h = refl

-- no expression begins with a word of a type
pub no_type : (ts : Forms) → 1 ≤ begins_ahead ts → begins_type ts ≡ false
no_type [] h = refl
no_type (f.Keyword k.Not ∷ ts) h = refl
no_type (f.Keyword k.Group ∷ ts) h = refl
no_type (f.Keyword k.Cube ∷ ts) h = refl
no_type (f.Keyword k.Case ∷ ts) h = refl
no_type (f.Keyword k.True ∷ ts) h = refl
no_type (f.Keyword k.False ∷ ts) h = refl
no_type (f.Keyword k.Null ∷ ts) h = refl
no_type (f.Keyword word ∷ ts) h = absurd (omega (arith, h))
no_type (t ∷ ts) h = refl

primary_inside : {ts rest : Forms} {a : Expr} → ReadsExpr primary (f.Symbol s.OpenParen ∷ ts) a rest → 1 ≤ begins_ahead ts
primary_inside (primary_literal h) = absurd (cc)
primary_inside (primary_field h) = absurd (omega (arith, field_begins h))
primary_inside (primary_paren h) = reads_begin h
primary_inside (primary_choose a b c) = reads_begin a

post_inside : {ts rest : Forms} {a : Expr} → ReadsExpr post (f.Symbol s.OpenParen ∷ ts) a rest → begins_type ts ≡ false
post_inside {ts = ts} (post_one h) = no_type ts (primary_inside h)
post_inside {ts = ts} (post_more h steps) = no_type ts (primary_inside h)

casted_of_post : (most : ℕ) (inner : Forms → FoundPart Expr) (ts : Forms) → ((behind : Forms) → ts ≡ f.Symbol s.OpenParen ∷ behind → begins_type behind ≡ false) → casted_at most inner ts ≡ post_at inner ts
unfolding casted_at
casted_of_post most inner (f.Symbol s.OpenParen ∷ ts) h = rw (h ts refl) refl
casted_of_post most inner ts h = refl

pub casted_plain : (most : ℕ) (inner : Forms → FoundPart Expr) {ts rest : Forms} {a : Expr} → ReadsExpr post ts a rest → casted_at most inner ts ≡ post_at inner ts
casted_plain most inner {ts = ts} {rest = rest} {a = a} h = casted_of_post most inner ts (λ behind opens. post_inside (subst (λ v. ReadsExpr post v a rest) opens h))

scalar_word : (word : Keyword) (type : TypeTree) → scalar_of word ≡ Some type → is_type_word word ≡ true
scalar_word k.Tuple type h = refl
scalar_word k.Bag type h = refl
scalar_word k.Map type h = refl
scalar_word word type h = ap is_some h

cast_word : {ts rest : Forms} {type : TypeTree} → IsCastType ts type rest → begins_type ts ≡ true
cast_word (cast_scalar {word = word} {type = type} h) = scalar_word word type h
cast_word (cast_tuple h) = refl
cast_word (cast_bag h) = refl
cast_word (cast_map h) = refl

pub casted_cast_at : (most : ℕ) (inner : Forms → FoundPart Expr) {ts rest : Forms} {type : TypeTree} → IsCastType ts type rest → casted_at most inner (f.Symbol s.OpenParen ∷ ts) ≡ cast_at most inner ts
unfolding casted_at
casted_cast_at most inner h = rw (cast_word h) refl

pub primary_of_literal : (inner : Forms → FoundPart Expr) (t : TokenForm) (ts : Forms) (a : Expr) → token_literal t ≡ Some a → primary_at inner (t ∷ ts) ≡ Some (a, ts)
unfolding primary_at simple_at
primary_of_literal inner (f.Ident text) ts a h = absurd (cc)
primary_of_literal inner (f.Symbol s.OpenParen) ts a h = absurd (cc)
primary_of_literal inner (f.Keyword k.Case) ts a h = absurd (cc)
primary_of_literal inner t ts a h = ap (λ o. option_map_or (λ a. Some (a, ts)) o (option_map (λ p. (ex.Field p.0, p.1)) (field_ref_at (t ∷ ts)))) h

no_literal : (t : TokenForm) → begins t ≡ 12 → token_literal t ≡ None
no_literal (f.Int n) h = absurd (omega (arith, h))
no_literal (f.Long n) h = absurd (omega (arith, h))
no_literal f.Float h = absurd (omega (arith, h))
no_literal (f.Text text) h = absurd (omega (arith, h))
no_literal (f.Keyword k.True) h = absurd (omega (arith, h))
no_literal (f.Keyword k.False) h = absurd (omega (arith, h))
no_literal (f.Keyword k.Null) h = absurd (omega (arith, h))
no_literal t h = refl

simple_field : (t : TokenForm) (ts : Forms) → begins t ≡ 12 → simple_at (t ∷ ts) ≡ option_map (λ p. (ex.Field p.0, p.1)) (field_ref_at (t ∷ ts))
unfolding simple_at
simple_field t ts h = rw (no_literal t h) refl

primary_simple : (inner : Forms → FoundPart Expr) (t : TokenForm) (ts : Forms) → begins t ≡ 12 → binds_ahead ts < 11 → primary_at inner (t ∷ ts) ≡ simple_at (t ∷ ts)
unfolding primary_at
primary_simple inner (f.Ident text) (f.Symbol s.OpenParen ∷ ts) h ends = absurd (omega (arith, ends))
primary_simple inner (f.Symbol s.OpenParen) ts h ends = absurd (omega (arith, h))
primary_simple inner (f.Keyword k.Case) ts h ends = absurd (omega (arith, h))
primary_simple inner t ts h ends = refl

-- a field is no call
pub primary_of_field : (inner : Forms → FoundPart Expr) {ts rest : Forms} {r : FieldRef} → IsFieldRef ts r rest → binds_ahead rest < 11 → primary_at inner ts ≡ option_map (λ p. (ex.Field p.0, p.1)) (field_ref_at ts)
primary_of_field inner {rest = rest} (by_name (part {t = t} {text = text} is)) ends = primary_simple inner t rest (part_begins t text is) ends ∙ simple_field t rest (part_begins t text is)
primary_of_field inner (by_name (parts {t = t} {ts = ts} {text = text} is later)) ends =
    primary_simple inner t (f.Symbol s.DoubleColon ∷ ts) (part_begins t text is) (omega arith) ∙ simple_field t (f.Symbol s.DoubleColon ∷ ts) (part_begins t text is)
primary_of_field inner {rest = rest} (by_position {n = n}) ends = primary_simple inner (f.Position n) rest refl ends ∙ simple_field (f.Position n) rest refl

call_plain : (inner : Forms → FoundPart Expr) (text : List ℕ) (ts : Forms) → 1 ≤ begins_ahead ts
    → call_at inner text ts ≡ option_and_then (λ args. option_and_then (λ rest. Some (ex.Call text args.0, rest)) (close_paren args.1)) (listed inner ts)
unfolding call_at
call_plain inner text (f.Symbol s.CloseParen ∷ ts) h = absurd (omega (arith, h))
call_plain inner text ts h = refl

-- a call with arguments
pub call_args : (inner : Forms → FoundPart Expr) (text : List ℕ) {ts rest : Forms} {args : List Expr} → AreExprs ts args rest
    → call_at inner text ts ≡ option_and_then (λ args. option_and_then (λ rest. Some (ex.Call text args.0, rest)) (close_paren args.1)) (listed inner ts)
call_args inner text {ts = ts} h = call_plain inner text ts (exprs_begin h)

-- ---- CASE

-- what stands behind the last WHEN goes on neither with it nor with the WHENs
pub last_ahead : {ts rest : Forms} {a : Expr} → IsLast ts a rest → binds_ahead ts < 1
last_ahead last_none = omega arith
last_ahead (last_else h) = omega arith

pub last_ends : (inner : Forms → FoundPart Expr) {ts rest : Forms} {a : Expr} → IsLast ts a rest → when_turn inner ts ≡ Some None
unfolding when_turn
last_ends inner last_none = refl
last_ends inner (last_else h) = refl

pub whens_ahead : {ts rest : Forms} {ws : List (Expr × Expr)} → AreWhens ts ws rest → binds_ahead rest < 1 → binds_ahead ts < 1
whens_ahead whens_none ends = ends
whens_ahead (whens_more c a more) ends = omega arith

-- a WHEN behind CASE is none of an operand
pub case_bare : (inner : Forms → FoundPart Expr) {ts rest : Forms} {w : Expr × Expr} {ws : List (Expr × Expr)} → AreWhens ts (w ∷ ws) rest → case_at inner ts ≡ case_bare_at inner ts
unfolding case_at
case_bare inner (whens_more c a more) = refl

pub case_of : (inner : Forms → FoundPart Expr) (ts : Forms) → 1 ≤ begins_ahead ts → case_at inner ts ≡ case_of_at inner ts
unfolding case_at
case_of inner (f.Keyword k.When ∷ ts) h = absurd (omega (arith, h))
case_of inner ts h = refl
