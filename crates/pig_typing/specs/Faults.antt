-- Why an expression has no typing: the condition of each kind of refusal, of the expression itself or of one inside it. Where two
-- hold, either may be answered.
use Rattle.std.specs.Prelude.{◌≡◌, ℕ, Bool, true, false, List, Some, None}
use Rattle.std.specs.declared.result.Result.TheVariants.{Err}
use Rattle.pig_value.specs.Casts.{may_cast}
use Rattle.pig_value.specs.Functions.{function_named}
use Rattle.pig_value.specs.Trees.{KindTree}
use Rattle.pig_value.specs.declared.functions.Function.{Function}
use Rattle.pig_value.specs.declared.operators.ChainOp.{ChainOp}
use Rattle.pig_value.specs.declared.operators.Rel.{Rel}
use Rattle.pig_schema.specs.FieldTrees.{FieldTree, tree_kind}
use Rattle.pig_syntax.specs.ExprTrees.{ExprForm, LinkForms, ExprForms, e_float, e_field, e_chain, e_compare, e_is_null, e_not, e_minus, e_cast, e_post, e_call, e_choose, more_links, more_exprs, type_form}
use Rattle.pig_syntax.specs.declared.trees.FieldRef.TheVariants as ref
use Rattle.pig_syntax.specs.declared.trees.PostStep.{PostStep}
use Rattle.pig_syntax.specs.declared.trees.TypeTree.{TypeTree}
use Rattle.pig_typed.specs.ExprKinds.{minus_kind}
use Rattle.pig_typing.specs.declared.faults.CheckKind.{CheckKind}
use Rattle.pig_typing.specs.declared.faults.CheckKind.TheVariants as kind
use Rattle.pig_typing.specs.Calls.{average, allows}
use Rattle.pig_typing.specs.Columns.{RefersToNone, Place, latest}
use Rattle.pig_typing.specs.Joins.{Join, alike, chained, compared, condition}
use Rattle.pig_typing.specs.Limits.{limited}
use Rattle.pig_typing.specs.Parts.{Typing, typed_of, kind_in, WalksNot}
use Rattle.pig_typing.specs.Typing.{Types, Args, ChainSoFar, begun, after, call_kind, count}
use Rattle.pig_typing.specs.Written.{written}

-- the links of a chain behind the part so far: one of them takes no such operands
pub data LinksWrong (s : Place) : ChainSoFar → LinkForms → Type 0 where
  here : {so_far : ChainSoFar} {o : ChainOp} {a : ExprForm} {ls : LinkForms} {p : Typing}
      → Types s a p → chained o so_far.kind (kind_in p) ≡ None → LinksWrong s so_far (more_links o a ls)
  later : {so_far : ChainSoFar} {o : ChainOp} {a : ExprForm} {ls : LinkForms} {p : Typing} {j : Join}
      → Types s a p → chained o so_far.kind (kind_in p) ≡ Some j → LinksWrong s (after so_far o j (typed_of p)) ls → LinksWrong s so_far (more_links o a ls)

-- what is wrong with the expression itself
pub data Wrong (s : Place) : ExprForm → CheckKind → Type 0 where
  -- a number with a point, a type of such numbers or of dates, the function AVG
  wrong_float : Wrong s e_float kind.FloatType
  wrong_type : {to : TypeTree} {a : ExprForm} → written (type_form to) ≡ None → Wrong s (e_cast to a) kind.FloatType
  wrong_average : {name : List ℕ} {args : ExprForms} → name ≡ average → Wrong s (e_call name args) kind.FloatType
  -- a name that fits no field or is ambiguous, a position that is too great
  wrong_name : {name : List ℕ} {f : CheckKind} → latest name s.locals ≡ None → RefersToNone s.columns (ref.Name name) f → Wrong s (e_field (ref.Name name)) f
  wrong_position : {n : ℕ} {f : CheckKind} → RefersToNone s.columns (ref.Position n) f → Wrong s (e_field (ref.Position n)) f
  -- an operator on other kinds
  wrong_chain : {a : ExprForm} {ls : LinkForms} {p : Typing} → Types s a p → LinksWrong s (begun p) ls → Wrong s (e_chain a ls) kind.TypeMismatch
  wrong_compare : {r : Rel} {a b : ExprForm} {p q : Typing}
      → Types s a p → Types s b q → compared r (kind_in p) (kind_in q) ≡ None → Wrong s (e_compare r a b) kind.TypeMismatch
  wrong_not : {a : ExprForm} {p : Typing} → Types s a p → condition (kind_in p) ≡ None → Wrong s (e_not a) kind.TypeMismatch
  wrong_minus : {a : ExprForm} {p : Typing} → Types s a p → minus_kind (kind_in p) ≡ None → Wrong s (e_minus a) kind.TypeMismatch
  wrong_condition : {a b c : ExprForm} {p : Typing} → Types s a p → condition (kind_in p) ≡ None → Wrong s (e_choose a b c) kind.TypeMismatch
  wrong_choice : {a b c : ExprForm} {p q : Typing}
      → Types s b p → Types s c q → alike (kind_in p) (kind_in q) ≡ None → Wrong s (e_choose a b c) kind.TypeMismatch
  -- a refused cast, and a written type past the limits
  wrong_cast : {to : TypeTree} {a : ExprForm} {p : Typing} {d : FieldTree}
      → written (type_form to) ≡ Some d → Types s a p → may_cast (kind_in p) (tree_kind d) ≡ false → Wrong s (e_cast to a) kind.TypeMismatch
  wrong_size : {to : TypeTree} {a : ExprForm} {d : FieldTree} {f : CheckKind} → written (type_form to) ≡ Some d → limited (tree_kind d) ≡ Err f → Wrong s (e_cast to a) f
  -- a projection or a look-up
  wrong_step : {a : ExprForm} {steps : List PostStep} {p : Typing} {f : CheckKind} → Types s a p → WalksNot p steps f → Wrong s (e_post a steps) f
  -- a function that there is not, another number of arguments, arguments of other kinds, and what is given past the limits
  wrong_function : {name : List ℕ} {args : ExprForms} → function_named name ≡ None → (name ≡ average → ⊥) → Wrong s (e_call name args) kind.UnknownFunction
  wrong_count : {name : List ℕ} {args : ExprForms} {g : Function} → function_named name ≡ Some g → allows g (count args) ≡ false → Wrong s (e_call name args) kind.WrongArguments
  wrong_args : {name : List ℕ} {args : ExprForms} {g : Function} {ps : List Typing}
      → function_named name ≡ Some g → allows g (count args) ≡ true → Args s args ps → call_kind g ps ≡ None → Wrong s (e_call name args) kind.TypeMismatch
  wrong_given : {name : List ℕ} {args : ExprForms} {g : Function} {ps : List Typing} {k : KindTree} {f : CheckKind}
      → function_named name ≡ Some g → Args s args ps → call_kind g ps ≡ Some k → limited k ≡ Err f → Wrong s (e_call name args) f

-- ---- the expressions inside an expression

pub data InLinks : ExprForm → LinkForms → Type 0 where
  in_link : {a : ExprForm} {o : ChainOp} {ls : LinkForms} → InLinks a (more_links o a ls)
  in_later : {a b : ExprForm} {o : ChainOp} {ls : LinkForms} → InLinks a ls → InLinks a (more_links o b ls)

pub data InArgs : ExprForm → ExprForms → Type 0 where
  in_arg : {a : ExprForm} {others : ExprForms} → InArgs a (more_exprs a others)
  in_others : {a b : ExprForm} {others : ExprForms} → InArgs a others → InArgs a (more_exprs b others)

pub data Operand : ExprForm → ExprForm → Type 0 where
  of_first : {a : ExprForm} {ls : LinkForms} → Operand a (e_chain a ls)
  of_link : {a b : ExprForm} {ls : LinkForms} → InLinks b ls → Operand b (e_chain a ls)
  of_left : {r : Rel} {a b : ExprForm} → Operand a (e_compare r a b)
  of_right : {r : Rel} {a b : ExprForm} → Operand b (e_compare r a b)
  of_is_null : {a : ExprForm} {negated : Bool} → Operand a (e_is_null a negated)
  of_not : {a : ExprForm} → Operand a (e_not a)
  of_minus : {a : ExprForm} → Operand a (e_minus a)
  of_cast : {to : TypeTree} {a : ExprForm} → Operand a (e_cast to a)
  of_post : {a : ExprForm} {steps : List PostStep} → Operand a (e_post a steps)
  of_arg : {name : List ℕ} {a : ExprForm} {args : ExprForms} → InArgs a args → Operand a (e_call name args)
  of_condition : {a b c : ExprForm} → Operand a (e_choose a b c)
  of_yes : {a b c : ExprForm} → Operand b (e_choose a b c)
  of_no : {a b c : ExprForm} → Operand c (e_choose a b c)

-- the condition of a kind of refusal holds of the expression, or of one inside it
pub data Faults (s : Place) : ExprForm → CheckKind → Type 0 where
  own : {a : ExprForm} {f : CheckKind} → Wrong s a f → Faults s a f
  inside : {a b : ExprForm} {f : CheckKind} → Operand b a → Faults s b f → Faults s a f
