-- Trees as the grammar gives them, said of the trees alone: no text holds an LF; a selection is a projection; a projection has a field,
-- and one alone where it is single; the links of a chain come from one rule; and lists are as long as their rule makes them.
use Rattle.std.specs.Prelude.{◌≡◌, ◌≤◌, ℕ, Bool, true, List, [], ◌∷◌, length, map, Option, Some, None, All, IfSome, IsTrue}
use Rattle.pig_value.specs.declared.operators.ChainOp.{ChainOp}
use Rattle.pig_value.specs.declared.operators.ChainOp.TheVariants as op
use Rattle.pig_value.specs.Texts.{HasNoLf}
use Rattle.pig_syntax.specs.declared.trees.AsNames.{AsNames}
use Rattle.pig_syntax.specs.declared.trees.AsNames.TheVariants as named
use Rattle.pig_syntax.specs.declared.trees.BagRef.{BagRef}
use Rattle.pig_syntax.specs.declared.trees.Branch.{Branch}
use Rattle.pig_syntax.specs.declared.trees.Expr.{Expr}
use Rattle.pig_syntax.specs.declared.trees.FieldRef.{FieldRef}
use Rattle.pig_syntax.specs.declared.trees.FieldRef.TheVariants as ref
use Rattle.pig_syntax.specs.declared.trees.FieldTree.{FieldTree}
use Rattle.pig_syntax.specs.declared.trees.Func.{Func}
use Rattle.pig_syntax.specs.declared.trees.GroupInput.{GroupInput}
use Rattle.pig_syntax.specs.declared.trees.Item.{Item}
use Rattle.pig_syntax.specs.declared.trees.Item.TheVariants as item
use Rattle.pig_syntax.specs.declared.trees.JoinInput.{JoinInput}
use Rattle.pig_syntax.specs.declared.trees.Nested.{Nested}
use Rattle.pig_syntax.specs.declared.trees.Nested.TheVariants as nested
use Rattle.pig_syntax.specs.declared.trees.Op.{Op}
use Rattle.pig_syntax.specs.declared.trees.Op.TheVariants as operator
use Rattle.pig_syntax.specs.declared.trees.OrderField.{OrderField}
use Rattle.pig_syntax.specs.declared.trees.OrderKeys.{OrderKeys}
use Rattle.pig_syntax.specs.declared.trees.OrderKeys.TheVariants as keys
use Rattle.pig_syntax.specs.declared.trees.PostStep.{PostStep}
use Rattle.pig_syntax.specs.declared.trees.PostStep.TheVariants as step
use Rattle.pig_syntax.specs.declared.trees.Step.{Step}
use Rattle.pig_syntax.specs.declared.trees.Stmt.{Stmt}
use Rattle.pig_syntax.specs.declared.trees.Stmt.TheVariants as stmt
use Rattle.pig_syntax.specs.declared.trees.TypeTree.{TypeTree}
use Rattle.pig_syntax.specs.ExprTrees.{TypeForm, FieldForms, t_tuple, t_bag, t_map, no_fields, typed_field, bare_field, type_form, field_form, field_forms, ExprForm, LinkForms, ExprForms, e_text, e_field, e_chain, e_compare, e_is_null, e_not, e_minus, e_cast, e_post, e_call, e_choose, no_links, more_links, no_exprs, more_exprs, expr_form}

-- so many at least, and each such
pub record AtLeast {A : Type 0} (n : ℕ) (P : A → Type 0) (xs : List A) : Type 0 where
  pub many : n ≤ length xs
  pub each : All P xs

-- ---- fields and types

abbrev pub FieldRefFormed : FieldRef → Type 0
FieldRefFormed (ref.Name name) = HasNoLf name
FieldRefFormed (ref.Position n) = Unit {0}

-- the fields of a projection: one alone where it stands without parentheses
pub record ProjectFormed (fields : List FieldRef) (single : Bool) : Type 0 where
  pub some : AtLeast 1 FieldRefFormed fields
  pub alone : single ≡ true → length fields ≡ 1

abbrev pub PostStepFormed : PostStep → Type 0
PostStepFormed (step.Project fields single) = ProjectFormed fields single
PostStepFormed (step.Look key) = HasNoLf key

-- a selection is a projection
abbrev pub SelectionFormed : PostStep → Type 0
SelectionFormed (step.Project fields single) = ProjectFormed fields single
SelectionFormed (step.Look key) = ⊥

-- a tuple and a bag have a field at least
abbrev mutual
  pub TypeFormed : TypeForm → Type 0
  TypeFormed (t_tuple fields) = FieldsFormed fields
  TypeFormed (t_bag fields) = FieldsFormed fields
  TypeFormed (t_map values) = TypeFormed values
  TypeFormed _ = Unit {0}

  pub FieldsFormed : FieldForms → Type 0
  FieldsFormed no_fields = ⊥
  FieldsFormed (typed_field name type fields) = HasNoLf name × TypeFormed type × MoreFieldsFormed fields
  FieldsFormed (bare_field name fields) = HasNoLf name × MoreFieldsFormed fields

  pub MoreFieldsFormed : FieldForms → Type 0
  MoreFieldsFormed no_fields = Unit {0}
  MoreFieldsFormed (typed_field name type fields) = HasNoLf name × TypeFormed type × MoreFieldsFormed fields
  MoreFieldsFormed (bare_field name fields) = HasNoLf name × MoreFieldsFormed fields

-- the fields of a written schema
abbrev pub SchemaFormed : List FieldTree → Type 0
SchemaFormed fields = FieldsFormed (field_forms (map field_form fields))

-- ---- expressions

-- the rules that chains come from
pub data ChainRule : Type 0 where
  disjunction conjunction sum product : ChainRule

abbrev pub rule_of : ChainOp → ChainRule
rule_of op.Or = disjunction
rule_of op.And = conjunction
rule_of op.Add = sum
rule_of op.Sub = sum
rule_of op.Mul = product
rule_of op.Div = product
rule_of op.Rem = product

abbrev mutual
  pub ExprFormed : ExprForm → Type 0
  ExprFormed (e_text text) = HasNoLf text
  ExprFormed (e_field field) = FieldRefFormed field
  ExprFormed (e_chain a no_links) = ⊥
  ExprFormed (e_chain a (more_links o b links)) = ExprFormed a × ExprFormed b × LinksFormed (rule_of o) links
  ExprFormed (e_compare r a b) = ExprFormed a × ExprFormed b
  ExprFormed (e_is_null a not) = ExprFormed a
  ExprFormed (e_not a) = ExprFormed a
  ExprFormed (e_minus a) = ExprFormed a
  ExprFormed (e_cast type a) = TypeFormed (type_form type) × ExprFormed a
  ExprFormed (e_post a steps) = ExprFormed a × AtLeast 1 PostStepFormed steps
  ExprFormed (e_call name args) = HasNoLf name × ExprsFormed args
  ExprFormed (e_choose a b c) = ExprFormed a × ExprFormed b × ExprFormed c
  ExprFormed _ = Unit {0}

  -- links of this rule
  pub LinksFormed : ChainRule → LinkForms → Type 0
  LinksFormed rule no_links = Unit {0}
  LinksFormed rule (more_links o a links) = (rule_of o ≡ rule) × ExprFormed a × LinksFormed rule links

  pub ExprsFormed : ExprForms → Type 0
  ExprsFormed no_exprs = Unit {0}
  ExprsFormed (more_exprs a others) = ExprFormed a × ExprsFormed others

abbrev pub IsExprFormed : Expr → Type 0
IsExprFormed a = ExprFormed (expr_form a)

-- ---- the parts of statements

pub record FuncFormed (func : Func) : Type 0 where
  pub name : HasNoLf func.name
  pub args : All HasNoLf func.args

abbrev pub AsNamesFormed : AsNames → Type 0
AsNamesFormed (named.One field) = SchemaFormed (field ∷ [])
AsNamesFormed (named.Several fields) = SchemaFormed fields

abbrev pub ItemFormed : Item → Type 0
ItemFormed item.All = Unit {0}
ItemFormed (item.Value a flatten names) = IsExprFormed a × IfSome names AsNamesFormed

abbrev pub OrderFieldFormed : OrderField → Type 0
OrderFieldFormed o = FieldRefFormed o.field

abbrev pub OrderKeysFormed : OrderKeys → Type 0
OrderKeysFormed (keys.All d) = Unit {0}
OrderKeysFormed (keys.Fields fields) = AtLeast 1 OrderFieldFormed fields

pub record BagRefFormed (bag : BagRef) : Type 0 where
  pub field : FieldRefFormed bag.field
  pub selection : IfSome bag.sel SelectionFormed

abbrev pub NestedFormed : Nested → Type 0
NestedFormed (nested.Filter b a) = BagRefFormed b × IsExprFormed a
NestedFormed (nested.Distinct b) = BagRefFormed b
NestedFormed (nested.Order b o) = BagRefFormed b × OrderKeysFormed o
NestedFormed (nested.Limit b n) = BagRefFormed b
NestedFormed (nested.Take b) = BagRefFormed b

pub record StepFormed (s : Step) : Type 0 where
  pub alias : HasNoLf s.alias
  pub nested : NestedFormed s.nested

pub record GroupInputFormed (i : GroupInput) : Type 0 where
  pub name : HasNoLf i.from
  pub keys : AtLeast 1 IsExprFormed i.keys

pub record JoinInputFormed (i : JoinInput) : Type 0 where
  pub name : HasNoLf i.from
  pub keys : AtLeast 1 IsExprFormed i.keys

pub record BranchFormed (b : Branch) : Type 0 where
  pub alias : HasNoLf b.alias
  pub cond : IsExprFormed b.cond

-- ---- operators and statements

-- an operator's tree as a rule of the grammar gives it
abbrev pub OpFormed : Op → Type 0
OpFormed (operator.Load path func fields) = HasNoLf path × IfSome func FuncFormed × SchemaFormed fields
OpFormed (operator.Filter name a) = HasNoLf name × IsExprFormed a
OpFormed (operator.Foreach name steps items) = HasNoLf name × All StepFormed steps × AtLeast 1 ItemFormed items
OpFormed (operator.GroupAll name using_) = HasNoLf name × IfSome using_ HasNoLf
OpFormed (operator.Group inputs using_) = AtLeast 1 GroupInputFormed inputs × IfSome using_ HasNoLf
OpFormed (operator.Join inputs side using_) = AtLeast 2 JoinInputFormed inputs × IfSome using_ HasNoLf
OpFormed (operator.Union onschema names) = AtLeast 2 HasNoLf names
OpFormed (operator.Distinct name) = HasNoLf name
OpFormed (operator.Order name o) = HasNoLf name × OrderKeysFormed o
OpFormed (operator.Limit name n) = HasNoLf name
OpFormed (operator.Cube name rollup dims) = HasNoLf name × AtLeast 1 FieldRefFormed dims
OpFormed (operator.Rank name o dense) = HasNoLf name × OrderKeysFormed o

-- a statement's tree as the grammar gives it
abbrev pub StmtFormed : Stmt → Type 0
StmtFormed stmt.Empty = Unit {0}
StmtFormed (stmt.Assign alias o) = HasNoLf alias × OpFormed o
StmtFormed (stmt.Split name branches otherwise) = HasNoLf name × AtLeast 1 BranchFormed branches × IfSome otherwise HasNoLf
StmtFormed (stmt.Store name path func) = HasNoLf name × HasNoLf path × IfSome func FuncFormed
StmtFormed (stmt.Assert name a message) = HasNoLf name × IsExprFormed a × IfSome message HasNoLf
StmtFormed stmt.Unsupported = Unit {0}
