-- Expressions and written types as plain trees, by whose cases rules and laws may go.
use Rattle.std.specs.Prelude.{ℕ, ℤ, Bool, List, [], ◌∷◌, Option, Some, None}
use Rattle.pig_value.specs.declared.operators.ChainOp.{ChainOp}
use Rattle.pig_value.specs.declared.operators.Rel.{Rel}
use Rattle.pig_syntax.specs.declared.trees.Expr.{Expr}
use Rattle.pig_syntax.specs.declared.trees.Expr.TheOpen.{Expr-F, Link-F}
use Rattle.pig_syntax.specs.declared.trees.Expr.TheFolds.{fold-Expr, fold-Link}
use Rattle.pig_syntax.specs.declared.trees.FieldRef.{FieldRef}
use Rattle.pig_syntax.specs.declared.trees.FieldTree.{FieldTree}
use Rattle.pig_syntax.specs.declared.trees.TypeTree.TheOpen.{FieldTree-F, TypeTree-F}
use Rattle.pig_syntax.specs.declared.trees.TypeTree.TheFolds.{fold-FieldTree, fold-TypeTree}
use Rattle.pig_syntax.specs.declared.trees.Link.{Link}
use Rattle.pig_syntax.specs.declared.trees.PostStep.{PostStep}
use Rattle.pig_syntax.specs.declared.trees.TypeTree.{TypeTree}

-- ---- types

-- a written type: one of nine forms
mutual
  pub data TypeForm : Type 0 where
    t_int : TypeForm
    t_long : TypeForm
    t_chars : TypeForm
    t_bytes : TypeForm
    t_boolean : TypeForm
    t_float : TypeForm
    t_tuple : FieldForms → TypeForm
    t_bag : FieldForms → TypeForm
    t_map : TypeForm → TypeForm
    -- a map whose values have no written type
    t_map_bare : TypeForm

  -- fields, each a name with its type or by itself
  pub data FieldForms : Type 0 where
    no_fields : FieldForms
    typed_field : List ℕ → TypeForm → FieldForms → FieldForms
    bare_field : List ℕ → FieldForms → FieldForms

abbrev pub field_forms : List (List ℕ × Option TypeForm) → FieldForms
field_forms [] = no_fields
field_forms ((name, Some type) ∷ fields) = typed_field name type (field_forms fields)
field_forms ((name, None) ∷ fields) = bare_field name (field_forms fields)

-- one level of a type, with the plain tree of each inner type in its place
abbrev pub type_step : TypeTree-F TypeForm (List ℕ × Option TypeForm) → TypeForm
type_step TypeTree-F.Int = t_int
type_step TypeTree-F.Long = t_long
type_step TypeTree-F.Chararray = t_chars
type_step TypeTree-F.Bytearray = t_bytes
type_step TypeTree-F.Boolean = t_boolean
type_step TypeTree-F.Float = t_float
type_step (TypeTree-F.Tuple fields) = t_tuple (field_forms fields)
type_step (TypeTree-F.Bag fields) = t_bag (field_forms fields)
type_step (TypeTree-F.Map (Some values)) = t_map values
type_step (TypeTree-F.Map None) = t_map_bare

abbrev pub field_step : FieldTree-F TypeForm (List ℕ × Option TypeForm) → List ℕ × Option TypeForm
field_step field = (field.name, field.kind)

-- a type as a plain tree
abbrev pub type_form : TypeTree → TypeForm
type_form = fold-TypeTree TypeForm (List ℕ × Option TypeForm) type_step field_step

-- a field as its name, and the plain tree of its type where one is written
abbrev pub field_form : FieldTree → List ℕ × Option TypeForm
field_form = fold-FieldTree TypeForm (List ℕ × Option TypeForm) type_step field_step

-- ---- expressions

-- an expression: one of sixteen forms
mutual
  pub data ExprForm : Type 0 where
    e_int : ℤ → ExprForm
    e_long : ℤ → ExprForm
    e_float : ExprForm
    e_text : List ℕ → ExprForm
    e_bool : Bool → ExprForm
    e_null : ExprForm
    e_field : FieldRef → ExprForm
    e_chain : ExprForm → LinkForms → ExprForm
    e_compare : Rel → ExprForm → ExprForm → ExprForm
    e_is_null : ExprForm → Bool → ExprForm
    e_not : ExprForm → ExprForm
    e_minus : ExprForm → ExprForm
    e_cast : TypeTree → ExprForm → ExprForm
    e_post : ExprForm → List PostStep → ExprForm
    e_call : List ℕ → ExprForms → ExprForm
    e_choose : ExprForm → ExprForm → ExprForm → ExprForm

  -- the operators of a chain with their right operands
  pub data LinkForms : Type 0 where
    no_links : LinkForms
    more_links : ChainOp → ExprForm → LinkForms → LinkForms

  -- the arguments of a call
  pub data ExprForms : Type 0 where
    no_exprs : ExprForms
    more_exprs : ExprForm → ExprForms → ExprForms

abbrev pub link_forms : List (ChainOp × ExprForm) → LinkForms
link_forms [] = no_links
link_forms (l ∷ ls) = more_links l.0 l.1 (link_forms ls)

abbrev pub expr_forms : List ExprForm → ExprForms
expr_forms [] = no_exprs
expr_forms (a ∷ others) = more_exprs a (expr_forms others)

-- one level of an expression, with the plain tree of each inner expression in its place
abbrev pub expr_step : Expr-F ExprForm (ChainOp × ExprForm) → ExprForm
expr_step (Expr-F.Int z) = e_int z
expr_step (Expr-F.Long z) = e_long z
expr_step Expr-F.Float = e_float
expr_step (Expr-F.Text text) = e_text text
expr_step (Expr-F.Bool b) = e_bool b
expr_step Expr-F.Null = e_null
expr_step (Expr-F.Field field) = e_field field
expr_step (Expr-F.Chain a links) = e_chain a (link_forms links)
expr_step (Expr-F.Compare r a b) = e_compare r a b
expr_step (Expr-F.IsNull a not) = e_is_null a not
expr_step (Expr-F.Not a) = e_not a
expr_step (Expr-F.Minus a) = e_minus a
expr_step (Expr-F.Cast type a) = e_cast type a
expr_step (Expr-F.Post a steps) = e_post a steps
expr_step (Expr-F.Call name args) = e_call name (expr_forms args)
expr_step (Expr-F.Choose a b c) = e_choose a b c

abbrev pub link_step : Link-F ExprForm (ChainOp × ExprForm) → ChainOp × ExprForm
link_step link = (link.op, link.a)

-- an expression as a plain tree
abbrev pub expr_form : Expr → ExprForm
expr_form = fold-Expr ExprForm (ChainOp × ExprForm) expr_step link_step

-- an operator with the plain tree of its right operand
abbrev pub link_form : Link → ChainOp × ExprForm
link_form = fold-Link ExprForm (ChainOp × ExprForm) expr_step link_step
