-- What the plain tree of each form is.
use Rattle.std.specs.Prelude.{◌≡◌, ℕ, ℤ, Bool, List, [], ◌∷◌, map, Option, Some, None, refl}
use Rattle.std.proofs.Common.{ap, sym, ◌∙◌}
use Rattle.pig_value.specs.declared.operators.ChainOp.{ChainOp}
use Rattle.pig_value.specs.declared.operators.Rel.{Rel}
use Rattle.pig_syntax.specs.declared.trees.Expr.{Expr}
use Rattle.pig_syntax.specs.declared.trees.Expr.TheOpen.{Expr-F}
use Rattle.pig_syntax.specs.declared.trees.Expr.TheFolds.{fold-roll-Expr, fold_out-Link}
use Rattle.pig_syntax.specs.declared.trees.Expr.TheVariants as expr
use Rattle.pig_syntax.specs.declared.trees.FieldRef.{FieldRef}
use Rattle.pig_syntax.specs.declared.trees.FieldTree.{FieldTree}
use Rattle.pig_syntax.specs.declared.trees.TypeTree.TheOpen.{TypeTree-F}
use Rattle.pig_syntax.specs.declared.trees.TypeTree.TheFolds.{fold_out-FieldTree, fold-roll-TypeTree}
use Rattle.pig_syntax.specs.declared.trees.Link.{Link}
use Rattle.pig_syntax.specs.declared.trees.PostStep.{PostStep}
use Rattle.pig_syntax.specs.declared.trees.TypeTree.{TypeTree}
use Rattle.pig_syntax.specs.declared.trees.TypeTree.TheVariants as type
use Rattle.pig_syntax.specs.ExprTrees.{TypeForm, t_int, t_long, t_chars, t_bytes, t_boolean, t_float, t_tuple, t_bag, t_map, t_map_bare, field_forms, type_step, field_step, type_form, field_form, ExprForm, e_int, e_long, e_float, e_text, e_bool, e_null, e_field, e_chain, e_compare, e_is_null, e_not, e_minus, e_cast, e_post, e_call, e_choose, link_forms, expr_forms, expr_step, link_step, expr_form, link_form}

pub form-Int : (z : ℤ) → expr_form (expr.Int z) ≡ e_int z
form-Int z = ap expr_form (sym (expr.rolls-Int z)) ∙ fold-roll-Expr ExprForm (ChainOp × ExprForm) expr_step link_step (Expr-F.Int z)

pub form-Long : (z : ℤ) → expr_form (expr.Long z) ≡ e_long z
form-Long z = ap expr_form (sym (expr.rolls-Long z)) ∙ fold-roll-Expr ExprForm (ChainOp × ExprForm) expr_step link_step (Expr-F.Long z)

pub form-Float : expr_form expr.Float ≡ e_float
form-Float = ap expr_form (sym expr.rolls-Float) ∙ fold-roll-Expr ExprForm (ChainOp × ExprForm) expr_step link_step Expr-F.Float

pub form-Text : (text : List ℕ) → expr_form (expr.Text text) ≡ e_text text
form-Text text = ap expr_form (sym (expr.rolls-Text text)) ∙ fold-roll-Expr ExprForm (ChainOp × ExprForm) expr_step link_step (Expr-F.Text text)

pub form-Bool : (b : Bool) → expr_form (expr.Bool b) ≡ e_bool b
form-Bool b = ap expr_form (sym (expr.rolls-Bool b)) ∙ fold-roll-Expr ExprForm (ChainOp × ExprForm) expr_step link_step (Expr-F.Bool b)

pub form-Null : expr_form expr.Null ≡ e_null
form-Null = ap expr_form (sym expr.rolls-Null) ∙ fold-roll-Expr ExprForm (ChainOp × ExprForm) expr_step link_step Expr-F.Null

pub form-Field : (field : FieldRef) → expr_form (expr.Field field) ≡ e_field field
form-Field field = ap expr_form (sym (expr.rolls-Field field)) ∙ fold-roll-Expr ExprForm (ChainOp × ExprForm) expr_step link_step (Expr-F.Field field)

pub form-Chain : (a : Expr) (links : List Link) → expr_form (expr.Chain a links) ≡ e_chain (expr_form a) (link_forms (map link_form links))
form-Chain a links = ap expr_form (sym (expr.rolls-Chain a links)) ∙ fold-roll-Expr ExprForm (ChainOp × ExprForm) expr_step link_step (Expr-F.Chain a links)

pub form-Compare : (r : Rel) (a b : Expr) → expr_form (expr.Compare r a b) ≡ e_compare r (expr_form a) (expr_form b)
form-Compare r a b = ap expr_form (sym (expr.rolls-Compare r a b)) ∙ fold-roll-Expr ExprForm (ChainOp × ExprForm) expr_step link_step (Expr-F.Compare r a b)

pub form-IsNull : (a : Expr) (not : Bool) → expr_form (expr.IsNull a not) ≡ e_is_null (expr_form a) not
form-IsNull a not = ap expr_form (sym (expr.rolls-IsNull a not)) ∙ fold-roll-Expr ExprForm (ChainOp × ExprForm) expr_step link_step (Expr-F.IsNull a not)

pub form-Not : (a : Expr) → expr_form (expr.Not a) ≡ e_not (expr_form a)
form-Not a = ap expr_form (sym (expr.rolls-Not a)) ∙ fold-roll-Expr ExprForm (ChainOp × ExprForm) expr_step link_step (Expr-F.Not a)

pub form-Minus : (a : Expr) → expr_form (expr.Minus a) ≡ e_minus (expr_form a)
form-Minus a = ap expr_form (sym (expr.rolls-Minus a)) ∙ fold-roll-Expr ExprForm (ChainOp × ExprForm) expr_step link_step (Expr-F.Minus a)

pub form-Cast : (to : TypeTree) (a : Expr) → expr_form (expr.Cast to a) ≡ e_cast to (expr_form a)
form-Cast to a = ap expr_form (sym (expr.rolls-Cast to a)) ∙ fold-roll-Expr ExprForm (ChainOp × ExprForm) expr_step link_step (Expr-F.Cast to a)

pub form-Post : (a : Expr) (steps : List PostStep) → expr_form (expr.Post a steps) ≡ e_post (expr_form a) steps
form-Post a steps = ap expr_form (sym (expr.rolls-Post a steps)) ∙ fold-roll-Expr ExprForm (ChainOp × ExprForm) expr_step link_step (Expr-F.Post a steps)

pub form-Call : (name : List ℕ) (args : List Expr) → expr_form (expr.Call name args) ≡ e_call name (expr_forms (map expr_form args))
form-Call name args = ap expr_form (sym (expr.rolls-Call name args)) ∙ fold-roll-Expr ExprForm (ChainOp × ExprForm) expr_step link_step (Expr-F.Call name args)

pub form-Choose : (a b c : Expr) → expr_form (expr.Choose a b c) ≡ e_choose (expr_form a) (expr_form b) (expr_form c)
form-Choose a b c = ap expr_form (sym (expr.rolls-Choose a b c)) ∙ fold-roll-Expr ExprForm (ChainOp × ExprForm) expr_step link_step (Expr-F.Choose a b c)

pub link_is : (link : Link) → link_form link ≡ (link.op, expr_form link.a)
link_is link = fold_out-Link ExprForm (ChainOp × ExprForm) expr_step link_step link

pub form-TypeInt : type_form type.Int ≡ t_int
form-TypeInt = ap type_form (sym type.rolls-Int) ∙ fold-roll-TypeTree TypeForm (List ℕ × Option TypeForm) type_step field_step TypeTree-F.Int

pub form-TypeLong : type_form type.Long ≡ t_long
form-TypeLong = ap type_form (sym type.rolls-Long) ∙ fold-roll-TypeTree TypeForm (List ℕ × Option TypeForm) type_step field_step TypeTree-F.Long

pub form-Chararray : type_form type.Chararray ≡ t_chars
form-Chararray = ap type_form (sym type.rolls-Chararray) ∙ fold-roll-TypeTree TypeForm (List ℕ × Option TypeForm) type_step field_step TypeTree-F.Chararray

pub form-Bytearray : type_form type.Bytearray ≡ t_bytes
form-Bytearray = ap type_form (sym type.rolls-Bytearray) ∙ fold-roll-TypeTree TypeForm (List ℕ × Option TypeForm) type_step field_step TypeTree-F.Bytearray

pub form-Boolean : type_form type.Boolean ≡ t_boolean
form-Boolean = ap type_form (sym type.rolls-Boolean) ∙ fold-roll-TypeTree TypeForm (List ℕ × Option TypeForm) type_step field_step TypeTree-F.Boolean

pub form-TypeFloat : type_form type.Float ≡ t_float
form-TypeFloat = ap type_form (sym type.rolls-Float) ∙ fold-roll-TypeTree TypeForm (List ℕ × Option TypeForm) type_step field_step TypeTree-F.Float

pub form-Tuple : (fields : List FieldTree) → type_form (type.Tuple fields) ≡ t_tuple (field_forms (map field_form fields))
form-Tuple fields = ap type_form (sym (type.rolls-Tuple fields)) ∙ fold-roll-TypeTree TypeForm (List ℕ × Option TypeForm) type_step field_step (TypeTree-F.Tuple fields)

pub form-Bag : (fields : List FieldTree) → type_form (type.Bag fields) ≡ t_bag (field_forms (map field_form fields))
form-Bag fields = ap type_form (sym (type.rolls-Bag fields)) ∙ fold-roll-TypeTree TypeForm (List ℕ × Option TypeForm) type_step field_step (TypeTree-F.Bag fields)

pub form-Map : (values : TypeTree) → type_form (type.Map (Some values)) ≡ t_map (type_form values)
form-Map values = ap type_form (sym (type.rolls-Map (Some values))) ∙ fold-roll-TypeTree TypeForm (List ℕ × Option TypeForm) type_step field_step (TypeTree-F.Map (Some values))

pub form-MapBare : type_form (type.Map None) ≡ t_map_bare
form-MapBare = ap type_form (sym (type.rolls-Map None)) ∙ fold-roll-TypeTree TypeForm (List ℕ × Option TypeForm) type_step field_step (TypeTree-F.Map None)

pub field_typed : (name : List ℕ) (type : TypeTree) → field_form (record { name = name; kind = Some type }) ≡ (name, Some (type_form type))
field_typed name type = fold_out-FieldTree TypeForm (List ℕ × Option TypeForm) type_step field_step (record { name = name; kind = Some type })

pub field_bare : (name : List ℕ) → field_form (record { name = name; kind = None }) ≡ (name, None)
field_bare name = fold_out-FieldTree TypeForm (List ℕ × Option TypeForm) type_step field_step (record { name = name; kind = None })
