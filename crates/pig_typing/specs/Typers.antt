-- What a function value that types an expression is to do.
use Rattle.std.specs.Prelude.{◌≡◌, Result}
use Rattle.std.specs.Borrow.{Bor}
use Rattle.std.specs.declared.alloc.Global.{Global}
use Rattle.pig_syntax.specs.ExprTrees.{expr_form}
use Rattle.pig_syntax.specs.declared.trees.Expr.{Expr}
use Rattle.pig_typing.specs.Columns.{place_of}
use Rattle.pig_typing.specs.Reader.{type_of}
use Rattle.pig_typing.specs.Results.{Tells}
use Rattle.pig_typing.specs.Views.{typing_tree}
use Rattle.pig_typing.specs.declared.columns.Typing.{Typing}
use Rattle.pig_typing.specs.declared.faults.TypeFault.{TypeFault}
use Rattle.pig_typing.specs.declared.scope.Scope.{Scope}

-- a function value that types this expression
pub record TypesInside (e : Expr) (pre : Global → Bor Expr → Bor Scope → Type 0)
    (post : Global → Bor Expr → Bor Scope → Result Typing TypeFault → Type 0) : Type 0 where
  pub callable : (alloc : Global) (x : Bor Expr) (scope : Bor Scope) → x.now ≡ e → pre alloc x scope
  pub types : (alloc : Global) (x : Bor Expr) (scope : Bor Scope) (r : Result Typing TypeFault)
      → x.now ≡ e → post alloc x scope r
      → Tells typing_tree (type_of (place_of scope.now) (expr_form e)) r
