-- What a function value that copies an expression is to do.
use Rattle.std.specs.Prelude.{◌≡◌, IfOk, Result}
use Rattle.std.specs.Borrow.{Bor}
use Rattle.std.specs.declared.alloc.AllocError.{AllocError}
use Rattle.std.specs.declared.alloc.Global.{Global}
use Rattle.pig_typed.specs.declared.exprs.TExpr.{TExpr}

-- a function value that copies this expression
pub record Copies (e : TExpr) (pre : Global → Bor TExpr → Type 0)
    (post : Global → Bor TExpr → Result TExpr AllocError → Type 0) : Type 0 where
  pub callable : (alloc : Global) (x : Bor TExpr) → x.now ≡ e → pre alloc x
  pub copies : (alloc : Global) (x : Bor TExpr) (r : Result TExpr AllocError) → x.now ≡ e → post alloc x r
      → IfOk r (λ c. c ≡ e)
