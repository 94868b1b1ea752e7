-- What a function value that finds the kind of an expression is to do.
use Rattle.std.specs.Prelude.{◌≡◌, map, IfOk, Option, Result}
use Rattle.std.specs.Borrow.{Bor}
use Rattle.std.specs.Option.{option_map}
use Rattle.std.specs.declared.alloc.AllocError.{AllocError}
use Rattle.std.specs.declared.alloc.Global.{Global}
use Rattle.pig_value.specs.Trees.{kind_tree}
use Rattle.pig_typed.specs.ExprKinds.{expr_kind}
use Rattle.pig_typed.specs.Seen.{seen_kind}
use Rattle.pig_typed.specs.Typed.{typed}
use Rattle.pig_typed.specs.declared.exprs.TExpr.{TExpr}
use Rattle.pig_typed.specs.declared.seen.Scope.{Scope}
use Rattle.pig_typed.specs.declared.seen.SeenKind.{SeenKind}

-- a function value that finds the kind of this expression
pub record Looks (e : TExpr) (pre : Global → Bor TExpr → Bor Scope → Type 0)
    (post : Global → Bor TExpr → Bor Scope → Result (Option SeenKind) AllocError → Type 0) : Type 0 where
  pub callable : (alloc : Global) (x : Bor TExpr) (scope : Bor Scope) → x.now ≡ e → pre alloc x scope
  pub looks : (alloc : Global) (x : Bor TExpr) (scope : Bor Scope) (r : Result (Option SeenKind) AllocError)
      → x.now ≡ e → post alloc x scope r
      → IfOk r (λ found. option_map seen_kind found
      ≡ expr_kind (typed e) (map kind_tree scope.now.row.now) (map kind_tree scope.now.locals.now))
