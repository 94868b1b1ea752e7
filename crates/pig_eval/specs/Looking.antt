-- What a function value that looks at an expression is to do.
use Rattle.std.specs.Prelude.{◌≡◌, IfOk, List, Result}
use Rattle.std.specs.Borrow.{Bor}
use Rattle.std.specs.declared.alloc.AllocError.{AllocError}
use Rattle.std.specs.declared.alloc.Global.{Global}
use Rattle.pig_value.specs.Trees.{row_tree}
use Rattle.pig_value.specs.declared.values.Value.{Value}
use Rattle.pig_typed.specs.Evaluation.{ev}
use Rattle.pig_typed.specs.Typed.{typed}
use Rattle.pig_typed.specs.declared.exprs.TExpr.{TExpr}
use Rattle.pig_eval.specs.SeenValues.{seen_tree}
use Rattle.pig_eval.specs.declared.seen.Seen.{Seen}

-- a function value that finds the value of this expression
pub record Looks (e : TExpr) (pre : Global → Bor TExpr → Bor (List Value) → Bor (List Value) → Type 0)
    (post : Global → Bor TExpr → Bor (List Value) → Bor (List Value) → Result Seen AllocError → Type 0) : Type 0 where
  pub callable : (alloc : Global) (x : Bor TExpr) (row locals : Bor (List Value)) → x.now ≡ e → pre alloc x row locals
  pub looks : (alloc : Global) (x : Bor TExpr) (row locals : Bor (List Value)) (r : Result Seen AllocError)
      → x.now ≡ e → post alloc x row locals r
      → IfOk r (λ seen. seen_tree seen ≡ ev (typed e) (row_tree row.now) (row_tree locals.now))
