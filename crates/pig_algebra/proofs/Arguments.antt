-- A call of two or more arguments has no only one.
use Rattle.std.proofs.Common.{◌≡◌, refl, arith}
use Rattle.std.specs.Prelude.{◌≤◌, List, [], ◌∷◌, length, map, None}
use Rattle.pig_typed.specs.Typed.{args_of, typed}
use Rattle.pig_typed.specs.declared.exprs.TExpr.{TExpr}
use Rattle.pig_algebra.specs.Cuts.{only_arg}

pub none_alone : (args : List TExpr) → 2 ≤ length args → None ≡ only_arg (args_of (map typed args))
none_alone [] h = absurd (omega (arith, h))
none_alone (e ∷ []) h = absurd (omega (arith, h))
none_alone (e ∷ d ∷ args) h = refl
