-- What holds of the value of an expression, with pig_builtins' laws of functions.
use Rattle.std.proofs.Common.{◌≡◌, List}
use Rattle.std.specs.Prelude.{Some}
use Rattle.pig_value.specs.Kinds.{IsOf, IsRowOf}
use Rattle.pig_value.specs.Texts.{IsLineFree, IsLineFreeRow}
use Rattle.pig_value.specs.Trees.{KindTree, Tree}
use Rattle.pig_value.specs.Valid.{IsRow, IsValue}
use Rattle.pig_value.proofs.ValidLaws.{row_each}
use Rattle.pig_builtins.proofs.KindsKept.{kinds_kept}
use Rattle.pig_builtins.proofs.LineFree.{line_free_kept}
use Rattle.pig_builtins.proofs.ValuesKept.{values_kept}
use Rattle.pig_typed.specs.Evaluation.{ev}
use Rattle.pig_typed.specs.ExprKinds.{expr_kind}
use Rattle.pig_typed.specs.Literals.{LiteralsAre}
use Rattle.pig_typed.specs.Premises.{IsLineFreeValue}
use Rattle.pig_typed.specs.Typed.{Typed}
use Rattle.pig_typed.proofs.Carried.{carried}
use Rattle.pig_typed.proofs.Found.{found_is}
use Rattle.pig_typed.proofs.KindsKept.{kept}
use Rattle.pig_typed.proofs.LinesCarried.{line_free_row, lines_carried}
use Rattle.pig_typed.proofs.ValuesCarried.{values_carried}

pub of_kind : (e : Typed) (row locals : List Tree) (kinds more : List KindTree) (k : KindTree)
    → IsRowOf row kinds → IsRowOf locals more → expr_kind e kinds more ≡ Some k → IsOf (ev e row locals) k
of_kind e row locals kinds more k h g is = found_is (IsOf (ev e row locals)) (expr_kind e kinds more) k is (kept kinds_kept row locals kinds more h g e)

pub a_value : (e : Typed) (row locals : List Tree) → LiteralsAre IsValue e → IsRow row → IsRow locals → IsValue (ev e row locals)
a_value e row locals ok h g = carried IsValue (values_carried values_kept) row locals (row_each row h) (row_each locals g) e ok

pub free_of_lines : (e : Typed) (row locals : List Tree) → LiteralsAre IsLineFreeValue e → IsRow row → IsLineFreeRow row → IsRow locals → IsLineFreeRow locals
    → IsLineFree (ev e row locals)
free_of_lines e row locals ok valid h also g =
    (carried IsLineFreeValue (lines_carried values_kept line_free_kept) row locals (line_free_row row valid h) (line_free_row locals also g) e ok).1
