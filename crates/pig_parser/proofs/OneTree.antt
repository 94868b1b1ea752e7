-- The same tokens have one tree.
use Rattle.std.proofs.Common.{◌≡◌, suc, ◌<◌, sym, ◌∙◌, ap, length, arith}
use Rattle.std.specs.Prelude.{Option, Some}
use Rattle.pig_syntax.specs.declared.trees.Expr.{Expr}
use Rattle.pig_syntax.specs.declared.trees.Stmt.{Stmt}
use Rattle.pig_exprs.specs.Grammar.{Forms, expr, ReadsExpr}
use Rattle.pig_parser.specs.Statements.{IsStatement}
use Rattle.pig_exprs.specs.ExprReader.{expr_at}
use Rattle.pig_parser.specs.StatementReader.{statement_at}
use Rattle.pig_exprs.proofs.Fits.{Fits, fits_length}
use Rattle.pig_exprs.proofs.Follow.{binds_ahead}
use Rattle.pig_exprs.proofs.ExprsFound.{expr_found}
use Rattle.pig_parser.proofs.StatementsFound.{statement_complete}

-- a statement's tokens have one tree
pub one_statement : {ts : Forms} {tree other : Stmt} → IsStatement ts tree → IsStatement ts other → tree ≡ other
one_statement {ts = ts} {tree = tree} {other = other} h g =
    let d = length ts in
    let room : Fits ts d = fits_length ts d (omega arith) in
    let left : statement_at (suc d) ts ≡ Some tree = statement_complete ts tree h d (suc d) room (omega arith) in
    let right : statement_at (suc d) ts ≡ Some other = statement_complete ts other g d (suc d) room (omega arith) in
    cc
