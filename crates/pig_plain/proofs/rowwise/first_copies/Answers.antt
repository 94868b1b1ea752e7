use Rattle.std.proofs.Common.{◌≡◌, subst}
use Rattle.std.specs.Prelude.{IfOk}
use Rattle.pig_value.specs.Trees.{rows_tree}
use Rattle.pig_plain.proofs.Tables.{first_is}
use Rattle.pig_plain.proofs.rowwise.first_copies.Goals as goal

-- src/rowwise.rt:80:1
pub returns : goal.returns
returns c = subst (λ t. IfOk c.copied.result (λ made. rows_tree made ≡ t)) (first_is c.args.rows.now c.args.count c.min-end.result c.min-end.ensures) c.copied.ensures
