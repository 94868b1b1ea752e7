use Rattle.std.proofs.Common.{◌≡◌, sym, subst, rules}
use Rattle.std.specs.Prelude.{IfOk}
use Rattle.pig_value.specs.Trees.{at, row_tree, tree}
use Rattle.pig_value.specs.Valid.{IsValue}
use Rattle.pig_reduce.proofs.Finishing.{valid_at}
use Rattle.pig_reduce.proofs.Results.{ok_weaker}
use Rattle.pig_reduce.proofs.folds.key_copy.Goals as goal

pub returns-in-Some-clause-value : goal.returns-in-Some-clause-value
returns-in-Some-clause-value c =
    let is : IfOk c.copy.result (λ v. tree v ≡ at 0 (row_tree c.args.keyed.now)) = search rules in
    ok_weaker c.copy.result (λ v e. subst IsValue (sym e) (valid_at (row_tree c.args.keyed.now) 0 c.requires)) is
