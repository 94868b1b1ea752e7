use Rattle.pig_plan.specs.ByKey.{holds_null}
use Rattle.pig_runs.specs.Packed.{packed_lent}
use Rattle.pig_operators.specs.Groups.{first_key}
use Rattle.pig_gather.proofs.Joins.{null_told}
use Rattle.pig_gather.proofs.LentRows.{key_is_code, key_lent}
use Rattle.pig_gather.proofs.key_nulls.key_has_null.Goals as goal

pub returns : goal.returns
returns c =
    let run = c.args.entries.now in
    null_told c.code_has_null.result (holds_null (first_key run c.args.at)) run c.lend.ensures.values
    (λ h. c.code_has_null.ensures (first_key run c.args.at)
    (key_is_code run c.args.at c.lend.result.key.now c.requires.ascending c.requires.within (key_lent run c.args.at (packed_lent c.lend.result) c.lend.ensures.is c.requires.ascending) h))
