use Rattle.std.proofs.Common.{subst, sym}
use Rattle.pig_value.specs.Valid.{AreRows}
use Rattle.pig_plan.specs.Meaning.{width_at}
use Rattle.pig_plan.specs.Plans.{op_of, plan_of}
use Rattle.pig_plain.proofs.FoundValues.{found_values}
use Rattle.pig_plain.proofs.Tables.{if_ok}
use Rattle.pig_plain.specs.Tables.{rows_of}
use Rattle.pig_plain.proofs.operating.found.Goals as goal

pub returns-clause-valid : goal.returns-clause-valid
returns-clause-valid c =
    if_ok c.made.result c.made.ensures (λ rows told. subst AreRows (sym told.rows)
    (found_values c.args.inputs.now (width_at (plan_of c.args.plan.now)) (rows_of c.args.table.now) c.requires.bytes c.are_values.ensures (op_of c.args.op.now) c.requires.literals))
