use Rattle.std.proofs.Common.{sym, ◌∙◌, ap}
use Rattle.pig_plan.specs.Entries.{made_by}
use Rattle.pig_plan.specs.Meaning.{width_at}
use Rattle.pig_plan.specs.Plans.{op_of, plan_of}
use Rattle.pig_reduce.specs.Made.{made_or_none}
use Rattle.pig_reduce.proofs.ByOperator.{none_made}
use Rattle.pig_reduce.proofs.bringing.add_by_key.Goals as goal

pub returns-in-None : goal.returns-in-None
returns-in-None c =
    none_made (made_by (width_at (plan_of c.args.plan.now)) (op_of c.args.op.now)) c.args.entries.now.entries c.args.built.now
    (ap made_or_none (sym c.in-None.is) ∙ c.in_ok-how.ensures) c.requires.none_begun
