use Rattle.std.proofs.Common.{sym, ◌∙◌, ap, map}
use Rattle.pig_plan.specs.Entries.{made_by}
use Rattle.pig_plan.specs.Meaning.{width_at}
use Rattle.pig_plan.specs.Plans.{keyed_of, op_of, p_group, plan_of}
use Rattle.pig_reduce.proofs.choosing.gathering_of.Goals as goal

pub returns-in_ok-of_group-in-Group : goal.returns-in_ok-of_group-in-Group
returns-in_ok-of_group-in-Group c =
    let width = width_at (plan_of c.args.plan.now) in
    c.in_ok-of_group-in-Group.ensures width
    ∙ (ap (λ inputs. made_by width (p_group (map keyed_of inputs))) c.as_slice.ensures ∙ ap (λ o. made_by width (op_of o)) (sym c.in-Group.is))
