use Rattle.std.proofs.Common.{ap, subst, sym}
use Rattle.std.specs.Prelude.{◌&&◌, MatchOption}
use Rattle.pig_typed.specs.Typed.{typed}
use Rattle.pig_plan.specs.Nodes.{names}
use Rattle.pig_plan.specs.Plans.{op_of}
use Rattle.pig_push.specs.Lone.{NotBoth, NotBothBut}
use Rattle.pig_push.proofs.LoneMoves.{both_read}
use Rattle.pig_push.proofs.sweeping.shared_input.Goals as goal

pub returns-in-Load : goal.returns-in-Load
returns-in-Load c = λ x. ap (λ o. names (op_of o) x && names (op_of c.args.upper.now) x) c.in-Load.is

pub returns-in-Filter : goal.returns-in-Filter
returns-in-Filter c =
    subst (λ o. MatchOption c.where_read.result (NotBoth o (op_of c.args.upper.now)) (λ j. NotBothBut j o (op_of c.args.upper.now))) (sym (ap op_of c.in-Filter.is))
    (both_read c.where_read.result c.in-Filter.input (typed c.in-Filter.cond) (op_of c.args.upper.now) c.where_read.ensures)
