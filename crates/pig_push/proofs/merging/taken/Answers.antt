use Rattle.std.proofs.Common.{rules, ◌≡◌, ◌∙◌, ap, sym}
use Rattle.pig_typed.specs.Typed.{typed}
use Rattle.pig_plan.specs.Plans.{op_of}
use Rattle.pig_push.proofs.MergePass.{same_cond}
use Rattle.pig_push.proofs.merging.taken.Goals as goal

pub returns-in-Filter : goal.returns-in-Filter
returns-in-Filter c = λ input cond is.
    let same : c.replace.result ≡ c.in-Filter.cond = search rules in
    ap typed same ∙ same_cond c.in-Filter.input input (typed c.in-Filter.cond) cond (sym (ap op_of c.in-Filter.is) ∙ is)
