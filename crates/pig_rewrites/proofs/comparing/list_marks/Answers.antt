use Rattle.std.proofs.Common.{rules, ◌≡◌, IfOk, false, subst}
use Rattle.pig_plan.specs.Nodes.{sorted_marks}
use Rattle.pig_plan.specs.Plans.{plan_of}
use Rattle.pig_plan.specs.Results.{at_place}
use Rattle.pig_rewrites.specs.Ends.{marks_over}
use Rattle.pig_rewrites.proofs.comparing.list_marks.Goals as goal

pub returns : goal.returns
returns c =
    let nodes : c.as_slice-nodes.result.now ≡ c.args.plan.now = search rules in
    let sorted : c.as_slice.result.now ≡ sorted_marks (plan_of c.as_slice-nodes.result.now) = search rules in
    subst (λ ns. IfOk c.marks_over.result (λ marks. marks.items ≡ marks_over (at_place false (sorted_marks (plan_of ns))) (plan_of ns))) nodes
    (subst (λ s. IfOk c.marks_over.result (λ marks. marks.items ≡ marks_over (at_place false s) (plan_of c.as_slice-nodes.result.now))) sorted c.marks_over.ensures)
