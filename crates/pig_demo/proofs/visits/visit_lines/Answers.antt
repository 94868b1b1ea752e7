use Rattle.std.proofs.Common.{◌∙◌, ◌++◌, sym, ap}
use Rattle.pig_demo.specs.Scene.{visit_line}
use Rattle.pig_demo.proofs.VisitLaws.{one_visit_more}
use Rattle.pig_demo.proofs.visits.visit_lines.Goals as goal

pub loop-number-preserved : goal.loop-number-preserved
loop-number-preserved c = c.in_ok-add_visit.ensures ∙ ap (λ xs. xs ++ visit_line c.loop-number.number) c.loop-number.invariant ∙ sym (one_visit_more c.loop-number.number)
