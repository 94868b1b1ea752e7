-- What is listed so far, with what is to be visited, is the whole list.
use Rattle.std.proofs.Common.{◌≡◌, ◌+◌, ◌*◌, drop}
use Rattle.std.specs.List.{fold}
use Rattle.pig_plan.specs.Plans.{plan_of}
use Rattle.pig_explain.specs.Numbered.{visit}
use Rattle.pig_explain.proofs.numbering.+visit.Given as goal

abbrev pub decreases-visit : goal.decreases-visit
decreases-visit l = 2 * l.depth

abbrev pub decreases-visit_all : goal.decreases-visit_all
decreases-visit_all l = 2 * l.depth + 1

abbrev pub invariant-visit_all-loop-input : goal.invariant-visit_all-loop-input
invariant-visit_all-loop-input l = fold (visit l.depth (plan_of l.nodes)) l.listed.items (drop l.input-index l.inputs) ≡ fold (visit l.depth (plan_of l.nodes)) l.fn.listed.items l.inputs
