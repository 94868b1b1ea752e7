-- What is listed so far, with the STOREs that are to come, is the whole list.
use Rattle.std.proofs.Common.{◌≡◌, drop}
use Rattle.pig_plan.specs.Plans.{plan_of}
use Rattle.pig_explain.specs.Numbered.{visit_stores}
use Rattle.pig_explain.proofs.numbering.visit_stores.Given as goal

abbrev pub invariant-loop-number : goal.invariant-loop-number
invariant-loop-number l = visit_stores (plan_of l.nodes) l.number l.listed.items (plan_of (drop l.number l.nodes)) ≡ visit_stores (plan_of l.nodes) 0 l.fn.listed.items (plan_of l.nodes)
