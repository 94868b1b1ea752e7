-- What is written and what is to come are the whole text.
use Rattle.std.proofs.Common.{◌≡◌, ◌++◌, map, drop, codes}
use Rattle.pig_plan.specs.Plans.{keyed_of}
use Rattle.pig_explain.specs.NodeTexts.{inputs_text}
use Rattle.pig_explain.proofs.nodes.put_inputs.Given as goal

abbrev pub invariant-loop-input : goal.invariant-loop-input
invariant-loop-input l = l.out.items ++ inputs_text l.order l.before l.behind (map keyed_of (drop l.input-index l.inputs)) ≡ l.fn.out.items ++ inputs_text l.order (codes " ") l.side (map keyed_of l.inputs)
