-- What is written and what is to come are the whole text.
use Rattle.std.proofs.Common.{◌≡◌, ◌++◌, drop}
use Rattle.std.specs.List.{flat_map}
use Rattle.pig_explain.specs.NodeTexts.{input_text}
use Rattle.pig_explain.proofs.nodes.put_places.Given as goal

abbrev pub invariant-loop-input : goal.invariant-loop-input
invariant-loop-input l = l.out.items ++ flat_map (input_text l.order) (drop l.input-index l.inputs) ≡ l.fn.out.items ++ flat_map (input_text l.order) l.inputs
