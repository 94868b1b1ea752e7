use Rattle.std.proofs.Common.{◌≡◌, ◌++◌, map, drop}
use Rattle.pig_value.specs.Trees.{kind_tree}
use Rattle.pig_relations.specs.Unions.{union_input, union_input_tree}
use Rattle.pig_relations.specs.Views.{relations_seen}
use Rattle.pig_relations.proofs.unions.union_inputs.Given as goal

abbrev pub invariant-loop-input : goal.invariant-loop-input
invariant-loop-input l =
    map union_input_tree l.made ++ map (union_input (map kind_tree l.kinds)) (relations_seen (drop l.input-index l.inputs))
    ≡ map (union_input (map kind_tree l.kinds)) (relations_seen l.inputs)
