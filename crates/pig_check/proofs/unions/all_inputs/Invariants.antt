use Rattle.std.proofs.Common.{map}
use Rattle.pig_plan.specs.Plans.{op_of}
use Rattle.pig_relations.specs.Unions.{union_input_tree}
use Rattle.pig_check.proofs.Joining.{AreSoFar}
use Rattle.pig_check.proofs.unions.all_inputs.Given as goal

abbrev pub invariant-loop-input : goal.invariant-loop-input
invariant-loop-input l = AreSoFar l.next (map op_of l.so_far.ops) l.so_far.inputs l.so_far.node (map union_input_tree l.yielded)
