use Rattle.std.proofs.Common.{map, subst, sym, [], ◌∷◌}
use Rattle.std.proofs.lemmas.List.{map-append}
use Rattle.pig_plan.specs.Plans.{op_of}
use Rattle.pig_relations.specs.Unions.{union_input_tree}
use Rattle.pig_check.proofs.Joining.{AreSoFar, one_input}
use Rattle.pig_check.proofs.unions.all_inputs.Goals as goal

pub loop-input-preserved : goal.loop-input-preserved
loop-input-preserved c =
    subst (AreSoFar c.args.next (map op_of c.in_ok-so_far.so_far.ops) c.in_ok-so_far.so_far.inputs c.in_ok-so_far.so_far.node)
    (sym (map-append union_input_tree c.loop-input.yielded (c.in-Some.input ∷ [])))
    (one_input c.args.next (map op_of c.loop-input.so_far.ops) (map op_of c.in_ok-so_far.so_far.ops) c.loop-input.so_far.inputs c.in_ok-so_far.so_far.inputs
    c.loop-input.so_far.node c.in_ok-so_far.so_far.node (map union_input_tree c.loop-input.yielded) (union_input_tree c.in-Some.input)
    c.in_ok-so_far.ensures.ops c.in_ok-so_far.ensures.inputs c.in_ok-so_far.ensures.node c.loop-input.invariant)
