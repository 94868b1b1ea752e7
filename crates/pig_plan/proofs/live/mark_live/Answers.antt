use Rattle.std.proofs.Common.{◌≡◌, ◌<◌, ◌+◌, ◌-◌, ◌∙◌, length, get_or, subst, sym, arith}
use Rattle.std.specs.List.{AllByRecursion}
use Rattle.pig_plan.proofs.Lower.{names_lower}
use Rattle.pig_plan.specs.Nodes.{inputs_of, is_store}
use Rattle.pig_plan.specs.Plans.{node_of, op_of, plan_of}
use Rattle.pig_plan.proofs.Marking.{marked, node_at}
use Rattle.pig_plan.specs.Marks.{AreMarks, IsMarked}
use Rattle.pig_plan.proofs.live.mark_live.Goals as goal

pub mark-requires-clause-lower : goal.mark-requires-clause-lower
mark-requires-clause-lower c =
    let nodes = c.args.nodes.now in
    let i = c.marks.number - 1 in
    let within : i < length nodes = let h = c.marks.invariant.0 in let more = c.marks-test.true in omega (arith, h, more) in
    subst (AllByRecursion (λ j. j < i)) (sym (c.as_slice.ensures ∙ c.in_ok-inputs.ensures))
    (names_lower (plan_of nodes) c.requires i _ (node_at nodes i c.index-nodes-number.result within))

pub marks-preserved : goal.marks-preserved
marks-preserved c =
    let nodes = c.args.nodes.now in
    let i = c.marks.number - 1 in
    let h = c.marks.invariant.0 in
    let more = c.marks-test.true in
    let within : i < length nodes = omega (arith, h, more) in
    let next : c.marks.number ≡ i + 1 = omega (arith, more) in
    let node = get_or nodes i c.index-nodes-number.result in
    let told : IsMarked i (is_store (op_of node.op)) (inputs_of (op_of node.op)) c.marks.marks.items c.mark.new.marks.items =
    subst (λ b. IsMarked i b (inputs_of (op_of node.op)) c.marks.marks.items c.mark.new.marks.items) c.is_store.ensures
    (subst (λ xs. IsMarked i c.is_store.result xs c.marks.marks.items c.mark.new.marks.items) (c.as_slice.ensures ∙ c.in_ok-inputs.ensures) c.mark.ensures) in (
      omega (arith, h),
      marked (plan_of nodes) i (node_of node) (node_at nodes i c.index-nodes-number.result within) c.marks.marks.items c.mark.new.marks.items
          (subst (λ n. AreMarks (plan_of nodes) n c.marks.marks.items) next c.marks.invariant.1) told,
    )
