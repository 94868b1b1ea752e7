use Rattle.std.proofs.Common.{◌≡◌, ◌∙◌, ap, get_or, map, Some}
use Rattle.pig_plan.specs.Nodes.{op_at}
use Rattle.pig_plan.specs.Plans.{op_of, plan_of}
use Rattle.pig_plan.specs.declared.nodes.Node.{Node}
use Rattle.pig_cutter.specs.Tables.{reading_of}
use Rattle.pig_cutter.proofs.Firsts.{first_of_all, next_first, next_reading}
use Rattle.pig_cutter.proofs.Loops.{op_here, plan_size}
use Rattle.pig_cutter.proofs.reading.sources.Goals as goal

pub loop-number-init : goal.loop-number-init
loop-number-init c = (ap (map reading_of) c.in_ok-found.ensures.items, first_of_all (plan_of c.args.nodes.now))

pub loop-number-preserved : goal.loop-number-preserved
loop-number-preserved c =
    let plan = plan_of c.args.nodes.now in
    let k = c.loop-number.number in
    let node : Node = get_or c.args.nodes.now c.loop-number.number c.index-nodes-number.result in
    let at : op_at (plan_of c.args.nodes.now) c.loop-number.number ≡ Some (op_of (get_or c.args.nodes.now c.loop-number.number c.index-nodes-number.result).op) =
    op_here c.args.nodes.now c.loop-number.number c.index-nodes-number.result c.loop-number-test.true c.index-nodes-number.is
    ∙ ap {A = Node} (λ m. Some (op_of m.op)) c.index-nodes-number.is in (
      next_reading plan c.args.sizes.now c.args.counts.now k (op_of node.op) c.loop-number.wave c.count_at.result c.loop-number.found.items c.push.new.self.items c.in_ok-source.source at
          c.loop-number.invariant.1 c.count_at.ensures c.in_ok-push.ensures.items c.in_ok-source.ensures c.loop-number.invariant.0,
      next_first plan k (op_of node.op) c.args.marks.now c.is_marked.result c.loop-number.wave c.in_ok-wave.wave c.requires (plan_size c.args.nodes.now k c.loop-number-test.true) at
          c.is_marked.ensures c.loop-number.invariant.1 c.in_ok-wave.ensures,
    )
