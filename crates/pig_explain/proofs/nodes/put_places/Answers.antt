use Rattle.pig_explain.specs.NodeTexts.{input_text}
use Rattle.pig_explain.proofs.Loops.{number_written}
use Rattle.pig_explain.proofs.nodes.put_places.Goals as goal

pub loop-input-preserved : goal.loop-input-preserved
loop-input-preserved c =
    number_written (input_text c.args.order.now) c.args.inputs.now c.loop-input.input-index _ c.loop-input.out.items c.put_input.new.out.items _
    c.loop-input-test.true c.in_ok-put_input.ensures c.loop-input.invariant
