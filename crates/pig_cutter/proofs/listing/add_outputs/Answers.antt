use Rattle.std.proofs.Common.{◌∙◌, ap}
use Rattle.pig_physical.specs.declared.parts.Part.TheVariants as parts
use Rattle.pig_physical.proofs.Loops.{one_more}
use Rattle.pig_cutter.specs.Feeds.{made_on}
use Rattle.pig_cutter.proofs.listing.add_outputs.Goals as goal

pub loop-at-preserved : goal.loop-at-preserved
loop-at-preserved c =
    one_more (λ at. made_on c.args.node c.args.wave c.args.way (parts.Output c.args.from at)) c.args.tasks.now c.loop-at.tasks c.push.new.self c.loop-at.at c.made_on.result
    c.loop-at.invariant c.in_ok-push.ensures.ok (c.made_on.ensures ∙ ap (made_on c.args.node c.args.wave c.args.way) c.in_ok-part.ensures)
