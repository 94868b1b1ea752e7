use Rattle.std.proofs.Common.{◌≡◌, ◌++◌, subst}
use Rattle.std.specs.Result.{OnOk}
use Rattle.pig_cutter.proofs.Loops.{outputs_read}
use Rattle.pig_cutter.proofs.listing.add_parts.Goals as goal

pub returns-in-Outputs : goal.returns-in-Outputs
returns-in-Outputs c =
    subst (λ ts. OnOk c.add_outputs.result (c.add_outputs.new.tasks ≡ c.args.tasks.now ++ ts))
    (outputs_read c.args.split c.in-Outputs.from c.in-Outputs.count c.args.node c.args.wave c.args.way c.args.source.now c.in-Outputs.is) c.add_outputs.ensures
