use Rattle.std.proofs.Common.{◌∙◌, ap, slice_set}
use Rattle.pig_physical.specs.Handed.{outs_of}
use Rattle.pig_driver.proofs.Looks.{bared_is}
use Rattle.pig_driver.proofs.leaving.bare_at.Goals as goal

pub returns : goal.returns
returns c =
    ap outs_of (c.replace.ensures.list ∙ ap (λ outs. slice_set outs c.args.at c.bared.result) c.replace-held.ensures.list)
    ∙ bared_is c.args.outs.now c.args.at c.new.result c.replace-held.result c.bared.result c.replace-held.ensures.was c.bared.ensures
