use Rattle.std.proofs.Common.{rules, ◌≡◌, ◌∙◌, ap}
use Rattle.pig_physical.specs.Handed.{outs_of}
use Rattle.pig_physical.specs.Running.{all_unmet}
use Rattle.pig_collect.specs.Tallies.{least_of}
use Rattle.pig_collect.proofs.Lesser.{least_is}
use Rattle.pig_collect.proofs.collecting.collect.Goals as goal

pub returns-clause-unmet : goal.returns-clause-unmet
returns-clause-unmet c =
    let same : c.as_slice-3.result.now ≡ c.args.outs = search rules in
    c.least_unmet-unmet.ensures ∙ ap (λ outs. least_of (all_unmet (outs_of outs))) same ∙ least_is (all_unmet (outs_of c.args.outs))
