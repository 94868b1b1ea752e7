use Rattle.std.proofs.Common.{rules, ◌≡◌}
use Rattle.pig_collect.specs.Tallies.{least_of}
use Rattle.pig_collect.proofs.Lesser.{outs_on}
use Rattle.pig_collect.proofs.unmet.least_in.Goals as goal

pub loop-left-preserved : goal.loop-left-preserved
loop-left-preserved c =
    let is : c.least_of.result ≡ least_of c.out-item.result.unmet = search rules in
    outs_on c.loop-left.left.now c.out-item.result c.loop-left.found c.least_of.result c.lesser-found.result _ c.in-len1-up.len_at_least c.out-item.is is
    c.lesser-found.ensures c.loop-left.invariant
