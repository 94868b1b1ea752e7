use Rattle.std.proofs.Common.{rules, ◌≡◌, map}
use Rattle.std.specs.List.{flat_map}
use Rattle.pig_physical.specs.Handed.{out_of}
use Rattle.pig_collect.specs.Tallies.{least_of}
use Rattle.pig_collect.proofs.Lesser.{waves_on}
use Rattle.pig_collect.proofs.unmet.least_unmet.Goals as goal

pub loop-left-preserved : goal.loop-left-preserved
loop-left-preserved c =
    let is : c.least_in.result ≡ least_of (flat_map (λ out. out.unmet) (map out_of c.wave-item.result)) = search rules in
    waves_on c.loop-left.left.now c.wave-item.result c.loop-left.found c.least_in.result c.lesser-found.result _ c.in-len1-up.len_at_least c.wave-item.is is
    c.lesser-found.ensures c.loop-left.invariant
