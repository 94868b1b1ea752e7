use Rattle.std.proofs.Common.{◌≡◌, ◌++◌, map}
use Rattle.std.specs.List.{range_with_len}
use Rattle.pig_physical.specs.declared.parts.Part.TheVariants as parts
use Rattle.pig_cutter.specs.Feeds.{made_on}
use Rattle.pig_cutter.proofs.listing.add_outputs.Given as goal

abbrev pub invariant-loop-at : goal.invariant-loop-at
invariant-loop-at l = l.tasks ≡ l.initial.tasks ++ map (λ at. made_on l.node l.wave l.way (parts.Output l.from at)) (range_with_len 0 l.at)
