use Rattle.std.proofs.Common.{rules, ◌≡◌, ◌+◌, ◌++◌, ◌∷◌, []}
use Rattle.pig_prune.proofs.Ends.{range_on}
use Rattle.pig_prune.proofs.cutting.add_range.Goals as goal

pub loop-place-preserved : goal.loop-place-preserved
loop-place-preserved c =
    let is : c.push.new.self ≡ c.loop-place.numbers ++ (c.args.first + c.loop-place.place) ∷ [] = search rules in
    range_on c.args.numbers.now c.loop-place.numbers c.push.new.self c.args.first c.loop-place.place c.loop-place.invariant is
