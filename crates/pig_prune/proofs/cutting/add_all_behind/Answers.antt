use Rattle.std.proofs.Common.{rules, ◌≡◌, ◌++◌, ◌∷◌, []}
use Rattle.pig_cuts.specs.Plans.{behind, whole_field}
use Rattle.pig_prune.proofs.Ends.{behind_on}
use Rattle.pig_prune.proofs.cutting.add_all_behind.Goals as goal

pub loop-position-preserved : goal.loop-position-preserved
loop-position-preserved c =
    let is : c.push.new.self ≡ c.loop-position.kept ++ behind c.args.first (whole_field c.loop-position.position) ∷ [] = search rules in
    behind_on c.args.kept.now c.loop-position.kept c.push.new.self c.args.first c.loop-position.position c.loop-position.invariant is
