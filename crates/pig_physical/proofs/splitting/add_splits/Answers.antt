use Rattle.std.proofs.Common.{rules, ◌≡◌, ◌++◌, ◌∷◌, []}
use Rattle.pig_storage.specs.Splits.{split_at}
use Rattle.pig_physical.proofs.Loops.{one_more}
use Rattle.pig_physical.proofs.splitting.add_splits.Goals as goal

pub loop-at-preserved : goal.loop-at-preserved
loop-at-preserved c =
    let adds : c.push.new.self ≡ c.loop-at.found ++ c.split_at.result ∷ [] = search rules in
    one_more (split_at c.args.split c.args.piece c.args.size) c.args.found.now c.loop-at.found c.push.new.self c.loop-at.at c.split_at.result
    c.loop-at.invariant adds c.split_at.ensures
