use Rattle.std.proofs.Common.{rules}
use Rattle.pig_push.specs.Merged.{OnFilter, plan_held}
use Rattle.pig_push.proofs.MergePass.{merges_at_ok, merges_none}
use Rattle.pig_push.proofs.merging.merge_at.Goals as goal

pub returns-in_default : goal.returns-in_default
returns-in_default c = merges_none c.args.readers.now (plan_held c.args.held.now)

pub returns : goal.returns
returns c =
    let found : OnFilter c.args.readers.now c.args.held.now c.in-Some.low c.args.high = search rules in
    merges_at_ok c.merge.result c.args.readers.now c.args.held.now c.merge.new.held c.in-Some.low c.args.high found c.merge.ensures
