use Rattle.std.proofs.Common.{◌≤◌, ◌<◌, rules}
use Rattle.pig_runs.specs.Entries.{entries_of_all}
use Rattle.pig_runs.proofs.Chosen.{stands_there}
use Rattle.pig_runs.proofs.selecting.stands_at.Goals as goal

pub returns : goal.returns
returns c is_true f here =
    let above : c.in-Some.before ≤ c.args.place = search rules in
    let until : c.args.place < c.in-Some-count_all.up_to = search rules in
    stands_there c.args.run.now.dirs (entries_of_all c.args.runs.now) f c.args.place c.in-Some.before c.in-Some-count_all.up_to (c.in-Some.ensures f here) (c.in-Some-count_all.ensures f here) above until
