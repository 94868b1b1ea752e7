use Rattle.std.proofs.Common.{◌≤◌, ◌∙◌, [], arith, length}
use Rattle.pig_runs.specs.Alone.{alone_once, keys_in}
use Rattle.pig_runs.proofs.Once.{all_taken}
use Rattle.pig_runs.proofs.SortedSlots.{ascends_run}
use Rattle.pig_runs.proofs.keys.run_of_keys.Goals as goal

pub from_sorted-requires : goal.from_sorted-requires
from_sorted-requires c =
    let over : length c.args.sorted.now.entries ≤ c.entries.at = omega (arith, c.entries-test.false, c.len-at-end.ensures.count) in
    ascends_run c.entries.found [] (alone_once (keys_in c.args.sorted.now.entries))
    (all_taken c.args.sorted.now.entries c.entries.at c.entries.found over c.entries.invariant.0 c.entries.invariant.1)

pub returns : goal.returns
returns c =
    let over : length c.args.sorted.now.entries ≤ c.entries.at = omega (arith, c.entries-test.false, c.len-at-end.ensures.count) in
    c.from_sorted.ensures ∙ all_taken c.args.sorted.now.entries c.entries.at c.entries.found over c.entries.invariant.0 c.entries.invariant.1
