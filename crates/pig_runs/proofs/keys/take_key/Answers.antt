use Rattle.std.proofs.Common.{refl, sym, true≢false}
use Rattle.pig_runs.specs.Packed.{packed_lent}
use Rattle.pig_runs.proofs.Once.{some_key, took_none, took_one}
use Rattle.pig_runs.proofs.keys.take_key.Goals as goal

pub returns-then-stands_again : goal.returns-then-stands_again
returns-then-stands_again c = took_none c.args.sorted.now.entries c.args.at c.args.found.now c.requires.within (c.if-stands_again.ensures.0 refl)

pub add_alone-requires-clause-key : goal.add_alone-requires-clause-key
add_alone-requires-clause-key c =
    some_key c.args.sorted.now.dirs c.args.sorted.now.entries c.args.at (packed_lent c.lend.result) c.requires.dirs c.lend.ensures.good c.lend.ensures.is

pub returns : goal.returns
returns c =
    took_one c.args.sorted.now.dirs c.args.sorted.now.entries c.args.at (packed_lent c.lend.result) c.args.found.now c.add_alone.new.found c.add_alone.result
    c.requires.dirs c.requires.sorted c.lend.ensures.good c.lend.ensures.is (λ same. true≢false (sym (c.if-stands_again.ensures.1 same))) c.add_alone.ensures
