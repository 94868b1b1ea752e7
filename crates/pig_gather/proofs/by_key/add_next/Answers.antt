use Rattle.std.proofs.Common.{ap}
use Rattle.pig_operators.proofs.Coming.{group_first}
use Rattle.pig_gather.proofs.by_key.add_next.Goals as goal

pub returns-clause-rows : goal.returns-clause-rows
returns-clause-rows c =
    group_first c.args.how.now c.args.entries.now c.args.from c.group_end-end.result c.group_end-end.ensures c.requires.ascending c.len.ensures.sorted c.args.built.now.rows c.add_group.new.built.rows
    (ap (λ b. b.rows) c.in_ok-add_group.ensures)
