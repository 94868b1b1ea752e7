use Rattle.std.proofs.Common.{ap, map}
use Rattle.pig_algebra.specs.Cuts.{cut_typed}
use Rattle.pig_reduce.proofs.Finishing.{fold_first}
use Rattle.pig_reduce.proofs.folds.add_next.Goals as goal

pub returns-clause-rows : goal.returns-clause-rows
returns-clause-rows c =
    fold_first c.args.entries.now c.args.from c.group_end-end.result c.group_end-end.ensures c.len.ensures.sorted c.requires.first
    (map cut_typed c.args.cuts.now) c.requires.ascending
    c.args.built.now.rows c.add_group.new.built.rows (ap (λ b. b.rows) c.in_ok-add_group.ensures)
