use Rattle.std.proofs.Common.{rules}
use Rattle.pig_runs.proofs.Sliced.{one_copied}
use Rattle.pig_runs.proofs.builder.RunBuilder.copy_between.Goals as goal

pub loop-at-preserved : goal.loop-at-preserved
loop-at-preserved c =
    one_copied c.args.from c.loop-at.at c.args.other.now.entries c.args.self.now c.loop-at.self c.copy_entry.new.self (search rules) (search rules) c.loop-at.invariant c.in_ok-copy_entry.ensures.ok
