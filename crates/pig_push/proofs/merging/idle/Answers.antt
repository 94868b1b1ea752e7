use Rattle.std.proofs.Common.{rules}
use Rattle.pig_plan.specs.Plans.{op_of}
use Rattle.pig_moves.specs.Pushed.{reads_nothing}
use Rattle.pig_push.proofs.MergePass.{gone_held}
use Rattle.pig_push.proofs.merging.idle.Goals as goal

pub returns : goal.returns
returns c =
    let nothing : reads_nothing (op_of c.in_ok-op.op) = search rules in
    gone_held c.in_ok-op.op c.args.statement c.new-more.result c.new-more.ensures nothing
