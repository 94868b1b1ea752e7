use Rattle.std.proofs.Common.{◌∙◌}
use Rattle.pig_plan.specs.Plans.{plan_of}
use Rattle.pig_share.proofs.Finding.{open_is}
use Rattle.pig_share.proofs.sharing.is_open.Goals as goal

pub returns : goal.returns
returns c = λ v stands.
    c.is_live_and_free.ensures
    ∙ open_is (plan_of c.args.nodes.now) c.args.live.now c.args.apart.now c.args.place c.mark_at-alive.result c.mark_at-stays.result c.requires.live c.requires.apart c.mark_at-alive.ensures c.mark_at-stays.ensures v stands
