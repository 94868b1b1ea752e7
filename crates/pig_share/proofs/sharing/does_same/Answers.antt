use Rattle.std.proofs.Common.{sym, ◌∙◌}
use Rattle.pig_plan.specs.Plans.{node_of, plan_of}
use Rattle.pig_share.proofs.Finding.{place_does, place_passes}
use Rattle.pig_share.proofs.sharing.does_same.Goals as goal

pub returns-clause-yes : goal.returns-clause-yes
returns-clause-yes c = λ h.
    place_does c.args.nodes.now c.args.table.now (plan_of c.args.made.now) c.args.own c.args.place (node_of c.args.node.now) c.requires.within c.requires.before c.requires.so_far c.requires.node
    c.is_open-this_open.result c.is_open-open.result c.is_same_at-same.result c.is_open-this_open.ensures c.is_open-open.ensures c.is_same_at-same.ensures.test c.is_same_at-same.ensures.columns
    (sym c.are_all.ensures ∙ h)

pub returns-clause-no : goal.returns-clause-no
returns-clause-no c = λ d.
    c.are_all.ensures
    ∙ place_passes c.args.nodes.now c.args.table.now (plan_of c.args.made.now) c.args.own c.args.place (node_of c.args.node.now) c.requires.within c.requires.before c.requires.so_far c.requires.node
    c.is_open-this_open.result c.is_open-open.result c.is_same_at-same.result c.is_open-this_open.ensures c.is_open-open.ensures c.is_same_at-same.ensures.test c.is_same_at-same.ensures.columns
    d
