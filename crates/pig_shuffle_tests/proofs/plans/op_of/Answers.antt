use Rattle.std.proofs.Common.{ap, sym, ◌∙◌}
use Rattle.std.specs.Option.{option_map}
use Rattle.std.specs.Prelude.{slice_get}
use Rattle.pig_value.specs.Valid.{IsValue}
use Rattle.pig_value.proofs.list_laws.Indexing.{get_map}
use Rattle.pig_value.proofs.list_laws.Listing.{each_at}
use Rattle.pig_plan.specs.Laws.{OpLiteralsAre}
use Rattle.pig_plan.specs.Plans.{node_of, plan_of}
use Rattle.pig_shuffle_tests.proofs.plans.op_of.Goals as goal

pub returns-in-Some : goal.returns-in-Some
returns-in-Some c =
    let nodes = c.args.plan.now in
    each_at (λ n. OpLiteralsAre IsValue n.op) (plan_of nodes) c.args.number (node_of c.in-Some.node.now)
    (get_map node_of nodes c.args.number
    ∙ ap (option_map node_of) (sym (c.in-Some.ensures.value ∙ ap (λ ns. slice_get ns c.args.number) c.nodes.ensures.nodes))) c.nodes.ensures.literals
