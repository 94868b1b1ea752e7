use Rattle.std.proofs.Common.{rules, ◌≡◌, length}
use Rattle.std.specs.Prelude.{Some, slice_get, refl}
use Rattle.std.proofs.lemmas.Option.{slice_get_read}
use Rattle.std.proofs.lemmas.Result.{on_ok_weaker}
use Rattle.pig_plan.specs.Plans.{node_of, op_of, plan_of}
use Rattle.pig_plan.specs.Valid.{IsPlan}
use Rattle.pig_covers.specs.Laws.{NeedsAreSeen}
use Rattle.pig_cuts.specs.Cuts.{cut_at}
use Rattle.pig_cuts.specs.Laws.{FittedNodesFit}
use Rattle.pig_cuts.specs.Plans.{fit_op}
use Rattle.pig_prune.proofs.Turns.{next_fits, node_there, one_more, seen_at}
use Rattle.pig_prune.proofs.pruning.add_fitted.Goals as goal

pub add_node-requires : goal.add_node-requires
add_node-requires c =
    let at : slice_get c.args.nodes.now c.args.place ≡ Some c.in-Some-Some.node.now =
    slice_get_read c.args.nodes.now (length c.args.nodes.now) c.args.place c.in-Some-Some.node.now refl c.in-Some-Some.ensures.lookup.3.0 c.in-Some-Some.ensures.lookup.1 in
    let own : slice_get c.args.marks.now c.args.place ≡ Some c.in-Some-Some.own.now =
    slice_get_read c.args.marks.now (length c.args.marks.now) c.args.place c.in-Some-Some.own.now refl c.in-Some-Some.ensures'.lookup.3.0 c.in-Some-Some.ensures'.lookup.1 in
    let law : NeedsAreSeen = search rules in
    let may = seen_at law (plan_of c.args.nodes.now) c.requires.valid c.requires.lives c.args.place (node_of c.in-Some-Some.node.now) (node_there c.args.nodes.now c.args.place c.in-Some-Some.node.now at) in
    let is : node_of c.in_ok-fitted.fitted ≡ record { op = fit_op (cut_at c.args.cuts.now) c.in-Some-Some.own.now (op_of c.in-Some-Some.node.now.op); statement = c.in-Some-Some.node.now.statement } = search rules in
    let valid : IsPlan (plan_of c.args.made.now) = search rules in
    let fitting : FittedNodesFit = search rules in
    next_fits c.args.nodes.now c.args.marks.now c.args.cuts.now c.args.place c.in-Some-Some.node.now c.in-Some-Some.own.now c.requires.marks c.requires.cuts at own fitting c.requires.valid may (plan_of c.args.made.now) (node_of c.in_ok-fitted.fitted) valid is c.requires.so_far

pub returns : goal.returns
returns c =
    let at : slice_get c.args.nodes.now c.args.place ≡ Some c.in-Some-Some.node.now =
    slice_get_read c.args.nodes.now (length c.args.nodes.now) c.args.place c.in-Some-Some.node.now refl c.in-Some-Some.ensures.lookup.3.0 c.in-Some-Some.ensures.lookup.1 in
    let own : slice_get c.args.marks.now c.args.place ≡ Some c.in-Some-Some.own.now =
    slice_get_read c.args.marks.now (length c.args.marks.now) c.args.place c.in-Some-Some.own.now refl c.in-Some-Some.ensures'.lookup.3.0 c.in-Some-Some.ensures'.lookup.1 in
    let law : NeedsAreSeen = search rules in
    let may = seen_at law (plan_of c.args.nodes.now) c.requires.valid c.requires.lives c.args.place (node_of c.in-Some-Some.node.now) (node_there c.args.nodes.now c.args.place c.in-Some-Some.node.now at) in
    let is : node_of c.in_ok-fitted.fitted ≡ record { op = fit_op (cut_at c.args.cuts.now) c.in-Some-Some.own.now (op_of c.in-Some-Some.node.now.op); statement = c.in-Some-Some.node.now.statement } = search rules in
    on_ok_weaker c.add_node.result
    (λ grown. one_more c.args.nodes.now c.args.marks.now c.args.cuts.now c.args.place c.in-Some-Some.node.now c.in-Some-Some.own.now c.requires.marks c.requires.cuts at own c.requires.valid may (plan_of c.args.made.now) (plan_of c.add_node.new.made) (node_of c.in_ok-fitted.fitted) is c.requires.so_far grown)
    c.add_node.ensures
