use Rattle.std.proofs.Common.{rules, ◌≡◌, ◌∙◌, ap, true, false}
use Rattle.std.specs.Prelude.{Some, slice_get, refl, length}
use Rattle.std.proofs.lemmas.Option.{slice_get_read}
use Rattle.pig_plan.specs.Plans.{node_of, op_of}
use Rattle.pig_moves.specs.Pushed.{reads_nothing}
use Rattle.pig_moves.proofs.Steps.{next_dead, next_live}
use Rattle.pig_push.proofs.clearing.next_node.Goals as goal

pub returns-then-lives : goal.returns-then-lives
returns-then-lives c =
    let at : slice_get c.args.nodes.now c.args.own ≡ Some c.in-Some-Some.node.now =
    slice_get_read c.args.nodes.now (length c.args.nodes.now) c.args.own c.in-Some-Some.node.now refl c.in-Some-Some.ensures.lookup.3.0 c.in-Some-Some.ensures.lookup.1 in
    let mark : slice_get c.args.live.now c.args.own ≡ Some true =
    slice_get_read c.args.live.now (length c.args.live.now) c.args.own c.in-Some-Some.lives.now refl c.in-Some-Some.ensures'.lookup.3.0 c.in-Some-Some.ensures'.lookup.1
    ∙ ap Some c.if-lives.true in
    let is : node_of c.in_ok-copied.copied ≡ node_of c.in-Some-Some.node.now = search rules in
    next_live c.args.nodes.now c.args.live.now c.requires.live c.args.own c.in-Some-Some.node.now at (node_of c.in_ok-copied.copied) mark is

pub returns : goal.returns
returns c =
    let at : slice_get c.args.nodes.now c.args.own ≡ Some c.in-Some-Some.node.now =
    slice_get_read c.args.nodes.now (length c.args.nodes.now) c.args.own c.in-Some-Some.node.now refl c.in-Some-Some.ensures.lookup.3.0 c.in-Some-Some.ensures.lookup.1 in
    let mark : slice_get c.args.live.now c.args.own ≡ Some false =
    slice_get_read c.args.live.now (length c.args.live.now) c.args.own c.in-Some-Some.lives.now refl c.in-Some-Some.ensures'.lookup.3.0 c.in-Some-Some.ensures'.lookup.1
    ∙ ap Some c.if-lives.false in
    let nothing : reads_nothing (op_of c.in_ok-no_rows.field-0) = search rules in
    next_dead c.args.nodes.now c.args.live.now c.requires.live c.args.own c.in-Some-Some.node.now at
    (node_of (record { op = c.in_ok-no_rows.field-0; statement = c.in-Some-Some.node.now.statement })) mark nothing
