use Rattle.std.proofs.Common.{rules, ◌≡◌, length, subst}
use Rattle.std.specs.Prelude.{IfOk, Some, slice_get, refl}
use Rattle.std.proofs.lemmas.Option.{slice_get_read}
use Rattle.pig_prune.proofs.Turns.{marks_here}
use Rattle.pig_prune.proofs.pruning.marks_at.Goals as goal

pub returns : goal.returns
returns c =
    let at : slice_get c.args.nodes.now c.args.place ≡ Some c.in-Some-Some.node.now =
    slice_get_read c.args.nodes.now (length c.args.nodes.now) c.args.place c.in-Some-Some.node.now refl c.in-Some-Some.ensures.lookup.3.0 c.in-Some-Some.ensures.lookup.1 in
    let need : slice_get c.args.needs.now c.args.place ≡ Some c.in-Some-Some.need.now =
    slice_get_read c.args.needs.now (length c.args.needs.now) c.args.place c.in-Some-Some.need.now refl c.in-Some-Some.ensures'.lookup.3.0 c.in-Some-Some.ensures'.lookup.1 in
    subst (λ xs. IfOk c.op_marks.result (λ marks. marks ≡ xs))
    (marks_here c.args.nodes.now c.args.needs.now c.args.place c.in-Some-Some.node.now c.in-Some-Some.need.now c.requires at need)
    (search rules)
