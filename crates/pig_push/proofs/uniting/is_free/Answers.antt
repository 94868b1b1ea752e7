use Rattle.std.proofs.Common.{rules, ◌≡◌, length, true}
use Rattle.std.specs.Prelude.{Some, slice_get, refl}
use Rattle.std.proofs.lemmas.Option.{slice_get_read}
use Rattle.pig_plan.specs.Plans.{node_of, op_of}
use Rattle.pig_moves.specs.Pushed.{is_load}
use Rattle.pig_moves.proofs.Steps.{node_there}
use Rattle.pig_push.proofs.uniting.is_free.Goals as goal

pub returns : goal.returns
returns c = λ yes.
    let at : slice_get c.args.nodes.now c.args.number ≡ Some c.in-Some.node.now =
    slice_get_read c.args.nodes.now (length c.args.nodes.now) c.args.number c.in-Some.node.now refl c.in-Some.ensures.lookup.3.0 c.in-Some.ensures.lookup.1 in
    let load : is_load (op_of c.in-Some.node.now.op) ≡ true = search rules in
    record {
      node = node_of c.in-Some.node.now;
      stands = node_there c.args.nodes.now c.args.number c.in-Some.node.now at;
      idles = load;
      unread = c.is_unread.ensures yes;
    }
