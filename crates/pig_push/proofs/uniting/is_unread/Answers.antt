use Rattle.std.proofs.Common.{rules, ◌≡◌, ◌≤◌, length, false}
use Rattle.std.specs.Prelude.{Some, slice_get, refl}
use Rattle.std.proofs.lemmas.Option.{slice_get_read}
use Rattle.pig_plan.specs.Nodes.{names}
use Rattle.pig_plan.specs.Plans.{node_of}
use Rattle.pig_moves.proofs.Unites.{Unread, none_read, not_read, one_number_more}
use Rattle.pig_push.proofs.uniting.is_unread.Goals as goal

pub loop-other-preserved : goal.loop-other-preserved
loop-other-preserved c = λ m v below stands.
    let at : slice_get c.args.nodes.now c.loop-other.other ≡ Some c.index-nodes-other.result =
    slice_get_read c.args.nodes.now (length c.args.nodes.now) c.loop-other.other c.index-nodes-other.result refl (search rules) c.index-nodes-other.is in
    let no : names (node_of c.index-nodes-other.result).op c.args.number ≡ false = search rules in
    one_number_more (Unread c.args.nodes.now c.args.number) c.loop-other.other (λ i less w there. c.loop-other.invariant i w less there)
    (not_read c.args.nodes.now c.args.number c.loop-other.other c.index-nodes-other.result at no) m below v stands

pub returns : goal.returns
returns c = λ yes.
    let whole : length c.args.nodes.now ≤ c.loop-other.other = search rules in
    none_read c.args.nodes.now c.args.number c.loop-other.other whole c.loop-other.invariant
