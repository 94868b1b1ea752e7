use Rattle.std.proofs.Common.{rules, ◌≡◌, ◌==◌, ◌&&◌, ◌≤◌, not, true, false, length}
use Rattle.std.specs.Prelude.{Some, slice_get, refl}
use Rattle.std.proofs.lemmas.Option.{slice_get_read}
use Rattle.pig_plan.specs.Nodes.{names}
use Rattle.pig_plan.specs.Plans.{node_of}
use Rattle.pig_moves.proofs.Steps.{no_other_more, only_use, other_use}
use Rattle.pig_push.proofs.reading.is_only_use.Goals as goal

pub returns-then-is_other_use-clause-no : goal.returns-then-is_other_use-clause-no
returns-then-is_other_use-clause-no c = λ only.
    let at : slice_get c.args.nodes.now c.loop-other.other ≡ Some c.index-nodes-other.result =
    slice_get_read c.args.nodes.now (length c.args.nodes.now) c.loop-other.other c.index-nodes-other.result refl (search rules) c.index-nodes-other.is in
    let is : (not (c.loop-other.other == c.args.user) && names (node_of c.index-nodes-other.result).op c.args.number) ≡ true = search rules in
    absurd (other_use c.args.nodes.now c.args.number c.args.user c.loop-other.other c.index-nodes-other.result at is only)

pub loop-other-preserved : goal.loop-other-preserved
loop-other-preserved c =
    let at : slice_get c.args.nodes.now c.loop-other.other ≡ Some c.index-nodes-other.result =
    slice_get_read c.args.nodes.now (length c.args.nodes.now) c.loop-other.other c.index-nodes-other.result refl (search rules) c.index-nodes-other.is in
    let is : (not (c.loop-other.other == c.args.user) && names (node_of c.index-nodes-other.result).op c.args.number) ≡ false = search rules in
    no_other_more c.args.nodes.now c.args.number c.args.user c.loop-other.other c.index-nodes-other.result at is c.loop-other.invariant

pub returns-clause-yes : goal.returns-clause-yes
returns-clause-yes c = λ yes.
    let whole : length c.args.nodes.now ≤ c.loop-other.other = search rules in
    only_use c.args.nodes.now c.args.number c.args.user c.loop-other.other whole c.loop-other.invariant
