use Rattle.std.proofs.Common.{rules, ◌≡◌, ◌++◌, map}
use Rattle.std.specs.Prelude.{Some, slice_get, refl, length}
use Rattle.std.proofs.lemmas.Option.{slice_get_read}
use Rattle.pig_plan.specs.Conjuncts.{conjuncts}
use Rattle.pig_typed.specs.Typed.{link_of, typed}
use Rattle.pig_moves.proofs.Steps.{links_added}
use Rattle.pig_moves.proofs.chaining.+add_conjuncts.Goals as goal

pub add_links-loop-link-preserved : goal.add_links-loop-link-preserved
add_links-loop-link-preserved t c =
    let at : slice_get c.args.links.now c.loop-link.link-index ≡ Some c.link-item.result =
    slice_get_read c.args.links.now (length c.args.links.now) c.loop-link.link-index c.link-item.result refl (search rules) c.link-item.is in
    let added : map typed c.add_link.new.into ≡ map typed c.loop-link.into ++ conjuncts (link_of c.link-item.result).1 = search rules in
    links_added c.args.links.now c.loop-link.link-index c.link-item.result (map typed c.args.into.now) (map typed c.loop-link.into) (map typed c.add_link.new.into) at c.loop-link.invariant added
