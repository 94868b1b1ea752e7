use Rattle.std.proofs.Common.{rules, ◌≡◌, ◌++◌}
use Rattle.std.specs.Prelude.{Some, slice_get, refl, length}
use Rattle.std.proofs.lemmas.Option.{slice_get_read}
use Rattle.pig_plan.specs.Moves.{fields_in}
use Rattle.pig_typed.specs.Typed.{link_of, typed}
use Rattle.pig_moves.proofs.Steps.{arg_fields_added, link_fields_added}
use Rattle.pig_moves.proofs.naming.+add_fields.Goals as goal

pub add_of_links-loop-link-preserved : goal.add_of_links-loop-link-preserved
add_of_links-loop-link-preserved t c =
    let at : slice_get c.args.links.now c.loop-link.link-index ≡ Some c.link-item.result =
    slice_get_read c.args.links.now (length c.args.links.now) c.loop-link.link-index c.link-item.result refl (search rules) c.link-item.is in
    let added : c.add_of_link.new.into ≡ c.loop-link.into ++ fields_in (link_of c.link-item.result).1 = search rules in
    link_fields_added c.args.links.now c.loop-link.link-index c.link-item.result c.args.into.now c.loop-link.into c.add_of_link.new.into at c.loop-link.invariant added

pub add_of_args-loop-e-preserved : goal.add_of_args-loop-e-preserved
add_of_args-loop-e-preserved t c =
    let at : slice_get c.args.args.now c.loop-e.e-index ≡ Some c.e-item.result =
    slice_get_read c.args.args.now (length c.args.args.now) c.loop-e.e-index c.e-item.result refl (search rules) c.e-item.is in
    let added : c.add_fields.new.into ≡ c.loop-e.into ++ fields_in (typed c.e-item.result) = search rules in
    arg_fields_added c.args.args.now c.loop-e.e-index c.e-item.result c.args.into.now c.loop-e.into c.add_fields.new.into at c.loop-e.invariant added
