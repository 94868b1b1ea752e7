use Rattle.std.proofs.Common.{rules, ◌≡◌, ◌+◌}
use Rattle.std.specs.Prelude.{Some, slice_get, refl, length, max}
use Rattle.std.proofs.lemmas.Option.{slice_get_read}
use Rattle.pig_typed.specs.Typed.{link_of, typed}
use Rattle.pig_moves.specs.Depths.{depth, size}
use Rattle.pig_moves.proofs.Nesting.{arg_depth_more, arg_size_more, link_depth_more, link_size_more}
use Rattle.pig_moves.proofs.extents.+extent_of.Goals as goal

pub of_links-loop-link-preserved : goal.of_links-loop-link-preserved
of_links-loop-link-preserved t c =
    let at : slice_get c.args.links.now c.loop-link.link-index ≡ Some c.link-item.result =
    slice_get_read c.args.links.now (length c.args.links.now) c.loop-link.link-index c.link-item.result refl (search rules) c.link-item.is in
    let own : c.in_ok-own.own.levels ≡ depth (link_of c.link-item.result).1 = search rules in
    let added : c.in_ok-all.all.levels ≡ max c.loop-link.all.levels c.in_ok-own.own.levels = search rules in
    let own_nodes : c.in_ok-own.own.nodes ≡ size (link_of c.link-item.result).1 = search rules in
    let added_nodes : c.in_ok-all.all.nodes ≡ c.loop-link.all.nodes + c.in_ok-own.own.nodes = search rules in (
      link_depth_more c.args.links.now c.loop-link.link-index c.link-item.result c.loop-link.all.levels c.in_ok-own.own.levels c.in_ok-all.all.levels at c.loop-link.invariant.0 own added,
      link_size_more c.args.links.now c.loop-link.link-index c.link-item.result c.loop-link.all.nodes c.in_ok-own.own.nodes c.in_ok-all.all.nodes at c.loop-link.invariant.1 own_nodes added_nodes,
    )

pub of_args-loop-e-preserved : goal.of_args-loop-e-preserved
of_args-loop-e-preserved t c =
    let at : slice_get c.args.args.now c.loop-e.e-index ≡ Some c.e-item.result =
    slice_get_read c.args.args.now (length c.args.args.now) c.loop-e.e-index c.e-item.result refl (search rules) c.e-item.is in
    let own : c.in_ok-own.own.levels ≡ depth (typed c.e-item.result) = search rules in
    let added : c.in_ok-all.all.levels ≡ max c.loop-e.all.levels c.in_ok-own.own.levels = search rules in
    let own_nodes : c.in_ok-own.own.nodes ≡ size (typed c.e-item.result) = search rules in
    let added_nodes : c.in_ok-all.all.nodes ≡ c.loop-e.all.nodes + c.in_ok-own.own.nodes = search rules in (
      arg_depth_more c.args.args.now c.loop-e.e-index c.e-item.result c.loop-e.all.levels c.in_ok-own.own.levels c.in_ok-all.all.levels at c.loop-e.invariant.0 own added,
      arg_size_more c.args.args.now c.loop-e.e-index c.e-item.result c.loop-e.all.nodes c.in_ok-own.own.nodes c.in_ok-all.all.nodes at c.loop-e.invariant.1 own_nodes added_nodes,
    )
