use Rattle.std.proofs.Common.{◌≡◌, ◌∙◌, ap, None, slice_get}
use Rattle.std.specs.Option.{option_map}
use Rattle.std.proofs.lemmas.Option.{slice_get-map, slice_get_past}
use Rattle.pig_plan.specs.Plans.{node_of, plan_of}
use Rattle.pig_physical.proofs.Headings.{none_added}
use Rattle.pig_physical.proofs.listing.add_heads.Goals as goal

pub returns-in-None : goal.returns-in-None
returns-in-None c =
    let none : slice_get c.args.nodes.now c.args.number ≡ None = slice_get_past c.args.nodes.now c.args.number c.in-None.ensures.lookup.3 in
    none_added (plan_of c.args.nodes.now) c.args.number c.args.found.now (slice_get-map node_of c.args.nodes.now c.args.number ∙ ap (option_map node_of) none)
