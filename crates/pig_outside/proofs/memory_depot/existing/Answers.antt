use Rattle.std.proofs.Common.{◌≡◌, ◌∙◌, false, true, None, sym}
use Rattle.pig_outside.specs.Shelf.{state_of}
use Rattle.pig_outside.proofs.PlaceLaws.{place_is, no_place}
use Rattle.pig_outside.proofs.memory_depot.existing.Goals as goal

pub unreachable-requires : goal.unreachable-requires
unreachable-requires c =
    let none : state_of c.args.dir.now c.args.dirs.now ≡ None = no_place c.args.dir.now c.args.dirs.now (sym c.place.ensures ∙ c.in_default.is) in
    let broken : false ≡ true = rw none at c.requires in
    cc

pub returns : goal.returns
returns c = place_is c.args.dir.now c.args.dirs.now c.in-Some.at (sym c.place.ensures ∙ c.in-Some.is)
