use Rattle.std.proofs.Common.{refl, sym, subst}
use Rattle.pig_outside.specs.Memory.{depot_shelf}
use Rattle.pig_outside.specs.Shelf.{CanFinish}
use Rattle.pig_outside.proofs.ShelfSteps.{open_parts, left_unchanged}
use Rattle.pig_outside.proofs.memory_depot.MemoryDepotDepot.finish.Goals as goal

pub mark-requires : goal.mark-requires
mark-requires c =
    let there = subst (CanFinish c.args.dir.now) (sym c.call.ensures.shelf) (c.requires (depot_shelf c.args.self.now) refl) in
    open_parts c.args.dir.now there.parts c.call.new.self.dirs.items there.is_open

pub returns-in_err-call-clause-err : goal.returns-in_err-call-clause-err
returns-in_err-call-clause-err c =
    let there = c.requires (depot_shelf c.args.self.now) refl in
    left_unchanged c.from_residual.result c.args.dir.now there.parts (depot_shelf c.args.self.now) (depot_shelf c.call.new.self) there.is_open c.call.ensures.shelf
