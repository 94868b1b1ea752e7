use Rattle.std.proofs.Common.{Some, OnErr, refl, sym, subst}
use Rattle.pig_outside.specs.Memory.{depot_shelf}
use Rattle.pig_outside.specs.Shelf.{CanPut, LeftUnmarked}
use Rattle.pig_outside.proofs.ShelfSteps.{with_dirs, open_parts, left_as_before, left_unchanged}
use Rattle.pig_outside.proofs.memory_depot.MemoryDepotDepot.put.Goals as goal

pub add_part-requires : goal.add_part-requires
add_part-requires c =
    let there = subst (CanPut c.args.dir.now c.args.part) (sym c.call.ensures.shelf) (c.requires (depot_shelf c.args.self.now) refl) in
    open_parts c.args.dir.now there.parts c.call.new.self.dirs.items there.is_open

pub returns-clause-err : goal.returns-clause-err
returns-clause-err c =
    let asked = depot_shelf c.call.new.self in
    let there = subst (CanPut c.args.dir.now c.args.part) (sym c.call.ensures.shelf) (c.requires (depot_shelf c.args.self.now) refl) in
    subst (λ s. OnErr c.add_part.result (LeftUnmarked c.args.dir.now (Some s) (Some (with_dirs asked c.add_part.new.dirs.items)))) c.call.ensures.shelf
    (left_as_before c.add_part.result c.args.dir.now there.parts asked c.add_part.new.dirs.items there.is_open c.add_part.ensures.err)

pub returns-in_err-call-clause-err : goal.returns-in_err-call-clause-err
returns-in_err-call-clause-err c =
    let there = c.requires (depot_shelf c.args.self.now) refl in
    left_unchanged c.from_residual.result c.args.dir.now there.parts (depot_shelf c.args.self.now) (depot_shelf c.call.new.self) there.is_open c.call.ensures.shelf
