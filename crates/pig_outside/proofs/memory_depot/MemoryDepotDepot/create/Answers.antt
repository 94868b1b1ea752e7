use Rattle.std.proofs.Common.{Some, OnOk, ◌≡◌, refl, sym, subst}
use Rattle.pig_outside.specs.Memory.{depot_shelf}
use Rattle.pig_outside.specs.Shelf.{CanCreate, with_new}
use Rattle.pig_outside.proofs.ShelfSteps.{with_dirs, created}
use Rattle.pig_outside.proofs.memory_depot.MemoryDepotDepot.create.Goals as goal

pub returns-clause-created : goal.returns-clause-created
returns-clause-created c =
    let asked = depot_shelf c.call.new.self in
    let absent : CanCreate c.args.dir.now asked = subst (CanCreate c.args.dir.now) (sym c.call.ensures.shelf) (c.requires (depot_shelf c.args.self.now) refl) in
    subst (λ s. OnOk c.add_dir.result (Some (with_dirs asked c.add_dir.new.dirs.items) ≡ Some (with_new c.args.dir.now s))) c.call.ensures.shelf
    (created c.add_dir.result c.args.dir.now asked c.add_dir.new.dirs.items absent c.add_dir.ensures.ok)
