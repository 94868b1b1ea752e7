use Rattle.std.proofs.Common.{◌≡◌, ◌∙◌, ◌∷◌, [], ap}
use Rattle.std.specs.Option.{option_map}
use Rattle.pig_outside.specs.Shelf.{with_dir, with_part, open_state}
use Rattle.pig_outside.proofs.ShelfLaws.{can_put, can_finish, part_added}
use Rattle.pig_device_tests.proofs.outside.store.Goals as goal

pub put-requires : goal.put-requires
put-requires g c =
    rw c.in_ok-create.ensures.created (can_put c.args.dir.now [] (g.D.Depot.shelf c.exists.new.self))

pub finish-requires : goal.finish-requires
finish-requires g c =
    let put : g.D.Depot.shelf c.put.new.self ≡ option_map (with_dir c.args.dir.now (open_state (c.args.bytes.now ∷ []))) (g.D.Depot.shelf c.exists.new.self) =
    c.in_ok-put.ensures.put
    ∙ ap (λ s. option_map (with_part c.args.dir.now c.args.bytes.now) s) c.in_ok-create.ensures.created
    ∙ part_added c.args.dir.now c.args.bytes.now (open_state []) (g.D.Depot.shelf c.exists.new.self)
    in rw put (can_finish c.args.dir.now (c.args.bytes.now ∷ []) (g.D.Depot.shelf c.exists.new.self))
