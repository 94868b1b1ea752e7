use Rattle.pig_runs.proofs.Lending.{held_at, picks}
use Rattle.pig_runs.proofs.cutting.pick_one.Goals as goal

pub add_lent-requires : goal.add_lent-requires
add_lent-requires c = held_at c.args.points.now.dirs c.args.order.now c.place.result c.lent_at-lent.result c.lent_at-lent.ensures c.requires.held

pub returns-clause-ok : goal.returns-clause-ok
returns-clause-ok c es stands = picks c.args.points.now.dirs es c.args.order.now c.args.n c.args.k c.place.result c.lent_at-lent.result c.args.points.now c.add_lent.new.self c.add_lent.result stands c.place.ensures.is c.lent_at-lent.ensures c.add_lent.ensures.ok
