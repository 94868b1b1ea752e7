use Rattle.pig_cutter.proofs.Loops.{none_for}
use Rattle.pig_cutter.proofs.listing.add_way_tasks.Goals as goal

pub returns-in-None : goal.returns-in-None
returns-in-None c =
    none_for c.args.listing.now.split c.args.node c.args.wave c.args.way c.args.source c.args.listing.now.sources.now c.args.tasks.now c.in-None.ensures.lookup.3
