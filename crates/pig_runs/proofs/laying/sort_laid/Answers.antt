use Rattle.pig_runs.proofs.SortedSlots.{placed_sorted}
use Rattle.pig_runs.proofs.laying.sort_laid.Goals as goal

pub lay_out-requires : goal.lay_out-requires
lay_out-requires c = placed_sorted c.args.bytes.now.items c.args.slots.now.items c.sort_slots.new.slots.items c.sort_slots.ensures.same c.requires

pub returns-in_default-clause-placed : goal.returns-in_default-clause-placed
returns-in_default-clause-placed c = placed_sorted c.args.bytes.now.items c.args.slots.now.items c.sort_slots.new.slots.items c.sort_slots.ensures.same c.requires
