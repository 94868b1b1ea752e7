use Rattle.std.proofs.Common.{sym}
use Rattle.pig_runs.proofs.SortedSlots.{held_sorted, seen_sorted}
use Rattle.pig_runs.proofs.builder.RunBuilder.sort.Goals as goal

pub sort_laid-requires : goal.sort_laid-requires
sort_laid-requires c = c.self.invariant

pub invariant_of-self-inside : goal.invariant_of-self-inside
invariant_of-self-inside c =
    (held_sorted c.self.inside.dirs c.self.inside.bytes.items c.sort_laid.new.bytes.items c.self.inside.slots.items c.sort_laid.new.slots.items c.self.inside.held c.sort_laid.ensures.order, tt)

pub invariant_of-self : goal.invariant_of-self
invariant_of-self c = c.sort_laid.ensures.placed

pub returns : goal.returns
returns c =
    seen_sorted c.self.inside.dirs c.self.inside.bytes.items c.sort_laid.new.bytes.items c.self.inside.slots.items c.sort_laid.new.slots.items c.self.inside.held c.sort_laid.ensures.order c.self-1.given.0 c.args.self.now (sym c.self.view_is)
