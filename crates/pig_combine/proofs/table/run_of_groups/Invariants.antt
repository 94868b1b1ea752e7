use Rattle.std.proofs.Common.{◌≡◌, map, []}
use Rattle.std.specs.List.{AllByRecursion}
use Rattle.pig_runs.specs.Entries.{and_entries, no_entries_in}
use Rattle.pig_combine.specs.Holdings.{IsHeldGroup, entry_told, group_told}
use Rattle.pig_combine.proofs.table.run_of_groups.Given as goal

abbrev pub invariant-loop-group : goal.invariant-loop-group
invariant-loop-group l =
    (l.builder ≡ and_entries (map entry_told (map group_told l.yielded)) (no_entries_in []))
    × AllByRecursion IsHeldGroup l.group-iterator.rest.items
