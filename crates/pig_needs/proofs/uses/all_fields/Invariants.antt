use Rattle.std.proofs.Common.{◌≡◌, map}
use Rattle.std.specs.List.{range_with_len}
use Rattle.pig_needs.specs.Needed.{field}
use Rattle.pig_needs.proofs.uses.all_fields.Given as goal

abbrev pub invariant-loop-position : goal.invariant-loop-position
invariant-loop-position l = l.found ≡ map field (range_with_len 0 l.position)
