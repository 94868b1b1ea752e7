use Rattle.std.proofs.Common.{◌≡◌, map}
use Rattle.std.specs.List.{range_with_len}
use Rattle.pig_typed.specs.Typed.{typed, x_field}
use Rattle.pig_check.proofs.cubes.first_fields.Given as goal

-- the fields so far
abbrev pub invariant-loop-field : goal.invariant-loop-field
invariant-loop-field l = map typed l.keys ≡ map x_field (range_with_len 0 l.field)
