use Rattle.std.proofs.Common.{◌≡◌, map, take}
use Rattle.pig_schema.specs.FieldTrees.{kind_of}
use Rattle.pig_schema.proofs.schema.kinds.Given as goal

abbrev pub invariant-loop-field : goal.invariant-loop-field
invariant-loop-field l = l.kinds ≡ map kind_of (take l.field-index l.field-items)
