-- What is copied so far.
use Rattle.std.proofs.Common.{◌≡◌, take}
use Rattle.pig_schema.proofs.schema.+copy_field.Given as goal

abbrev pub invariant-copy_schema-loop-field : goal.invariant-copy_schema-loop-field
invariant-copy_schema-loop-field l = l.made.items ≡ take l.field-index l.field-items
