use Rattle.std.proofs.Common.{◌≡◌, ◌++◌, map, drop}
use Rattle.pig_schema.specs.FieldTrees.{schema_tree}
use Rattle.pig_typing.specs.Parts.{picked}
use Rattle.pig_typing.specs.Views.{pick_tree}
use Rattle.pig_typing.proofs.parts.columns.Given as goal

abbrev pub invariant-loop-pick : goal.invariant-loop-pick
invariant-loop-pick l = schema_tree l.columns.items ++ picked (map pick_tree (drop l.pick-index l.picks)) ≡ picked (map pick_tree l.picks)
