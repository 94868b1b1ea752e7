use Rattle.std.proofs.Common.{◌≡◌, ◌++◌, map, drop}
use Rattle.pig_typing.specs.Parts.{typed_column}
use Rattle.pig_typing.specs.Views.{typed_tree}
use Rattle.pig_relations.specs.Views.{fields_seen}
use Rattle.pig_relations.proofs.keyed.key_columns.Given as goal

abbrev pub invariant-loop-key : goal.invariant-loop-key
invariant-loop-key l =
    fields_seen l.columns.items ++ map typed_column (map typed_tree (drop l.key-index l.keys)) ≡ map typed_column (map typed_tree l.keys)
