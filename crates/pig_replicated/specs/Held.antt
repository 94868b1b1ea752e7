-- A row where it stands, with its key.
use Rattle.pig_value.specs.Trees.{row_tree, tree}
use Rattle.pig_replicated.specs.declared.building.Held.{Held}
use Rattle.pig_replicated.specs.Holding.{KeyedRow}

abbrev pub keyed_of : Held → KeyedRow
keyed_of held = record { key = tree held.key; row = row_tree held.row.now }
