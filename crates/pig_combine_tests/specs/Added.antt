-- An entry of the code as it is added to a table.
use Rattle.pig_value.specs.Gathering.{Entry}
use Rattle.pig_value.specs.Trees.{row_tree, tree}
use Rattle.pig_runs.specs.Entries.{keyed}
use Rattle.pig_runs.specs.declared.entries.Entry as declared
use Rattle.pig_combine.specs.Holdings.{entry_of}

abbrev pub as_added : declared.Entry → Entry
as_added e = entry_of (tree e.key) (row_tree e.row)
