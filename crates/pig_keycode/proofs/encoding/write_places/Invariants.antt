-- What is written and what is to come are the codes of all fields.
use Rattle.std.proofs.Common.{◌≡◌, ◌++◌, drop}
use Rattle.pig_value.specs.Extended.{IsExtended}
use Rattle.pig_value.specs.Trees.{row_tree}
use Rattle.pig_keycode.specs.Keys.{codes_in, fields_at}
use Rattle.pig_keycode.proofs.encoding.write_places.Given as goal

abbrev pub invariant-loop-dir : goal.invariant-loop-dir
invariant-loop-dir l = (l.out.items ++ codes_in (drop l.dir-index l.dirs) (fields_at l.left (row_tree l.row)) ≡ l.fn.out.items ++ codes_in l.fn.dirs (fields_at l.fn.places (row_tree l.fn.row))) × IsExtended l.fn.out.items l.out.items
