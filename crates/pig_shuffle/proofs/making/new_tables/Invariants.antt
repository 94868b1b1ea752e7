use Rattle.std.proofs.Common.{◌≡◌, length}
use Rattle.std.specs.List.{AllByRecursion}
use Rattle.pig_typed.specs.Typed.{block_typed}
use Rattle.pig_algebra.specs.Cuts.{cuts_in}
use Rattle.pig_shuffle.specs.Held.{HoldsNothing}
use Rattle.pig_shuffle.proofs.making.new_tables.Given as goal

abbrev pub invariant-tables : goal.invariant-tables
invariant-tables l = (length l.tables.items ≡ l.counter) × AllByRecursion (HoldsNothing (cuts_in (block_typed l.block))) l.tables.items
