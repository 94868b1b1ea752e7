-- The order of rows by their keys alone.
use Rattle.std.specs.Prelude.{List, [], ◌∷◌}
use Rattle.std.specs.Ordering.{ordering_then}
use Rattle.std.specs.declared.cmp.Ordering.{Ordering}
use Rattle.std.specs.declared.cmp.Ordering.TheVariants.{Equal}
use Rattle.pig_value.specs.Orders.{dir_cmp}
use Rattle.pig_value.specs.Trees.{at, Tree}
use Rattle.pig_typed.specs.declared.blocks.SortKey.{SortKey}

-- each key in its direction, and rows whose keys are all equal are equal
abbrev pub by_keys_cmp : List SortKey → List Tree → List Tree → Ordering
by_keys_cmp [] x y = Equal
by_keys_cmp (key ∷ keys) x y = ordering_then (dir_cmp key.dir (at key.position x) (at key.position y)) (by_keys_cmp keys x y)
