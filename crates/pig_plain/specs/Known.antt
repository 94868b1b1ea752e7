-- Rows sorted by keys, and their ranks.
use Rattle.std.specs.Prelude.{◌≡◌, Bool, List}
use Rattle.pig_value.specs.Trees.{Tree, rows_tree}
use Rattle.pig_typed.specs.declared.blocks.SortKey.{SortKey}
use Rattle.pig_plan.specs.Operators.{order_rows, rank_rows}
use Rattle.pig_plain.specs.declared.ranking.Known.{Known}

-- the rows as ORDER has them, and these, each behind its rank
pub record AreKnown (keys : List SortKey) (dense : Bool) (rows : List (List Tree)) (known : Known) : Type 0 where
  pub sorted : rows_tree known.sorted ≡ order_rows keys rows
  pub ranked : rows_tree known.ranked ≡ rank_rows keys dense (order_rows keys rows)
