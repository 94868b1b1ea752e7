-- Groups of rows that have one key each, as a lookup keeps them.
use Rattle.std.specs.Prelude.{◌≡◌, List, [], ◌∷◌, map, ⊤}
use Rattle.std.specs.List.{AllByRecursion, flat_map}
use Rattle.std.specs.declared.cmp.Ordering.TheVariants.{Less}
use Rattle.pig_value.specs.Orders.{bag_of, tree_cmp}
use Rattle.pig_value.specs.Trees.{row_tree, rows_tree, tree}
use Rattle.pig_replicated.specs.declared.groups.Group.{Group}
use Rattle.pig_replicated.specs.Holding.{KeyedRow}

-- the rows of a group with their key
abbrev pub rows_in : Group → List KeyedRow
rows_in group = map (λ row. record { key = tree group.key; row = row_tree row }) group.rows

-- the rows of all groups, one group after another
abbrev pub held_in : List Group → List KeyedRow
held_in groups = flat_map rows_in groups

-- each group's rows are sorted, and its key stands before those of the groups behind it
abbrev pub AreGrouped : List Group → Type 0
AreGrouped [] = ⊤
AreGrouped (group ∷ groups) = (bag_of (rows_tree group.rows) ≡ rows_tree group.rows)
    × AllByRecursion (λ other. tree_cmp (tree group.key) (tree other.key) ≡ Less) groups
    × AreGrouped groups
