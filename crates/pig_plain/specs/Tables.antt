-- What contracts see of a table of nodes, and what a use of its rows leaves.
use Rattle.std.specs.Prelude.{◌≡◌, ◌≢◌, ◌+◌, ℕ, Bool, false, List, [], ◌∷◌, ◌++◌, get_or, length, slice_set}
use Rattle.pig_value.specs.declared.values.Value.{Value}
use Rattle.pig_value.specs.Trees.{Tree}
use Rattle.pig_plain.specs.Coming.{relation_rows}
use Rattle.pig_plain.specs.declared.relation.Relation.{Relation}
use Rattle.pig_plain.specs.declared.relation.Relation.TheVariants.{Standing}
use Rattle.pig_plain.specs.Operating.{table_rows}

-- the relations of the nodes so far, and of each node of the plan one more than the number of its last use
pub record Held : Type 0 where
  pub relations : List Relation
  pub ends : List ℕ

-- the rows of each node so far, and none of another
abbrev pub rows_of : Held → ℕ → List (List Tree)
rows_of table = table_rows table.relations

-- one node more, and other rows that stand at a node
abbrev pub and_relation : Relation → Held → Held
and_relation relation table = record { relations = table.relations ++ relation ∷ []; ends = table.ends }

abbrev pub put_at : ℕ → List (List Value) → Held → Held
put_at node rows table = record { relations = slice_set table.relations node (Standing rows); ends = table.ends }

-- A node's rows are used: those of other nodes are as before, and so are its own where that isn't the last time.
pub record IsLeft (last : Bool) (node : ℕ) (before after : Held) : Type 0 where
  pub size : length after.relations ≡ length before.relations
  pub ends : after.ends ≡ before.ends
  pub others : (k : ℕ) → k ≢ node → rows_of after k ≡ rows_of before k
  pub kept : last ≡ false → (k : ℕ) → rows_of after k ≡ rows_of before k

-- The node behind those of the table uses rows: those of each node are as before, but where that is its last use.
pub record IsUsed (before after : Held) : Type 0 where
  pub size : length after.relations ≡ length before.relations
  pub ends : after.ends ≡ before.ends
  pub later : (k : ℕ) → get_or before.ends k 0 ≢ length before.relations + 1 → rows_of after k ≡ rows_of before k

-- it makes a relation of such rows
pub record HasFound (found : List (List Tree)) (before after : Held) (made : Relation) : Type 0 where
  pub rows : relation_rows made ≡ found
  pub left : IsUsed before after
