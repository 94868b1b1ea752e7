-- What stands in entries that are lent.
use Rattle.std.specs.Prelude.{ℕ, List}
use Rattle.pig_value.specs.Trees.{Tree}
use Rattle.pig_operators.specs.Groups.{bags_at, first_key, rows_at}
use Rattle.pig_gather.specs.declared.lent.Group.{Group}
use Rattle.pig_gather.specs.declared.lent.Stretch.{Stretch}

-- the key of a group, and the bags of its inputs
abbrev pub key_of : Group → Tree
key_of g = first_key g.entries.now g.from

abbrev pub bags_in : Group → ℕ → List (List Tree)
bags_in g = bags_at g.entries.now g.from g.end

-- the rows of a stretch
abbrev pub rows_of : Stretch → List (List Tree)
rows_of s = rows_at s.entries.now s.from s.end
