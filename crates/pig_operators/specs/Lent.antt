-- What stands in groups and stretches of a run's entries.
use Rattle.std.specs.Prelude.{ℕ, List}
use Rattle.pig_value.specs.Trees.{Tree}
use Rattle.pig_operators.specs.Groups.{bags_at, first_key, rows_at}
use Rattle.pig_operators.specs.declared.places.Group.{Group}
use Rattle.pig_operators.specs.declared.places.Stretch.{Stretch}

-- the key of a group, and the bags of its inputs
abbrev pub key_in : Group → Tree
key_in g = first_key g.run.now g.from

abbrev pub bags_in : Group → ℕ → List (List Tree)
bags_in g = bags_at g.run.now g.from g.end

-- the rows of a stretch
abbrev pub rows_in : Stretch → List (List Tree)
rows_in s = rows_at s.run.now s.from s.end
