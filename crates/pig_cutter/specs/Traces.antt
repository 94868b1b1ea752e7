-- Paths that go on.
use Rattle.std.specs.Prelude.{ℕ, List, ◌++◌}
use Rattle.pig_plan.specs.Nodes.{Entering, Path}

-- a path of a node that goes on through others, and enters an input
abbrev pub behind : ℕ → List ℕ → Path → Entering
behind input nodes path = record { input = input; path = record { source = path.source; nodes = path.nodes ++ nodes } }
