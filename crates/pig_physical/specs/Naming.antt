-- How often nodes name a node, as it is told node by node, and the node that names it where just one does.
use Rattle.std.specs.Prelude.{◌≡◌, ℕ, ◌==◌, List, [], ◌∷◌, get_or, Option, Some, None, if◌then◌else◌}
use Rattle.pig_typed.specs.Typed.{TypedBlock}
use Rattle.pig_plan.specs.Nodes.{live}
use Rattle.pig_plan.specs.Plans.{Plan}
use Rattle.pig_physical.specs.Combining.{block_at}
use Rattle.pig_physical.specs.Heading.{inputs_at}
use Rattle.pig_physical.specs.declared.namings.Naming.{Naming}
use Rattle.pig_physical.specs.declared.namings.Naming.TheVariants as namings

abbrev pub and_named : ℕ → Naming → Naming
and_named user namings.Never = namings.Once user
and_named user naming = namings.Often

-- by the inputs of a node
abbrev pub named_in : ℕ → ℕ → List ℕ → Naming → Naming
named_in k user [] naming = naming
named_in k user (i ∷ inputs) naming = named_in k user inputs (if i == k then and_named user naming else naming)

-- by nodes, in turn
abbrev pub naming_by : Plan → ℕ → List ℕ → Naming → Naming
naming_by plan k [] naming = naming
naming_by plan k (user ∷ users) naming = naming_by plan k users (named_in k user (inputs_at plan user) naming)

-- of each node, by the live nodes
abbrev pub AreNamings : Plan → List Naming → Type 0
AreNamings plan table = (k : ℕ) → get_or table k namings.Never ≡ naming_by plan k (live plan) namings.Never

-- the node that is the one to name it
abbrev pub user_of : Naming → Option ℕ
user_of (namings.Once user) = Some user
user_of naming = None

-- the block of the FOREACH on a node that is the one to name it
abbrev pub block_by : Plan → ℕ → Naming → Option TypedBlock
block_by plan k (namings.Once user) = block_at plan k user
block_by plan k naming = None
