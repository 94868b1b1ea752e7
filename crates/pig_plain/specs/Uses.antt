-- Which nodes are live, and up to which node each is looked at.
use Rattle.std.specs.Prelude.{◌≡◌, ◌<◌, ℕ, ◌==◌, Bool, true, false, List, [], ◌∷◌, length, max, Some, slice_get, get_or, if◌then◌else◌}
use Rattle.std.specs.List.{list_any}
use Rattle.pig_plan.specs.Nodes.{is_live, names}
use Rattle.pig_plan.specs.Plans.{Plan, PlanNode}

-- each live node before the one numbered i has a lower number than stands at each node that it names
abbrev pub AreLate : Plan → ℕ → List ℕ → Type 0
AreLate plan i ends = (j k : ℕ) (node : PlanNode) → j < i → slice_get plan j ≡ Some node → is_live plan j ≡ true → names node.op k ≡ true → j < get_or ends k 0

-- each node is marked where it is live
abbrev pub AreMarked : Plan → List Bool → Type 0
AreMarked plan marks = (k : ℕ) → k < length plan → get_or marks k false ≡ is_live plan k

-- and what stands at a node is above all live nodes that name it
pub record AreUses (plan : Plan) (marks : List Bool) (ends : List ℕ) : Type 0 where
  pub live : AreMarked plan marks
  pub late : AreLate plan (length plan) ends

abbrev pub raised : ℕ → Bool → ℕ → ℕ
raised end named old = if named then max old end else old

-- the only input is that one
abbrev pub names_one : ℕ → ℕ → Bool
names_one input k = list_any (λ i. i == k) (input ∷ [])
