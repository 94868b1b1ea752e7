-- Going through the nodes of a plan from the last: the needs that are found so far.
use Rattle.std.specs.Prelude.{◌≡◌, ◌≤◌, ◌<◌, ℕ, List, [], drop, length, get_or}
use Rattle.pig_plan.specs.Meaning.{width_at}
use Rattle.pig_plan.specs.Nodes.{is_live}
use Rattle.pig_plan.specs.Plans.{Plan}
use Rattle.pig_needs.specs.declared.lists.Need.{Need}
use Rattle.pig_needs.specs.declared.lists.Use.{Use}
use Rattle.pig_needs.specs.Needed.{named_behind, need_of, with_uses}

-- From the node numbered i on the needs are whole; of the nodes before it they are what the nodes from there on name.
pub record AreNeedsFrom (plan : Plan) (i : ℕ) (found : List (List Need)) : Type 0 where
  pub size : length found ≡ length plan
  pub behind : (k : ℕ) → i ≤ k → k < length plan → get_or found k [] ≡ need_of plan k
  pub before : (k : ℕ) → k < i → get_or found k [] ≡ named_behind (width_at plan) (is_live plan) i (drop i plan) k

-- of nodes before the one numbered i, what uses name of them is added
pub record AreUsed (i : ℕ) (uses : List Use) (old new : List (List Need)) : Type 0 where
  pub size : length new ≡ length old
  pub behind : (k : ℕ) → i ≤ k → get_or new k [] ≡ get_or old k []
  pub before : (k : ℕ) → k < i → get_or new k [] ≡ with_uses k (get_or old k []) uses
