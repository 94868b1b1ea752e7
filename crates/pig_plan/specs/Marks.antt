-- Which nodes are marked as live while the nodes are gone through from the last.
use Rattle.std.specs.Prelude.{◌≡◌, ◌≤◌, ◌<◌, ◌==◌, ◌&&◌, ◌||◌, ℕ, Bool, false, List, drop, length, get_or}
use Rattle.std.specs.List.{list_any}
use Rattle.pig_plan.specs.Nodes.{is_live, is_used}
use Rattle.pig_plan.specs.Plans.{Plan}

-- From the node numbered i on, the live nodes are marked; before it, those that a live node from there on names.
pub record AreMarks (plan : Plan) (i : ℕ) (marks : List Bool) : Type 0 where
  pub size : length marks ≡ length plan
  pub behind : (k : ℕ) → i ≤ k → k < length plan → get_or marks k false ≡ is_live plan k
  pub before : (k : ℕ) → k < i → get_or marks k false ≡ is_used k i (drop i plan)

-- One node was gone through: it is marked where it is a STORE or was marked, and its inputs then are.
pub record IsMarked (i : ℕ) (stores : Bool) (inputs : List ℕ) (old new : List Bool) : Type 0 where
  pub size : length new ≡ length old
  pub own : get_or new i false ≡ (stores || get_or old i false)
  pub behind : (k : ℕ) → i < k → get_or new k false ≡ get_or old k false
  pub before : (k : ℕ) → k < i → get_or new k false ≡ (((stores || get_or old i false) && list_any (λ j. j == k) inputs) || get_or old k false)
