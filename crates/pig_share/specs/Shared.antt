-- Nodes that do the same become one: the first of them takes the place of the others, wherever these are named.
use Rattle.std.specs.Prelude.{◌≡◌, ◌≤◌, ℕ, Bool, true, false, not, List, map, Some, slice_get, bytes_eq}
use Rattle.pig_plan.specs.Nodes.{is_bare, is_live, is_sorted}
use Rattle.pig_plan.specs.Plans.{Plan, PlanNode, PlanOp, p_limit, p_store, p_assert}
use Rattle.pig_plan.specs.Renumbered.{rename, renamed}
use Rattle.pig_plan.specs.Rewrites.{SameMeaning}
use Rattle.pig_plan.specs.Valid.{IsPlan, in_order}

-- A bare LIMIT keeps the rows of its own statement, and a STORE stores as its own: each of them stays. An ASSERT that is named by an earlier one
-- fails where that one does, whose statement is no later where the nodes are in order; where they are not, each ASSERT stays, too.
abbrev pub is_apart : Bool → (ℕ → Bool) → PlanOp → Bool
is_apart ordered sorted (p_limit input count) = not (sorted input)
is_apart ordered sorted (p_store input path delim) = true
is_apart ordered sorted (p_assert input cond message) = not ordered
is_apart ordered sorted o = false

abbrev pub apart_in : Plan → PlanOp → Bool
apart_in plan o = is_apart (in_order plan) (is_sorted plan) o

-- What the node numbered k of a plan is named by once inputs are mapped: the number of a node that does the same to the same inputs,
-- which is live where this one is, stands no later, and is this one where it stays apart.
pub record IsNamedBy (p : Plan) (at : ℕ → ℕ) (k : ℕ) (v : PlanNode) : Type 0 where
  pub first : PlanNode
  pub stands : slice_get p (at k) ≡ Some first
  pub same : rename at first.op ≡ rename at v.op
  pub lives : is_live p k ≡ true → is_live p (at k) ≡ true
  pub early : at k ≤ k
  pub apart : apart_in p v.op ≡ true → at k ≡ k
  pub free : apart_in p v.op ≡ false → apart_in p first.op ≡ false

-- of live nodes that do the same to the same inputs, all are named by one
abbrev pub IsOne : Plan → (ℕ → ℕ) → Type 0
IsOne p at = (j k : ℕ) (v w : PlanNode) → slice_get p j ≡ Some v → slice_get p k ≡ Some w → is_live p j ≡ true → is_live p k ≡ true
    → apart_in p v.op ≡ false → apart_in p w.op ≡ false → rename at v.op ≡ rename at w.op → at j ≡ at k

-- The shared plan has each node at its number, with its statement, over the first nodes that do what its inputs do. What is named no more is
-- dead.
pub record IsShared (p q : Plan) (at : ℕ → ℕ) : Type 0 where
  pub nodes : q ≡ map (renamed at) p
  pub named : (k : ℕ) (v : PlanNode) → slice_get p k ≡ Some v → IsNamedBy p at k v
  pub one : IsOne p at

-- no two live nodes do the same to the same inputs, but for those that stay apart
abbrev pub EachIsOnce : Plan → Type 0
EachIsOnce q = (j k : ℕ) (v w : PlanNode) → slice_get q j ≡ Some v → slice_get q k ≡ Some w → is_live q j ≡ true → is_live q k ≡ true
    → apart_in q v.op ≡ false → v.op ≡ w.op → j ≡ k

abbrev pub SharedPlansMeanTheSame : Type 0
SharedPlansMeanTheSame = (p q : Plan) (at : ℕ → ℕ) → IsPlan p → IsPlan q → IsShared p q at → SameMeaning p q

abbrev pub SharedNodesAreOnce : Type 0
SharedNodesAreOnce = (p q : Plan) (at : ℕ → ℕ) → IsPlan p → IsPlan q → IsShared p q at → EachIsOnce q

-- ---- plans in the order of their statements, as scripts have them

-- a STORE of this path
abbrev pub stores_in : List ℕ → PlanOp → Bool
stores_in path (p_store input other delim) = bytes_eq other path
stores_in path o = false

-- no two STOREs have one path
abbrev pub HaveOwnPaths : Plan → Type 0
HaveOwnPaths plan = (j k : ℕ) (v w : PlanNode) (path : List ℕ) → slice_get plan j ≡ Some v → slice_get plan k ≡ Some w
    → stores_in path v.op ≡ true → stores_in path w.op ≡ true → j ≡ k

-- no two live nodes other than bare LIMITs have the same operator and inputs
abbrev pub NoTwoAlike : Plan → Type 0
NoTwoAlike plan = (j k : ℕ) (v w : PlanNode) → slice_get plan j ≡ Some v → slice_get plan k ≡ Some w → is_live plan j ≡ true → is_live plan k ≡ true
    → is_bare (is_sorted plan) v.op ≡ false → v.op ≡ w.op → j ≡ k

abbrev pub OrderedPlansShareAll : Type 0
OrderedPlansShareAll = (p q : Plan) (at : ℕ → ℕ) → in_order p ≡ true → HaveOwnPaths p → IsShared p q at → EachIsOnce q → NoTwoAlike q

-- what a node is named by has no later statement
abbrev pub LowerStatementsStay : Type 0
LowerStatementsStay = (p q : Plan) (at : ℕ → ℕ) → in_order p ≡ true → IsShared p q at
    → (k : ℕ) (v first : PlanNode) → slice_get p k ≡ Some v → slice_get p (at k) ≡ Some first → first.statement ≤ v.statement

-- Of a plan all that is alike is shared: no two live nodes but bare LIMITs have the same operator and inputs, and of nodes that do the same the
-- one of the lower statement stays.
pub record SharesAll (p q : Plan) : Type 0 where
  pub at : ℕ → ℕ
  pub is : IsShared p q at
  pub once : NoTwoAlike q
  pub lower : (k : ℕ) (v first : PlanNode) → slice_get p k ≡ Some v → slice_get p (at k) ≡ Some first → first.statement ≤ v.statement

-- A plan that may be so shared: its nodes stand in the order of their statements, and no two STOREs have one path.
pub record IsSharable (p : Plan) : Type 0 where
  pub ordered : in_order p ≡ true
  pub own : HaveOwnPaths p
