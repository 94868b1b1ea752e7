-- Going through the nodes of a plan in order: what each is named by so far.
use Rattle.std.specs.Prelude.{◌≡◌, ◌<◌, ℕ, Bool, false, true, List, ◌++◌, map, take, length, Option, None, Some, slice_get, get_or}
use Rattle.pig_plan.specs.Nodes.{is_live}
use Rattle.pig_plan.specs.Plans.{Plan, PlanNode}
use Rattle.pig_plan.specs.Renumbered.{rename, renamed}
use Rattle.pig_share.specs.Hashed.{op_hash}
use Rattle.pig_share.specs.Shared.{IsNamedBy, IsShared, apart_in}

abbrev pub at_of : List ℕ → ℕ → ℕ
at_of table i = get_or table i 0

-- The first nodes are named, whatever stands behind them in the table, and the made ones are they over mapped inputs.
pub record IsSoFar (p : Plan) (table : List ℕ) (made : Plan) (i : ℕ) : Type 0 where
  pub size : length table ≡ i
  pub nodes : (more : List ℕ) → made ≡ map (renamed (at_of (table ++ more))) (take i p)
  pub named : (more : List ℕ) (k : ℕ) (v : PlanNode) → k < i → slice_get p k ≡ Some v → IsNamedBy p (at_of (table ++ more)) k v
  pub one : (more : List ℕ) (j k : ℕ) (v w : PlanNode) → j < i → k < i → slice_get p j ≡ Some v → slice_get p k ≡ Some w → is_live p j ≡ true → is_live p k ≡ true
      → apart_in p v.op ≡ false → apart_in p w.op ≡ false → rename (at_of (table ++ more)) v.op ≡ rename (at_of (table ++ more)) w.op → at_of (table ++ more) j ≡ at_of (table ++ more) k

-- The node numbered j, which stands before the one numbered i, is live as this one is, stays apart as little, and does the same to the same
-- inputs.
pub record DoesSame (p : Plan) (table : List ℕ) (i j : ℕ) : Type 0 where
  pub v : PlanNode
  pub w : PlanNode
  pub stands_i : slice_get p i ≡ Some v
  pub stands_j : slice_get p j ≡ Some w
  pub lives_i : is_live p i ≡ true
  pub lives_j : is_live p j ≡ true
  pub free_i : apart_in p v.op ≡ false
  pub free_j : apart_in p w.op ≡ false
  pub same : rename (at_of table) w.op ≡ rename (at_of table) v.op

-- The number by which the node numbered i is named: its own where no live one before it does the same, or where it is dead or stays apart,
-- and else that of one that does.
pub data IsNumber (p : Plan) (table : List ℕ) (i : ℕ) (v : PlanNode) (n : ℕ) : Type 0 where
  own : n ≡ i → ((j : ℕ) (w : PlanNode) → j < i → slice_get p j ≡ Some w → is_live p j ≡ true → is_live p i ≡ true → apart_in p w.op ≡ false
      → apart_in p v.op ≡ false → rename (at_of table) w.op ≡ rename (at_of table) v.op → ⊥) → IsNumber p table i v n
  other : (j : ℕ) (w : PlanNode) → j < i → slice_get p j ≡ Some w → is_live p j ≡ true → apart_in p w.op ≡ false
      → apart_in p v.op ≡ false → rename (at_of table) w.op ≡ rename (at_of table) v.op → n ≡ at_of table j → IsNumber p table i v n

pub data IsFound (p : Plan) (table : List ℕ) (i n : ℕ) : Type 0 where
  none : n ≡ i → ((j : ℕ) → j < i → DoesSame p table i j → ⊥) → IsFound p table i n
  earlier : (j : ℕ) → j < i → DoesSame p table i j → n ≡ at_of table j → IsFound p table i n

-- what a plan shares its nodes by
pub record Shares (p q : Plan) : Type 0 where
  pub table : List ℕ
  pub is : IsShared p q (at_of table)

-- of each node whether it stays apart
abbrev pub apart_list : Plan → List Bool
apart_list plan = map (λ node. apart_in plan node.op) plan

-- the node numbered i over mapped inputs
abbrev pub IsRenamedAt : Plan → List ℕ → ℕ → PlanNode → Type 0
IsRenamedAt p table i node = (v : PlanNode) → slice_get p i ≡ Some v → node ≡ renamed (at_of table) v

-- ---- which nodes are listed under the hashes of their operators

-- a live node that doesn't stay apart
pub record IsOpen (p : Plan) (k : ℕ) : Type 0 where
  pub v : PlanNode
  pub stands : slice_get p k ≡ Some v
  pub lives : is_live p k ≡ true
  pub free : apart_in p v.op ≡ false

-- of a table as a function: it has a key, and a later one has all that an earlier one had
abbrev pub HasKey : (ℕ → Option ℕ) → ℕ → Type 0
HasKey f k = f k ≡ None → ⊥

abbrev pub KeepsKeys : (ℕ → Option ℕ) → (ℕ → Option ℕ) → Type 0
KeepsKeys f g = (k : ℕ) → HasKey f k → HasKey g k

-- each open node that was made has its operator's hash there
abbrev pub AreListed : Plan → Plan → (ℕ → Option ℕ) → Type 0
AreListed p made f = (j : ℕ) (u : PlanNode) → slice_get made j ≡ Some u → IsOpen p j → HasKey f (op_hash u.op)
