-- When two nodes stand in the place of two others, and the nodes behind see what they saw.
use Rattle.std.specs.Prelude.{◌≡◌, ◌<◌, ◌≤◌, ℕ, Bool, true, false, List, length, map, take, Option, Some, None, slice_set}
use Rattle.pig_plan.specs.Given.{before_of, kinds_of_given}
use Rattle.pig_plan.specs.NodeKinds.{RowKinds, kinds_at, kinds_table, node_gives}
use Rattle.pig_plan.specs.Plans.{Plan, PlanNode, PlanOp, p_limit, p_assert}
use Rattle.pig_plan.specs.Results.{at_place}
use Rattle.pig_plan.specs.Valid.{AreUpTo, op_writes_lf}
use Rattle.pig_plan.specs.declared.given.Given.{Given}

-- a LIMIT or an ASSERT, which may be a twin
abbrev pub may_be_twin : PlanOp → Bool
may_be_twin (p_limit input count) = true
may_be_twin (p_assert input cond message) = true
may_be_twin o = false

-- what is asked of a node but for its inputs and kinds, where it stands among nodes of which none has a later statement
pub record MayStand (latest : ℕ) (node : PlanNode) : Type 0 where
  pub writes : op_writes_lf node.op ≡ false
  pub alone : may_be_twin node.op ≡ false
  pub no_later : node.statement ≤ latest

-- an operator gives at a number, over what is given before it, what is given there
abbrev pub GivesThere : List Given → ℕ → PlanOp → Type 0
GivesThere found k o = node_gives (before_of (take k found)) o ≡ Some (before_of found k)

-- What the lower one gives stands in the place of what was given there, and the upper one gives over it what was given.
pub record IsGivenFor (old new : List Given) (low : ℕ) (lower : PlanOp) (high : ℕ) (upper : PlanOp) : Type 0 where
  pub first : Given
  pub is : new ≡ slice_set old low first
  pub below : low < high
  pub within : high < length old
  pub lower_gives : GivesThere new low lower
  pub upper_gives : GivesThere new high upper

-- An operator gives at a number what was given there, where others gave these kinds, but one of them now gives a row of others.
abbrev pub StillGives : List (Option RowKinds) → ℕ → Option RowKinds → ℕ → PlanOp → Type 0
StillGives kinds low row high o = node_gives (at_place None (take high (slice_set kinds low row))) o ≡ Some (at_place None kinds high)

-- of what is given: the lower one gives a row of kinds, and over it the upper one what is given at its number
pub record MayBeGiven (old : List Given) (low : ℕ) (lower : PlanOp) (high : ℕ) (upper : PlanOp) : Type 0 where
  pub below : low < high
  pub within : high < length old
  pub row : Option RowKinds
  pub lower_gives : node_gives (before_of (take low old)) lower ≡ Some row
  pub upper_gives : StillGives (map kinds_of_given old) low row high upper

-- Two nodes may stand in the place of two others: each may stand among the plan's nodes, the lower one is valid behind the nodes before it, and
-- over it the upper one gives what was given at its number.
pub record MayExchange (p : Plan) (low : ℕ) (lower : PlanNode) (high : ℕ) (upper : PlanNode) : Type 0 where
  pub below : low < high
  pub within : high < length p
  pub lower_stands : (latest : ℕ) → AreUpTo latest p → MayStand latest lower
  pub upper_stands : (latest : ℕ) → AreUpTo latest p → MayStand latest upper
  pub row : Option RowKinds
  pub lower_gives : node_gives (kinds_at (take low p)) lower.op ≡ Some row
  pub upper_gives : StillGives (kinds_table p) low row high upper.op
