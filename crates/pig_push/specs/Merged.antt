-- FILTERs that stand on FILTERs become one, all in one pass: each node is held with the conditions that its own is to be joined with.
use Rattle.std.specs.Prelude.{◌≡◌, ℕ, false, List, [], ◌∷◌, ◌++◌, map, Some, slice_get, slice_set}
use Rattle.pig_typed.specs.Typed.{Typed, typed}
use Rattle.pig_plan.specs.Plans.{Plan, PlanNode, PlanOp, op_of, p_filter, p_load}
use Rattle.pig_plan.specs.Valid.{IsPlan}
use Rattle.pig_moves.specs.Pushed.{GoesOn, conjoined}
use Rattle.pig_push.specs.Lone.{AreSound, is_shared}
use Rattle.pig_push.specs.declared.merging.Held.{Held}
use Rattle.pig_push.specs.declared.readers.ReadCount.{ReadCount}

-- a condition and others, joined in turn
abbrev pub all_conjoined : Typed → List Typed → Typed
all_conjoined c [] = c
all_conjoined c (m ∷ more) = all_conjoined (conjoined c m) more

abbrev pub with_all : List Typed → PlanOp → PlanOp
with_all [] o = o
with_all (m ∷ more) (p_filter x c) = p_filter x (all_conjoined c (m ∷ more))
with_all (m ∷ more) o = o

-- the node that is held, and the plan of all
abbrev pub held_as : Held → PlanNode
held_as h = record { op = with_all (map typed h.more) (op_of h.node.op); statement = h.node.statement }

abbrev pub plan_held : List Held → Plan
plan_held = map held_as

-- what stands where a FILTER is gone
abbrev pub gone_as : ℕ → PlanNode
gone_as statement = record { op = p_load [] 9 []; statement = statement }

-- A FILTER stands on a FILTER that no other node reads. Its own condition is joined with none yet.
pub record OnFilter (table : List ReadCount) (held : List Held) (low high : ℕ) : Type 0 where
  pub under : Held
  pub above : Held
  pub input : ℕ
  pub first : Typed
  pub cond : Typed
  pub stands : slice_get held low ≡ Some under
  pub over : slice_get held high ≡ Some above
  pub is_under : op_of under.node.op ≡ p_filter input first
  pub is_above : op_of above.node.op ≡ p_filter low cond
  pub plain : map typed above.more ≡ []
  pub lone : is_shared table low ≡ false

-- the lower one with the upper one's condition
pub record IsOver (under above both : Held) : Type 0 where
  pub node : both.node ≡ under.node
  pub more : (low : ℕ) (cond : Typed) → op_of above.node.op ≡ p_filter low cond → map typed both.more ≡ map typed under.more ++ cond ∷ []

-- both stand at the upper number then, and at the lower one what reads nothing
pub record AreOver (old new : List Held) (low high : ℕ) : Type 0 where
  pub under : Held
  pub above : Held
  pub gone : Held
  pub both : Held
  pub stands : slice_get old low ≡ Some under
  pub over : slice_get old high ≡ Some above
  pub is_gone : held_as gone ≡ gone_as above.node.statement
  pub is_both : IsOver under above both
  pub is : new ≡ slice_set (slice_set old low gone) high both

-- The plan is reached by moves and is one, and of it the table is sound, too.
pub record MergesOn (table : List ReadCount) (p q : Plan) : Type 0 where
  pub goes : GoesOn p q
  pub valid : IsPlan q
  pub sound : AreSound q table

abbrev pub Merges : List ReadCount → Plan → Plan → Type 0
Merges table p q = IsPlan p → AreSound p table → MergesOn table p q
