-- What is needed is left: a plan that is cut by its needs has no operator that looks at what goes.
use Rattle.std.specs.Prelude.{◌≡◌, ◌<◌, ℕ, Bool, true, List, [], length, Some, slice_get}
use Rattle.pig_plan.specs.Meaning.{width_at}
use Rattle.pig_plan.specs.Nodes.{is_live}
use Rattle.pig_plan.specs.Plans.{Plan, PlanNode, PlanOp, p_load, p_foreach}
use Rattle.pig_plan.specs.Valid.{IsPlan}
use Rattle.pig_cuts.specs.Cuts.{NodeCut, cut_at}
use Rattle.pig_cuts.specs.Plans.{may_fit, own_cut}
use Rattle.pig_needs.specs.Needed.{column_marks, item_marks, need_of}
use Rattle.pig_needs.specs.declared.lists.Need.{Need}

-- which columns of a LOAD stay, or which items of a FOREACH, where so much is needed of its rows
abbrev pub needed_marks : List Need → PlanOp → List Bool
needed_marks need (p_load path delim columns) = column_marks need (length columns)
needed_marks need (p_foreach input block) = item_marks need 0 block.items
needed_marks need o = []

-- each node keeps what is needed of its rows
pub record AreByNeeds (p : Plan) (marks : ℕ → List Bool) (cuts : List NodeCut) : Type 0 where
  pub marked : (k : ℕ) (v : PlanNode) → slice_get p k ≡ Some v → marks k ≡ needed_marks (need_of p k) v.op
  pub own : (k : ℕ) (v : PlanNode) → slice_get p k ≡ Some v → cut_at cuts k ≡ own_cut (cut_at cuts) (width_at p) (marks k) v.op

-- In a plan whose nodes are all live each operator may then be fitted.
abbrev pub NeedsAreSeen : Type 0
NeedsAreSeen = (p : Plan) → IsPlan p → ((k : ℕ) → k < length p → is_live p k ≡ true) → (marks : ℕ → List Bool) (cuts : List NodeCut) → AreByNeeds p marks cuts
    → (k : ℕ) (v : PlanNode) → slice_get p k ≡ Some v → may_fit (cut_at cuts) (marks k) v.op ≡ true
