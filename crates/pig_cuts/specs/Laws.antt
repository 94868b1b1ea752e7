-- What a cut plan means.
use Rattle.std.specs.Prelude.{◌≡◌, ◌≤◌, ℕ, Bool, true, List, length, Some, slice_get}
use Rattle.pig_value.specs.declared.inputs.Input.{Input}
use Rattle.pig_value.specs.declared.outcomes.Kept.{Kept}
use Rattle.pig_typed.specs.Premises.{FunctionsKeepKinds}
use Rattle.pig_plan.specs.Meaning.{EachIsKept, meaning}
use Rattle.pig_plan.specs.Nodes.{is_live}
use Rattle.pig_plan.specs.Plans.{Plan, PlanNode}
use Rattle.pig_plan.specs.Rewrites.{SameMeaning}
use Rattle.pig_plan.specs.Valid.{IsPlan, fits}
use Rattle.pig_cuts.specs.Cuts.{NodeCut, cut_at, cut_rows}
use Rattle.pig_cuts.specs.Plans.{IsCutBy, IsCutUpTo, fit_node, may_fit}

-- Each live node of the cut plan has the rows of the plan's node, cut.
abbrev pub CutNodesHaveCutRows : Type 0
CutNodesHaveCutRows = FunctionsKeepKinds → (marks : ℕ → List Bool) (cuts : List NodeCut) (p q : Plan) → IsPlan p → IsPlan q → IsCutBy marks cuts p q
    → (inputs : List Input) (kept : List Kept) → EachIsKept p inputs kept → (k : ℕ) → is_live p k ≡ true
    → meaning q inputs kept k ≡ cut_rows cuts k (meaning p inputs kept k)

abbrev pub CutPlansMeanTheSame : Type 0
CutPlansMeanTheSame = FunctionsKeepKinds → (marks : ℕ → List Bool) (cuts : List NodeCut) (p q : Plan) → IsPlan p → IsPlan q → IsCutBy marks cuts p q → SameMeaning p q

-- The next node, fitted, is valid behind the first ones, fitted, where its operator may be fitted. So no node of a cut plan is refused.
abbrev pub FittedNodesFit : Type 0
FittedNodesFit = (marks : ℕ → List Bool) (cuts : List NodeCut) (p q : Plan) → IsPlan p → IsPlan q → (end : ℕ) → IsCutUpTo marks cuts p q end → (v : PlanNode) → slice_get p end ≡ Some v
    → may_fit (cut_at cuts) (marks end) v.op ≡ true → fits q (fit_node marks cuts end v) ≡ true

-- So it is a plan, also as far as it is cut.
abbrev pub CutPlansArePlans : Type 0
CutPlansArePlans = (marks : ℕ → List Bool) (cuts : List NodeCut) (p q : Plan) → IsPlan p → (end : ℕ) → end ≤ length p → IsCutUpTo marks cuts p q end → IsPlan q
