-- The plan in which LOADs and FOREACHs keep what is needed.
use Rattle.std.specs.Prelude.{ℕ, Bool, true, List, [], ◌∷◌, None, slice_get}
use Rattle.std.specs.Option.{option_map_or}
use Rattle.pig_value.specs.declared.operators.ChainOp.{ChainOp}
use Rattle.pig_typed.specs.Typed.{Typed}
use Rattle.pig_plan.specs.Meaning.{width_at}
use Rattle.pig_plan.specs.Plans.{Plan, PlanNode}
use Rattle.pig_plan.specs.Results.{results}
use Rattle.pig_plan.specs.Rewrites.{SameMeaning}
use Rattle.pig_plan.specs.Valid.{IsPlan}
use Rattle.pig_cuts.specs.Cuts.{NodeCut}
use Rattle.pig_alive.specs.Alive.{alive}
use Rattle.pig_cuts.specs.Fits.{fit}
use Rattle.pig_cuts.specs.Plans.{IsCutBy, IsCutUpTo, own_cut}
use Rattle.pig_covers.specs.Laws.{needed_marks}
use Rattle.pig_needs.specs.Needed.{need_of}

-- which columns of a LOAD stay, and which items of a FOREACH: those that are needed
abbrev pub marks_of : Plan → ℕ → List Bool
marks_of p k = option_map_or (λ v. needed_marks (need_of p k) v.op) (slice_get p k) []

-- the cut of each node that follows
abbrev pub cut_step : Plan → ℕ → PlanNode → (ℕ → NodeCut) → NodeCut
cut_step p k v before = own_cut before (width_at p) (marks_of p k) v.op

abbrev pub cuts_of : Plan → List NodeCut
cuts_of p = results (cut_step p) None p

-- The plan without its dead nodes is cut by its needs.
abbrev pub IsPruned : Plan → Plan → Type 0
IsPruned p q = IsCutBy (marks_of (alive p)) (cuts_of (alive p)) (alive p) q

abbrev pub PrunedPlansMeanTheSame : Type 0
PrunedPlansMeanTheSame = (p q : Plan) → IsPlan p → IsPlan (alive p) → IsPlan q → IsPruned p q → SameMeaning p q

-- ---- for the code

-- the first nodes of a cut plan
abbrev pub IsCutTo : Plan → Plan → ℕ → Type 0
IsCutTo p made n = IsCutUpTo (marks_of p) (cuts_of p) p made n

-- a link of a chain at new positions
abbrev pub fit_link : (ℕ → NodeCut) → NodeCut → ChainOp × Typed → ChainOp × Typed
fit_link cuts own l = (l.0, fit cuts own l.1)

-- whether the next element stays by its mark, and the marks behind it
abbrev pub next_stays : List Bool → Bool
next_stays [] = true
next_stays (mark ∷ marks) = mark

abbrev pub next_marks : List Bool → List Bool
next_marks [] = []
next_marks (mark ∷ marks) = marks
