-- What steps say of rows: where they lead, and what they noted.
use Rattle.std.specs.Prelude.{◌≡◌, get_or, ℕ, Bool, false, List, [], Some, None, if◌then◌else◌}
use Rattle.std.specs.Option.{is_some}
use Rattle.pig_value.specs.Trees.{Tree}
use Rattle.pig_typed.specs.Typed.{TypedBlock}
use Rattle.pig_plan.specs.Asserts.{unmet_on}
use Rattle.pig_plan.specs.Plans.{Plan, plan_of}
use Rattle.pig_plan.specs.Steps.{Folding, through}
use Rattle.pig_stream.specs.declared.steps.Steps.{Steps}
use Rattle.pig_stream.specs.Unmet.{fails_on}

-- Which nodes fold, by a mark for each; those behind the last mark don't. Of a node that folds, a step asks for nothing of
-- the block but that there is one.
abbrev pub any_block : TypedBlock
any_block = record { steps = []; items = [] }

abbrev pub marked_folding : List Bool → Folding
marked_folding folded k = if get_or folded k false then Some any_block else None

-- the plan, the path and what folds
abbrev pub plan_on : Steps → Plan
plan_on s = plan_of s.nodes.now

abbrev pub path_on : Steps → List ℕ
path_on s = s.path.now

abbrev pub folding_on : Steps → Folding
folding_on s = marked_folding s.folded.now

-- rows, taken through the steps
abbrev pub put_through : Steps → List (List Tree) → List (List Tree)
put_through s rows = through (folding_on s) (plan_on s) (path_on s) rows

-- the statements of the ASSERTs that the rows don't meet
abbrev pub unmet_by : Steps → List (List Tree) → List ℕ
unmet_by s rows = unmet_on (folding_on s) (plan_on s) (path_on s) rows

-- the steps have noted which ASSERTs these rows, in all, don't meet
abbrev pub HaveNoted : Steps → List (List Tree) → Type 0
HaveNoted s rows = s.failed.items ≡ fails_on (folding_on s) (plan_on s) (path_on s) rows

-- the same steps, whatever they noted
pub record AreSameSteps (s t : Steps) : Type 0 where
  pub nodes : t.nodes ≡ s.nodes
  pub path : t.path ≡ s.path
  pub folded : t.folded ≡ s.folded
