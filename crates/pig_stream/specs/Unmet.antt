-- The ASSERTs that rows don't meet on their way through the nodes of a plan, as marks, one for each node, which are joined as more
-- rows come.
use Rattle.std.specs.Prelude.{ℕ, Bool, true, false, ◌||◌, not, List, [], ◌∷◌, ◌++◌, slice_get, if◌then◌else◌}
use Rattle.std.specs.List.{list_all}
use Rattle.std.specs.Option.{option_map_or}
use Rattle.pig_value.specs.Trees.{Tree}
use Rattle.pig_typed.specs.Evaluation.{passes}
use Rattle.pig_plan.specs.Nodes.{op_at}
use Rattle.pig_plan.specs.Plans.{Plan, PlanOp, p_assert}
use Rattle.pig_plan.specs.Steps.{Folding, node_step}

abbrev pub fails : PlanOp → List (List Tree) → Bool
fails (p_assert input cond message) rows = not (list_all (passes cond) rows)
fails o rows = false

abbrev pub fails_at : Plan → ℕ → List (List Tree) → Bool
fails_at plan k rows = option_map_or (λ o. fails o rows) (op_at plan k) false

abbrev pub fails_on : Folding → Plan → List ℕ → List (List Tree) → List Bool
fails_on folding plan [] rows = []
fails_on folding plan (k ∷ nodes) rows = fails_at plan k rows ∷ fails_on folding plan nodes (node_step folding plan k rows)

-- an ASSERT stands among the nodes of these numbers
abbrev pub is_assert : PlanOp → Bool
is_assert (p_assert input cond message) = true
is_assert o = false

abbrev pub is_assert_at : Plan → ℕ → Bool
is_assert_at plan k = option_map_or is_assert (op_at plan k) false

-- what is marked in either of two lists of marks
abbrev pub either_of : List Bool → List Bool → List Bool
either_of [] bs = []
either_of (a ∷ more) [] = []
either_of (a ∷ more) (b ∷ bs) = (a || b) ∷ either_of more bs

-- the statements of the nodes that are marked
abbrev pub statement_of : Plan → ℕ → List ℕ
statement_of plan k = option_map_or (λ node. node.statement ∷ []) (slice_get plan k) []

abbrev pub marked : Plan → List ℕ → List Bool → List ℕ
marked plan [] bs = []
marked plan (k ∷ nodes) [] = []
marked plan (k ∷ nodes) (b ∷ bs) = (if b then statement_of plan k else []) ++ marked plan nodes bs
