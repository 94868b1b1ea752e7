-- When an ASSERT is met.
use Rattle.std.specs.Prelude.{ℕ, Bool, true, not, List, [], ◌∷◌, ◌++◌, map, Option, slice_get, if◌then◌else◌}
use Rattle.std.specs.List.{filter, filter_map, list_all}
use Rattle.std.specs.Option.{option_map_or}
use Rattle.std.specs.Ordering.{nat_cmp}
use Rattle.pig_value.specs.declared.inputs.Input.{Input}
use Rattle.pig_value.specs.declared.outcomes.Kept.{Kept}
use Rattle.pig_value.specs.Sorts.{sort}
use Rattle.pig_value.specs.Trees.{Tree}
use Rattle.pig_typed.specs.Evaluation.{passes}
use Rattle.pig_plan.specs.Meaning.{meaning}
use Rattle.pig_plan.specs.Nodes.{live}
use Rattle.pig_plan.specs.Plans.{Plan, PlanOp, p_assert}
use Rattle.pig_plan.specs.Steps.{Folding, node_step}

-- The condition of an ASSERT is true of each row of its input; other operators ask nothing.
abbrev pub met : (ℕ → List (List Tree)) → PlanOp → Bool
met rows (p_assert input cond message) = list_all (passes cond) (rows input)
met rows o = true

-- the statements of the live ASSERTs that the meaning does not meet
abbrev pub unmet : Plan → List Input → List Kept → List ℕ
unmet plan inputs kept = map (λ node. node.statement) (filter (λ node. not (met (meaning plan inputs kept) node.op)) (filter_map (slice_get plan) (live plan)))

-- the first of them
abbrev pub first_unmet : Plan → List Input → List Kept → Option ℕ
first_unmet plan inputs kept = slice_get (sort nat_cmp (unmet plan inputs kept)) 0

-- ---- rows on their way

abbrev pub not_met : ℕ → PlanOp → List (List Tree) → List ℕ
not_met statement (p_assert input cond message) rows = if list_all (passes cond) rows then [] else statement ∷ []
not_met statement o rows = []

abbrev pub not_met_at : Plan → ℕ → List (List Tree) → List ℕ
not_met_at plan k rows = option_map_or (λ node. not_met node.statement node.op rows) (slice_get plan k) []

-- the statements of the ASSERTs among the nodes of these numbers that the rows, put through the nodes one behind the other,
-- don't meet
abbrev pub unmet_on : Folding → Plan → List ℕ → List (List Tree) → List ℕ
unmet_on folding plan [] rows = []
unmet_on folding plan (k ∷ nodes) rows = not_met_at plan k rows ++ unmet_on folding plan nodes (node_step folding plan k rows)
