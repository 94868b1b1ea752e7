-- What the plain answer owes: kept rows that are valid for the plan, and the rows of each STORE.
-- (Pig Latin Basics: "STORE", "ORDER BY", "LIMIT". That a relation but for an ordered one is a bag is said there under "Relations, Bags,
-- Tuples, Fields".)
use Rattle.std.specs.Prelude.{⊤, ℕ, List, [], ◌∷◌, Option, Some, None}
use Rattle.std.specs.List.{filter_map}
use Rattle.pig_value.specs.declared.inputs.Input.{Input}
use Rattle.pig_value.specs.declared.outcomes.Kept.{Kept}
use Rattle.pig_value.specs.Trees.{Tree}
use Rattle.pig_plan.specs.Meaning.{IsKept}
use Rattle.pig_plan.specs.Plans.{Plan, PlanOp, p_store}
pub use Rattle.pig_plan.specs.Stored.{AnswersFor}

-- the relation that a STORE stores
abbrev pub stored_of : PlanOp → Option ℕ
stored_of (p_store input path delim) = Some input
stored_of o = None

-- the relations of a plan's STOREs, in order
abbrev pub stored_relations : Plan → List ℕ
stored_relations plan = filter_map (λ node. stored_of node.op) plan

-- lists of rows answer for as many nodes, each for its own
abbrev pub EachAnswers : Plan → List Input → List Kept → List ℕ → List (List (List Tree)) → Type 0
EachAnswers plan inputs kept [] [] = ⊤
EachAnswers plan inputs kept (k ∷ ks) (rows ∷ more) = AnswersFor plan inputs kept k rows × EachAnswers plan inputs kept ks more
EachAnswers plan inputs kept ks more = ⊥

-- the answer to a plan over inputs
pub record IsAnswer (plan : Plan) (inputs : List Input) (found : List Kept) (rows : List (List (List Tree))) : Type 0 where
  pub kept : IsKept plan inputs found
  pub stores : EachAnswers plan inputs found (stored_relations plan) rows
