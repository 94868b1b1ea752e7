-- What the outputs of all waves give, where each is the value of its task.
use Rattle.std.specs.Prelude.{◌≡◌, ◌<◌, ◌==◌, ℕ, true, not, List, Option, None, Some, slice_get}
use Rattle.std.specs.List.{list_any}
use Rattle.pig_value.specs.declared.inputs.Input.{Input}
use Rattle.pig_value.specs.declared.outcomes.Kept.{Kept}
use Rattle.pig_value.specs.Orders.{bag_of}
use Rattle.pig_value.specs.Texts.{rows_text}
use Rattle.pig_value.specs.Trees.{Tree}
use Rattle.pig_typed.specs.Blocks.{foreach_all}
use Rattle.pig_typed.specs.Typed.{Typed, TypedBlock}
use Rattle.pig_plan.specs.Asserts.{met}
use Rattle.pig_plan.specs.Meaning.{IsKept, meaning}
use Rattle.pig_plan.specs.Nodes.{is_boundary, is_list, is_live}
use Rattle.pig_plan.specs.Plans.{Plan, PlanNode, p_assert, p_store}
use Rattle.pig_plan.specs.Stored.{AnswersFor}
use Rattle.pig_plan.specs.Valid.{IsPlan}
use Rattle.pig_runs.specs.Cutting.{Point}
use Rattle.pig_physical.specs.Combining.{folds}
use Rattle.pig_physical.specs.Outs.{Outs}
use Rattle.pig_physical.specs.Running.{AreOutputs, IsRun, all_unmet, bytes_given, rows_given}
use Rattle.pig_physical.specs.Stages.{Stages}

-- Rows answer for a node: they are its meaning, as a bag and, where it is a list, in its order. For a GROUP that folds they
-- are, as a bag, the rows of its FOREACH.
pub record Answers (plan : Plan) (inputs : List Input) (kept : List Kept) (k : ℕ) (rows : List (List Tree)) : Type 0 where
  pub bag : folds plan k ≡ None → bag_of rows ≡ bag_of (meaning plan inputs kept k)
  pub list : folds plan k ≡ None → is_list plan k ≡ true → rows ≡ meaning plan inputs kept k
  pub folded : (block : TypedBlock) → folds plan k ≡ Some block
      → bag_of rows ≡ bag_of (foreach_all block (meaning plan inputs kept k))

-- the bytes of a STORE's parts, joined, are the texts of rows that answer for the relation that it stores, each with a line end: so
-- they store what it means, in its order where it is a list
pub record StoresAnswer (s : Stages) (inputs : List Input) (kept : List Kept) (outs : Outs) (k relation delim : ℕ) : Type 0 where
  pub rows : List (List Tree)
  pub bytes : bytes_given s outs k ≡ rows_text delim rows
  pub answers : AnswersFor s.plan inputs kept relation rows

-- nodes by their operators
abbrev pub stores_at : ℕ → List ℕ → ℕ → ℕ → PlanNode
stores_at input path delim statement = record { op = p_store input path delim; statement = statement }

abbrev pub asserts_at : ℕ → Typed → Option (List ℕ) → ℕ → PlanNode
asserts_at input cond message statement = record { op = p_assert input cond message; statement = statement }

-- what was kept is valid; each live boundary node's outputs answer for it, and so does what each STORE's parts hold; and tasks
-- tell of just the live ASSERTs that the meaning does not meet
pub record GiveMeaning (s : Stages) (inputs : List Input) (kept : List Kept) (outs : Outs) : Type 0 where
  pub valid : IsKept s.plan inputs kept
  pub nodes : (k : ℕ) (node : PlanNode)
      → slice_get s.plan k ≡ Some node → is_live s.plan k ≡ true → is_boundary node.op ≡ true
      → Answers s.plan inputs kept k (rows_given s.plan outs k node.op)
  pub stores : (k statement input delim : ℕ) (path : List ℕ)
      → slice_get s.plan k ≡ Some (stores_at input path delim statement) → StoresAnswer s inputs kept outs k input delim
  pub asserts : (k statement input : ℕ) (cond : Typed) (message : Option (List ℕ))
      → slice_get s.plan k ≡ Some (asserts_at input cond message statement) → is_live s.plan k ≡ true
      → list_any (λ n. n == statement) (all_unmet outs)
      ≡ not (met (meaning s.plan inputs kept) (p_assert input cond message))

-- Outputs that are the values of all tasks, wave by wave, give the meaning of the plan that is cut.
abbrev pub StagesGiveMeaning : Type 0
StagesGiveMeaning = (s : Stages) (inputs : List Input) (kept : List Kept) (points : ℕ → List Point) (outs : Outs)
    → IsPlan s.plan → 0 < s.sizing.reducers → 0 < s.sizing.split
    → IsRun s inputs points outs → AreOutputs s.plan outs kept → GiveMeaning s inputs kept outs
