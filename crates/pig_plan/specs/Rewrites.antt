-- When two plans mean the same, as far as anyone sees: each output has the same rows, and the same ASSERT is the first that fails.
use Rattle.std.specs.Prelude.{◌≡◌, ◌≤◌, ℕ, Bool, true, false, List, Option, Some, slice_get}
use Rattle.std.specs.List.{list_all}
use Rattle.pig_value.specs.declared.inputs.Input.{Input}
use Rattle.pig_value.specs.declared.outcomes.Kept.{Kept}
use Rattle.pig_value.specs.Trees.{Tree}
use Rattle.pig_typed.specs.Evaluation.{passes}
use Rattle.pig_typed.specs.Typed.{Typed}
use Rattle.pig_plan.specs.Meaning.{IsKept, meaning}
use Rattle.pig_plan.specs.Nodes.{is_list, is_live}
use Rattle.pig_plan.specs.Plans.{Plan, p_store, p_assert}

-- A STORE of the plan puts these rows at the path; they are stored in order where its relation is a list.
pub record Stores (plan : Plan) (inputs : List Input) (kept : List Kept) (path : List ℕ) (delim : ℕ) (rows : List (List Tree)) (listed : Bool) : Type 0 where
  pub node : ℕ
  pub input : ℕ
  pub statement : ℕ
  pub stands : slice_get plan node ≡ Some (record { op = p_store input path delim; statement = statement })
  pub rows_are : meaning plan inputs kept node ≡ rows
  pub list_is : is_list plan input ≡ listed

-- a live ASSERT of the statement that is not met, and one whose statement is no later
pub record Fails (plan : Plan) (inputs : List Input) (kept : List Kept) (statement : ℕ) : Type 0 where
  pub node : ℕ
  pub input : ℕ
  pub cond : Typed
  pub message : Option (List ℕ)
  pub stands : slice_get plan node ≡ Some (record { op = p_assert input cond message; statement = statement })
  pub lives : is_live plan node ≡ true
  pub unmet : list_all (passes cond) (meaning plan inputs kept input) ≡ false

pub record FailsBy (plan : Plan) (inputs : List Input) (kept : List Kept) (statement : ℕ) : Type 0 where
  pub first : ℕ
  pub no_later : first ≤ statement
  pub fails : Fails plan inputs kept first

-- what the one plan stores the other stores, and where the one fails the other fails no later
pub record Goes (p q : Plan) (inputs : List Input) (kept : List Kept) : Type 0 where
  pub stores : (path : List ℕ) (delim : ℕ) (rows : List (List Tree)) (listed : Bool) → Stores p inputs kept path delim rows listed → Stores q inputs kept path delim rows listed
  pub fails : (statement : ℕ) → Fails p inputs kept statement → FailsBy q inputs kept statement

-- Over all inputs the same kept rows are valid for both, and then both ways hold.
pub record SameMeaning (p q : Plan) : Type 0 where
  pub kept_on : (inputs : List Input) (kept : List Kept) → IsKept p inputs kept → IsKept q inputs kept
  pub kept_back : (inputs : List Input) (kept : List Kept) → IsKept q inputs kept → IsKept p inputs kept
  pub goes : (inputs : List Input) (kept : List Kept) → IsKept p inputs kept → Goes p q inputs kept
  pub comes : (inputs : List Input) (kept : List Kept) → IsKept q inputs kept → Goes q p inputs kept
