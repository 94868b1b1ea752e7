-- What the bytes of an output must be: those that store what its relation means.
-- (Pig Latin Basics: "STORE", "PigStorage".)
use Rattle.std.specs.Prelude.{◌≡◌, ◌≢◌, ℕ, List, true}
use Rattle.pig_value.specs.declared.inputs.Input.{Input}
use Rattle.pig_value.specs.declared.outcomes.Kept.{Kept}
use Rattle.pig_value.specs.Texts.{rows_text}
use Rattle.pig_value.specs.Trees.{Tree}
use Rattle.pig_value.specs.Valid.{IsValue}
use Rattle.pig_plan.specs.Laws.{AreOfBytes, PlanLiteralsAre}
use Rattle.pig_plan.specs.Meaning.{IsKept}
use Rattle.pig_plan.specs.Nodes.{is_live}
use Rattle.pig_plan.specs.Plans.{Plan}
use Rattle.pig_plan.specs.Stored.{AnswersFor}
pub use Rattle.pig_plan.specs.Stored.{StoresMeaning}
use Rattle.pig_plan.specs.Valid.{IsPlan}

-- the texts of rows that answer for a live node, each with an LF behind it, store what the node means
abbrev pub AnswersAreStoredLines : Type 0
AnswersAreStoredLines = (plan : Plan) (inputs : List Input) (kept : List Kept) → IsPlan plan → PlanLiteralsAre IsValue plan → AreOfBytes inputs → IsKept plan inputs kept
    → (k : ℕ) → is_live plan k ≡ true → (rows : List (List Tree)) → AnswersFor plan inputs kept k rows
    → (delimiter : ℕ) → delimiter ≢ 10 → StoresMeaning plan inputs kept k delimiter (rows_text delimiter rows)
