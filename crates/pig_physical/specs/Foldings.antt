-- Which nodes of a plan fold, and the FOREACH that each of these folds into, by the numbers of the nodes.
use Rattle.std.specs.Prelude.{◌≡◌, get_or, ℕ, Option, None}
use Rattle.std.specs.Option.{is_some, option_and_then}
use Rattle.pig_plan.specs.Plans.{Plan}
use Rattle.pig_plan.specs.Steps.{AreFoldMarks}
use Rattle.pig_physical.specs.Combining.{block_at, folds}
use Rattle.pig_physical.specs.declared.folding.Folders.{Folders}

-- the node that a node folds into, or none where it doesn't
pub record IsFolder (plan : Plan) (k : ℕ) (user : Option ℕ) : Type 0 where
  pub mark : is_some user ≡ is_some (folds plan k)
  pub block : option_and_then (block_at plan k) user ≡ folds plan k

pub record AreFolders (plan : Plan) (f : Folders) : Type 0 where
  pub marks : AreFoldMarks (folds plan) f.marks
  pub blocks : (k : ℕ) → option_and_then (block_at plan k) (get_or f.users k None) ≡ folds plan k
