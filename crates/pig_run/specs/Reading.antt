-- What a script is found to be, stage by stage: its size, the values of its parameters, its tokens, its statements, their trees, and the plan of
-- these.
use Rattle.std.specs.Prelude.{◌≡◌, ◌<◌, ◌≤◌, ℕ, true, List, length}
use Rattle.std.specs.List.{All}
use Rattle.std.specs.declared.result.Result.TheVariants.{Ok, Err}
use Rattle.pig_params.specs.Substitution.{Named, substituted}
use Rattle.pig_syntax.specs.declared.cutting.Piece.{Piece}
use Rattle.pig_syntax.specs.declared.tokens.Token.{Token}
use Rattle.pig_syntax.specs.declared.trees.Stmt.{Stmt}
use Rattle.pig_syntax.specs.Tokens.{AreTokens, IsBadAt}
use Rattle.pig_syntax.specs.Cutting.{AreStatements}
use Rattle.pig_parser.specs.Parsing.{AreTrees, IsFirstOff, IsShallow}
use Rattle.pig_typing.specs.declared.faults.CheckKind.{CheckKind}
use Rattle.pig_plan.specs.Plans.{Plan}
use Rattle.pig_physical.specs.Stages.{Stages}
use Rattle.pig_plan.specs.Valid.{in_order}
use Rattle.pig_check.specs.Scripts.{IsPlanOf, IsFirstUntyped}
use Rattle.pig_check.specs.States.{StoresAreApart}
use Rattle.pig_run.specs.declared.outcome.TooLarge.TheVariants as large
use Rattle.pig_run.specs.Limits.{most_script, most_statements}
use Rattle.pig_run.specs.Refusals.{Refusal, no_token, no_value, off_grammar, too_large, untyped}

-- what is run: the plan of the script, the stages into which the plan that it was rewritten to is cut, and the number of failed attempts at
-- one task with which it is given up
pub record Run : Type 0 where
  pub plan : Plan
  pub stages : Stages
  pub limit : ℕ

-- what is due: a refusal, a text that is printed, or a run; or nothing yet, where memory was wanting before there was a plan to cut
pub data Verdict : Type 0 where
  Refuses : Refusal → Verdict
  Prints : List ℕ → Verdict
  Runs : Run → Verdict
  Wants : Verdict

-- what a script is found to be: refused, or so many statements that have a plan
pub data Finding : Type 0 where
  Faulty : Refusal → Finding
  Typed : ℕ → Plan → Finding

-- the trees have a plan, or one is the first that has no typing
pub data IsChecked (ss : List Stmt) : Finding → Type 0 where
  no_typing : {n : ℕ} {kind : CheckKind} → IsFirstUntyped ss n kind → IsChecked ss (Faulty (untyped ss n))
  checked : {plan : Plan} → IsPlanOf ss plan → IsChecked ss (Typed (length ss) plan)

-- each statement has a tree, or one is the first that has none
pub data IsParsed (ts : List Token) (ps : List Piece) : Finding → Type 0 where
  no_tree : {n : ℕ} → IsFirstOff ts ps n → IsParsed ts ps (Faulty (off_grammar n))
  parsed : {ss : List Stmt} {found : Finding} → AreTrees ts ps ss → IsChecked ss found → IsParsed ts ps found

-- the statements are not too many, and the brackets of each nest at most 64 deep
pub data IsMeasured (ts : List Token) (ps : List Piece) : Finding → Type 0 where
  too_many : most_statements < length ps → IsMeasured ts ps (Faulty (too_large large.Statements))
  too_deep : length ps ≤ most_statements → ¬ All (IsShallow ts) ps → IsMeasured ts ps (Faulty (too_large large.Depth))
  measured : {found : Finding} → length ps ≤ most_statements → All (IsShallow ts) ps → IsParsed ts ps found → IsMeasured ts ps found

-- the script has tokens, or a first place where none begins
pub data IsLexed (script : List ℕ) : Finding → Type 0 where
  bad_place : {offset : ℕ} → IsBadAt script offset → IsLexed script (Faulty (no_token offset))
  lexed : {ts : List Token} {ps : List Piece} {found : Finding} → AreTokens script ts → AreStatements ts ps → IsMeasured ts ps found → IsLexed script found

-- with the values of parameters the script is a text that is not too long, or a value is missing
pub data IsFilled (given : List Named) (script : List ℕ) : Finding → Type 0 where
  missing : {offset : ℕ} → substituted given script ≡ Err offset → IsFilled given script (Faulty (no_value offset))
  grown : {text : List ℕ} → substituted given script ≡ Ok text → most_script < length text → IsFilled given script (Faulty (too_large large.Script))
  filled : {text : List ℕ} {found : Finding} → substituted given script ≡ Ok text → length text ≤ most_script → IsLexed text found → IsFilled given script found

-- the script as it was read is not too long either
pub data IsFound (given : List Named) (script : List ℕ) : Finding → Type 0 where
  too_long : most_script < length script → IsFound given script (Faulty (too_large large.Script))
  short : {found : Finding} → length script ≤ most_script → IsFilled given script found → IsFound given script found

-- What is known of a plan of a script: no two STOREs have one path, and the nodes stand in the order of the statements.
pub record IsOfScript (plan : Plan) : Type 0 where
  pub apart : StoresAreApart plan
  pub ordered : in_order plan ≡ true
