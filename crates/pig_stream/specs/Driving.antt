-- What became of a source, steps and what takes rows: rows came, and no other, and went through the steps.
use Rattle.std.specs.Prelude.{◌≡◌, ◌++◌, ℕ, List, length}
use Rattle.pig_value.specs.Trees.{Tree}
use Rattle.pig_stream.specs.declared.steps.Steps.{Steps}
use Rattle.pig_stream.specs.Stepping.{AreSameSteps, HaveNoted, put_through}

-- `before` and `behind` are the rows that come from the source, whatever bytes are handed in later; `after` is what became of
-- what takes rows; so many rows came.
pub record HasTaken (before behind : List ℕ → List (List Tree)) (steps done : Steps) (after : List (List Tree) → Type 0) (count : ℕ) : Type 0 where
  pub rows : List (List Tree)
  pub came : (later : List ℕ) → before later ≡ rows ++ behind later
  pub counted : count ≡ length rows
  pub taken : after (put_through steps rows)
  pub noted : (seen : List (List Tree)) → HaveNoted steps seen → HaveNoted done (seen ++ rows)
  pub same : AreSameSteps steps done

-- these rows are all that came
pub record IsAll (rows : List (List Tree)) (steps done : Steps) (after : List (List Tree) → Type 0) (count : ℕ) : Type 0 where
  pub counted : count ≡ length rows
  pub taken : after (put_through steps rows)
  pub noted : HaveNoted done rows
  pub same : AreSameSteps steps done
