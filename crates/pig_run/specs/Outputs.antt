-- What a run stores: of each STORE the directory, whole, whose parts hold the texts of its rows, each with an LF behind it.
-- (Pig Latin Basics: "STORE". That a relation but for an ordered one is stored in any order is said there under "Relations, Bags, Tuples,
-- Fields". That a directory has a part for each task of its STORE is a choice of this profile.)
use Rattle.std.specs.Prelude.{◌≡◌, ◌%◌, ◌^◌, ⊤, ℕ, List, [], ◌∷◌, ◌++◌, length, map, Option, Some, None}
use Rattle.std.specs.List.{sum_by}
use Rattle.pig_value.specs.declared.inputs.Input.{Input}
use Rattle.pig_value.specs.declared.outcomes.Kept.{Kept}
use Rattle.pig_value.specs.Texts.{rows_text}
use Rattle.pig_value.specs.Trees.{Tree}
use Rattle.pig_outside.specs.Shelf.{Shelf}
use Rattle.pig_board.specs.declared.end.TaskEnd.{TaskEnd}
use Rattle.pig_plan.specs.Asserts.{first_unmet}
use Rattle.pig_plan.specs.Meaning.{IsKept}
use Rattle.pig_plan.specs.Plans.{Plan}
use Rattle.pig_plan.specs.Stored.{AnswersFor, StoresMeaning}
use Rattle.pig_reach.specs.Reach.{lines_read, stores_of}
use Rattle.pig_reach.specs.declared.storing.Store.{Store}
use Rattle.pig_runs.specs.Cutting.{Point}
use Rattle.pig_physical.specs.Outs.{Outs}
use Rattle.pig_physical.specs.Running.{AreOutputs, IsRun}
use Rattle.pig_physical.specs.Stages.{Stages, heads, stores}
use Rattle.pig_driver.specs.Failing.{HaveWon, IsGivenUp}
use Rattle.pig_driver.specs.Going.{AreWon}
use Rattle.pig_commit.specs.Committed.{LeftOpen, with_stored}
use Rattle.pig_commit.specs.declared.parts.StorePart.{StorePart}
use Rattle.pig_counts.specs.Due.{entries_due}
use Rattle.pig_collect.specs.Collecting.{joined, parts_given}
use Rattle.pig_run.specs.declared.outcome.Counts.{Counts}
use Rattle.pig_run.specs.Reading.{Run}
use Rattle.pig_run.specs.Texts.{line_count}

-- ---- what STOREs must hold

-- The output is that of a STORE: its parts, joined, are the texts of rows that answer for the relation that it stores, as a list where that
-- is a list, and else as a bag. Cut at LF alone, they are the lines of what the relation means.
pub record IsOutputOf (plan : Plan) (inputs : List Input) (kept : List Kept) (store : Store) (out : StorePart) : Type 0 where
  pub rows : List (List Tree)
  pub answer : AnswersFor plan inputs kept store.relation rows
  pub bytes : joined out.parts ≡ rows_text store.delim rows
  pub stored : StoresMeaning plan inputs kept store.relation store.delim (joined out.parts)

-- so it is of each STORE in turn
abbrev pub AreOutputsOf : Plan → List Input → List Kept → List Store → List StorePart → Type 0
AreOutputsOf plan inputs kept [] [] = ⊤
AreOutputsOf plan inputs kept (store ∷ stores) (out ∷ outs) = IsOutputOf plan inputs kept store out × AreOutputsOf plan inputs kept stores outs
AreOutputsOf plan inputs kept stores outs = ⊥

-- What was stored of STOREs: their directories, and in them what they mean where the hosts tell their inputs.
pub record AreStored (tells : Type 0) (plan : Plan) (inputs : List Input) (kept : List Kept) (stores : List Store) (outs : List StorePart) : Type 0 where
  pub dirs : map (λ out. out.dir) outs ≡ map (λ store. store.dir) stores
  pub are : tells → AreOutputsOf plan inputs kept stores outs

-- ---- what a run leaves

-- what was stored, what the bare LIMITs kept, what stands of the tasks of each wave that ended, and the shelf
pub record Left : Type 0 where
  pub outs : List StorePart
  pub kept : List Kept
  pub waves : List (List TaskEnd)
  pub shelf : Option Shelf

-- nothing was made
pub record IsUnmade (shelf : Shelf) (left : Left) : Type 0 where
  pub same : left.shelf ≡ Some shelf
  pub no_outputs : left.outs ≡ []

-- and no wave ended
pub record IsUntouched (shelf : Shelf) (left : Left) : Type 0 where
  pub unmade : IsUnmade shelf left
  pub none_kept : left.kept ≡ []
  pub no_waves : left.waves ≡ []

-- nothing was made, and the first waves were won
pub record IsBroken (run : Run) (shelf : Shelf) (left : Left) : Type 0 where
  pub unmade : IsUnmade shelf left
  pub none_kept : left.kept ≡ []
  pub won : HaveWon run.stages left.waves

-- nothing was made, and the last wave that ended has failed at a task
pub record IsLost (run : Run) (shelf : Shelf) (wave task failed : ℕ) (left : Left) : Type 0 where
  pub unmade : IsUnmade shelf left
  pub none_kept : left.kept ≡ []
  pub given_up : IsGivenUp run.limit run.stages left.waves wave task failed

-- each task of all waves has one winner
abbrev pub AllWon : Run → Left → Type 0
AllWon run left = AreWon run.stages left.waves (length (heads run.stages.plan))

-- Nothing was made, though all waves were won: the ASSERT of a statement is the first that is not met.
pub record IsUnmet (tells : Type 0) (run : Run) (shelf : Shelf) (n : ℕ) (left : Left) : Type 0 where
  pub unmade : IsUnmade shelf left
  pub won : AllWon run left
  pub kept : tells → IsKept run.plan shelf.inputs left.kept
  pub first : tells → first_unmet run.plan shelf.inputs left.kept ≡ Some n

-- All waves were won and every ASSERT was met.
pub record IsMet (tells : Type 0) (run : Run) (shelf : Shelf) (left : Left) : Type 0 where
  pub won : AllWon run left
  pub kept : tells → IsKept run.plan shelf.inputs left.kept
  pub met : tells → first_unmet run.plan shelf.inputs left.kept ≡ None

-- Then every STORE is stored, and nothing else has changed.
pub record IsWhole (tells : Type 0) (run : Run) (shelf : Shelf) (left : Left) : Type 0 where
  pub ran : IsMet tells run shelf left
  pub stored : AreStored tells run.plan shelf.inputs left.kept (stores_of run.plan) left.outs
  pub made : left.shelf ≡ Some (with_stored left.outs shelf)

-- Or the STOREs before one are stored, the directory of that one is absent or unmarked, and those behind it were not made.
pub record IsStopped (tells : Type 0) (run : Run) (shelf : Shelf) (n : ℕ) (left : Left) : Type 0 where
  pub ran : IsMet tells run shelf left
  pub before : List Store
  pub store : Store
  pub behind : List Store
  pub are : stores_of run.plan ≡ before ++ store ∷ behind
  pub named : store.statement ≡ n
  pub stored : AreStored tells run.plan shelf.inputs left.kept before left.outs
  pub opened : LeftOpen store.dir (Some (with_stored left.outs shelf)) left.shelf

-- ---- numbers

-- Parts and kept rows are those of a run of the stages: outputs of all waves, each the value of its task. So a part whose rows come from a
-- LOAD holds just those of its own split. The number of entries is that which is due of the rows of the map tasks: each row, or each key of a
-- task that combines, and of a LIMIT's as many rows as it says.
pub record IsRunOf (s : Stages) (inputs : List Input) (kept : List Kept) (parts : List (List (List ℕ))) (shuffled : ℕ) : Type 0 where
  pub points : ℕ → List Point
  pub outs : Outs
  pub run : IsRun s inputs points outs
  pub kept_are : AreOutputs s.plan outs kept
  pub parts_are : parts ≡ map (parts_given s outs) (stores s.plan)
  pub handed : shuffled ≡ entries_due s inputs outs % 2 ^ 64

-- the numbers of a run that stored all: the lines that the plan that is cut reads, the entries that map tasks handed on, and the lines that were stored
pub record AreCounts (tells : Type 0) (run : Run) (inputs : List Input) (kept : List Kept) (outs : List StorePart) (counts : Counts) : Type 0 where
  pub read : tells → counts.read ≡ lines_read run.stages.plan inputs % 2 ^ 64
  pub shuffled : tells → IsRunOf run.stages inputs kept (map (λ out. out.parts) outs) counts.shuffled
  pub stored : counts.stored ≡ sum_by line_count outs % 2 ^ 64

-- the numbers where a run did not end well
abbrev pub no_counts : Counts
no_counts = record { read = 0; shuffled = 0; stored = 0 }
