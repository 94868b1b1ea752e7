-- What stands after the first nodes of a plan: the rows that later nodes look at, what the bare LIMITs kept, and what was stored.
use Rattle.std.specs.Prelude.{◌≡◌, ◌<◌, ◌≤◌, ℕ, true, false, List, ◌++◌, length, map, take, Some, slice_get}
use Rattle.std.specs.List.{filter, filter_map, range_with_len}
use Rattle.pig_value.specs.declared.inputs.Input.{Input}
use Rattle.pig_value.specs.declared.outcomes.Kept.{Kept}
use Rattle.pig_value.specs.Trees.{Tree}
use Rattle.pig_plan.specs.Meaning.{AreKept, kept_at, meaning}
use Rattle.pig_plan.specs.Nodes.{is_bare, is_live, is_sorted, names}
use Rattle.pig_plan.specs.Plans.{Plan, PlanNode, p_limit}
use Rattle.pig_plain.specs.Answering.{AnswersFor, EachAnswers, stored_relations}
use Rattle.pig_plain.specs.Tables.{Held, rows_of}
use Rattle.pig_plain.specs.Uses.{AreLate}

-- the live bare LIMITs among the first i nodes
abbrev pub bare_before : Plan → ℕ → Plan
bare_before plan i = filter (λ node. is_bare (is_sorted plan) node.op) (filter_map (slice_get plan) (filter (is_live plan) (range_with_len 0 i)))

-- Whatever more is kept later, the rows of the first i nodes answer for them, where a live node from i on names them.
pub record IsSoFar (plan : Plan) (inputs : List Input) (i : ℕ) (table : Held) (kept : List Kept) (stores : List (List (List Tree))) : Type 0 where
  pub size : length table.relations ≡ i
  pub late : AreLate plan (length plan) table.ends
  pub each : (more : List Kept) (k n : ℕ) (node : PlanNode) → k < i → i ≤ n → slice_get plan n ≡ Some node → is_live plan n ≡ true → names node.op k ≡ true
      → AnswersFor plan inputs (kept ++ more) k (rows_of table k)
  pub stored : (more : List Kept) → EachAnswers plan inputs (kept ++ more) (stored_relations (take i plan)) stores
  pub limits : (more : List Kept) (k statement input count : ℕ) → k < i → slice_get plan k ≡ Some (record { op = p_limit input count; statement = statement })
      → is_live plan k ≡ true → is_sorted plan input ≡ false → AreKept count (meaning plan inputs (kept ++ more) input) (kept_at (kept ++ more) statement)
  pub entries : map (λ k. k.statement) kept ≡ map (λ node. node.statement) (bare_before plan i)
