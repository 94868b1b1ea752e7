-- Rows on their way from a source through nodes that work row by row. Where a GROUP folds, its rows are its FOREACH's already, so that
-- this FOREACH hands them on: `folding` has its block, by the number of the GROUP.
use Rattle.std.specs.Prelude.{◌≡◌, get_or, ℕ, Bool, false, List, [], ◌∷◌, Option, None, if◌then◌else◌}
use Rattle.std.specs.List.{flat_map}
use Rattle.std.specs.Option.{is_some, option_map_or}
use Rattle.pig_value.specs.Trees.{Tree}
use Rattle.pig_typed.specs.Blocks.{foreach_all}
use Rattle.pig_typed.specs.Typed.{TypedBlock}
use Rattle.pig_plan.specs.Nodes.{Path, op_at, paths_of}
use Rattle.pig_plan.specs.Operators.{filter_rows}
use Rattle.pig_plan.specs.Plans.{Plan, PlanOp, p_filter, p_foreach}

abbrev pub Folding : Type 0
Folding = ℕ → Option TypedBlock

abbrev pub none_folds : Folding
none_folds k = None

-- the marks of the nodes that fold, by their numbers
abbrev pub AreFoldMarks : Folding → List Bool → Type 0
AreFoldMarks folding folded = (k : ℕ) → get_or folded k false ≡ is_some (folding k)

-- what a node that works row by row makes of rows: UNION, STORE and ASSERT hand them on
abbrev pub step_rows : Folding → PlanOp → List (List Tree) → List (List Tree)
step_rows folding (p_filter input cond) rows = filter_rows cond rows
step_rows folding (p_foreach input block) rows = if is_some (folding input) then rows else foreach_all block rows
step_rows folding o rows = rows

abbrev pub node_step : Folding → Plan → ℕ → List (List Tree) → List (List Tree)
node_step folding plan k rows = option_map_or (λ o. step_rows folding o rows) (op_at plan k) rows

-- rows put through the nodes of these numbers, one behind the other
abbrev pub through : Folding → Plan → List ℕ → List (List Tree) → List (List Tree)
through folding plan [] rows = rows
through folding plan (k ∷ nodes) rows = through folding plan nodes (node_step folding plan k rows)

-- the rows that come on a path, and to a node on all its paths, where those of each source are given
abbrev pub rows_along : Folding → Plan → (ℕ → List (List Tree)) → Path → List (List Tree)
rows_along folding plan sources path = through folding plan path.nodes (sources path.source)

abbrev pub rows_to : Folding → Plan → (ℕ → List (List Tree)) → ℕ → List (List Tree)
rows_to folding plan sources k = flat_map (rows_along folding plan sources) (paths_of plan k)
