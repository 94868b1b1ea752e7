-- The rows of a relation: as they stand, or as they will come.
use Rattle.std.specs.Prelude.{ℕ, List, [], ◌∷◌, ◌++◌, map}
use Rattle.std.specs.List.{flat_map}
use Rattle.pig_value.specs.FieldRows.{row_of}
use Rattle.pig_value.specs.Lines.{lines as lines_of}
use Rattle.pig_value.specs.Trees.{Tree, rows_tree}
use Rattle.pig_typed.specs.Blocks.{foreach_all}
use Rattle.pig_typed.specs.Typed.{block_typed, typed}
use Rattle.pig_plan.specs.Operators.{filter_rows}
use Rattle.pig_plain.specs.declared.reading.Lines.{Lines}
use Rattle.pig_plain.specs.declared.relation.Relation.{Relation}
use Rattle.pig_plain.specs.declared.relation.Relation.TheVariants.{Standing, Coming}
use Rattle.pig_plain.specs.declared.relation.Seen.{Seen}
use Rattle.pig_plain.specs.declared.relation.Seen.TheVariants.{Whole, Walked}
use Rattle.pig_plain.specs.declared.walking.RowStep.{RowStep}
use Rattle.pig_plain.specs.declared.walking.RowStep.TheVariants.{Filter, Foreach}
use Rattle.pig_plain.specs.declared.reading.Source.{Source}
use Rattle.pig_plain.specs.declared.reading.Source.TheVariants.{Read, Groups, Ordered}
use Rattle.pig_plain.specs.declared.walking.Walk.{Walk}

-- the lines of what is left of a piece, and of the pieces behind it
abbrev pub lines_left : Lines → List (List ℕ)
lines_left l = lines_of l.piece.now ++ flat_map lines_of l.pieces.now

-- their rows
abbrev pub rows_left : Lines → List (List Tree)
rows_left l = map (row_of l.columns.now l.delim) (lines_left l)

-- the rows that are still to come from a source
abbrev pub source_rows : Source → List (List Tree)
source_rows (Read lines) = rows_left lines
source_rows (Groups groups) = groups
source_rows (Ordered rows) = rows

-- what a step makes of rows, and what the steps make of them in turn
abbrev pub step_rows : RowStep → List (List Tree) → List (List Tree)
step_rows (Filter cond) rows = filter_rows (typed cond.now) rows
step_rows (Foreach block) rows = foreach_all (block_typed block.now) rows

abbrev pub steps_rows : List RowStep → List (List Tree) → List (List Tree)
steps_rows [] rows = rows
steps_rows (step ∷ steps) rows = steps_rows steps (step_rows step rows)

-- the rows that a walk will give
abbrev pub coming : Walk → List (List Tree)
coming walk = steps_rows walk.steps.items (source_rows walk.source)

abbrev pub relation_rows : Relation → List (List Tree)
relation_rows (Standing rows) = rows_tree rows
relation_rows (Coming walk) = coming walk

-- those that are looked at
abbrev pub seen_rows : Seen → List (List Tree)
seen_rows (Whole rows) = rows_tree rows.now
seen_rows (Walked walk) = coming walk

-- the rows of a relation that stand, and none of those that come
abbrev pub rows_standing : Relation → List (List Tree)
rows_standing (Standing rows) = rows_tree rows
rows_standing (Coming walk) = []
