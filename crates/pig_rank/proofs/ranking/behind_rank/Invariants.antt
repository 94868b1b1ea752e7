use Rattle.std.proofs.Common.{◌≡◌, ◌++◌, ◌∷◌, drop, pos}
use Rattle.pig_value.specs.Functions.{long_of}
use Rattle.pig_value.specs.Trees.{row_tree}
use Rattle.pig_rank.proofs.ranking.behind_rank.Given as goal

abbrev pub invariant-loop-field : goal.invariant-loop-field
invariant-loop-field l = row_tree l.made ++ row_tree (drop l.field-index l.fields) ≡ long_of (pos l.rank) ∷ row_tree l.row
