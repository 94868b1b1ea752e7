use Rattle.std.proofs.Common.{◌≡◌, ◌++◌, drop, map}
use Rattle.pig_rank.specs.Ranks.{start_tree, summary_tree}
use Rattle.pig_rank.specs.Walks.{passed_start, starts_on}
use Rattle.pig_rank.proofs.starting.add_starts.Given as goal

abbrev pub invariant-loop-part : goal.invariant-loop-part
invariant-loop-part l = map start_tree l.starts ++ starts_on l.keys (passed_start l.passed) (map summary_tree (drop l.part-index l.parts)) ≡ map start_tree l.fn.starts ++ starts_on l.keys (passed_start l.fn.before) (map summary_tree l.parts)
