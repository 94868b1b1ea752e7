-- What is written and what is to come are the whole text.
use Rattle.std.proofs.Common.{◌≡◌, ◌++◌, [], map, drop, codes}
use Rattle.pig_explain.specs.Joins.{joined}
use Rattle.pig_explain.specs.ExprTexts.{sort_key_text}
use Rattle.pig_explain.proofs.blocks.put_sort_keys.Given as goal

abbrev pub invariant-loop-key : goal.invariant-loop-key
invariant-loop-key l = l.out.items ++ joined l.before (codes ", ") (map sort_key_text (drop l.key-index l.keys)) ≡ l.fn.out.items ++ joined [] (codes ", ") (map sort_key_text l.keys)
