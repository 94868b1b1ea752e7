-- What is written and what is to come are the whole text.
use Rattle.std.proofs.Common.{◌≡◌, ◌++◌, [], map, drop, codes, decimal}
use Rattle.pig_explain.specs.Joins.{joined}
use Rattle.pig_explain.proofs.exprs.put_numbers.Given as goal

abbrev pub invariant-loop-number : goal.invariant-loop-number
invariant-loop-number l = l.out.items ++ joined l.before (codes ",") (map decimal (drop l.number-index l.numbers)) ≡ l.fn.out.items ++ joined [] (codes ",") (map decimal l.numbers)
