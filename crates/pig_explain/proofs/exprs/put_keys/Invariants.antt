-- What is written and what is to come are the whole text.
use Rattle.std.proofs.Common.{◌≡◌, ◌++◌, [], map, drop, codes}
use Rattle.pig_explain.specs.Joins.{joined}
use Rattle.pig_typed.specs.Typed.{typed}
use Rattle.pig_explain.specs.ExprTexts.{expr_text}
use Rattle.pig_explain.proofs.exprs.put_keys.Given as goal

abbrev pub invariant-loop-e : goal.invariant-loop-e
invariant-loop-e l = l.out.items ++ joined l.before (codes ",") (map expr_text (map typed (drop l.e-index l.keys))) ≡ l.fn.out.items ++ joined [] (codes ",") (map expr_text (map typed l.keys))
