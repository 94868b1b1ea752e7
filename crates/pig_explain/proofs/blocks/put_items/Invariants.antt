-- What is written and what is to come are the whole text.
use Rattle.std.proofs.Common.{◌≡◌, ◌++◌, map, drop, codes}
use Rattle.pig_explain.specs.Joins.{joined}
use Rattle.pig_typed.specs.Typed.{item_typed}
use Rattle.pig_explain.specs.ExprTexts.{item_text}
use Rattle.pig_explain.proofs.blocks.put_items.Given as goal

abbrev pub invariant-loop-item : goal.invariant-loop-item
invariant-loop-item l = l.out.items ++ joined l.before (codes ", ") (map item_text (map item_typed (drop l.item-index l.items))) ≡ l.fn.out.items ++ joined (codes " ") (codes ", ") (map item_text (map item_typed l.items))
