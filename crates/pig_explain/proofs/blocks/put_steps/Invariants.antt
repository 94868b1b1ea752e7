-- What is written and what is to come are the whole text.
use Rattle.std.proofs.Common.{◌≡◌, ◌++◌, map, drop}
use Rattle.pig_typed.specs.Typed.{step_typed}
use Rattle.pig_explain.specs.ExprTexts.{steps_text}
use Rattle.pig_explain.proofs.blocks.put_steps.Given as goal

abbrev pub invariant-loop-number : goal.invariant-loop-number
invariant-loop-number l = l.out.items ++ steps_text l.number (map step_typed (drop l.number l.steps)) ≡ l.fn.out.items ++ steps_text 0 (map step_typed l.steps)
