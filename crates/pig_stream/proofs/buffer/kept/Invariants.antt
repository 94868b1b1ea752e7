use Rattle.std.proofs.Common.{◌≡◌, ◌≤◌, ◌-◌, length, take, drop}
use Rattle.pig_value.specs.Trees.{rows_tree}
use Rattle.pig_typed.specs.Typed.{typed}
use Rattle.pig_plan.specs.Operators.{filter_rows}
use Rattle.pig_stream.proofs.buffer.kept.Given as goal

abbrev pub invariant-rows : goal.invariant-rows
invariant-rows l =
    (rows_tree (take l.front l.rows.items) ≡ filter_rows (typed l.cond) (rows_tree (take l.next l.fn.rows.items)))
    × (drop l.next l.rows.items ≡ drop l.next l.fn.rows.items) × (l.front ≤ l.next) × (l.next ≤ l.count)
    × (length l.rows.items ≡ length l.fn.rows.items)

abbrev pub decreases-rows : goal.decreases-rows
decreases-rows l = l.count - l.next
