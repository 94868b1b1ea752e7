use Rattle.std.proofs.Common.{◌≡◌, map, take}
use Rattle.pig_nested.proofs.distinct.refs.Given as goal

abbrev pub invariant-loop-row : goal.invariant-loop-row
invariant-loop-row l = map (λ row. row.now) l.made.items ≡ take l.row-index l.rows
