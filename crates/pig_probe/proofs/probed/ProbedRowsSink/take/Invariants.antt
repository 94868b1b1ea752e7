use Rattle.std.proofs.Common.{◌≡◌, ◌++◌, drop, map}
use Rattle.pig_value.specs.Trees.{rows_tree}
use Rattle.pig_value.specs.Valid.{AreRows}
use Rattle.pig_typed.specs.Typed.{typed}
use Rattle.pig_probe.specs.Probing.{probed_by}
use Rattle.pig_probe.proofs.probed.ProbedRowsSink.take.Given as goal

abbrev pub invariant-loop-row : goal.invariant-loop-row
invariant-loop-row l = (l.self.keys.now ≡ l.fn.self.keys.now)
    × (l.self.sides.now ≡ l.fn.self.sides.now)
    × (l.self.rows ++ probed_by l.self.sides.now (map typed l.self.keys.now) (rows_tree (drop l.row-index l.rows))
    ≡ l.fn.self.rows ++ probed_by l.fn.self.sides.now (map typed l.fn.self.keys.now) (rows_tree l.rows))
    × AreRows (rows_tree (drop l.row-index l.rows))
