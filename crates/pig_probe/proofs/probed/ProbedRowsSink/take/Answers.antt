use Rattle.std.proofs.Common.{◌+◌, ◌∙◌, ◌++◌, drop, map}
use Rattle.pig_value.specs.Trees.{rows_tree}
use Rattle.pig_typed.specs.Typed.{typed}
use Rattle.pig_probe.specs.Probing.{probed_by}
use Rattle.pig_probe.proofs.Values.{one_probed}
use Rattle.pig_probe.proofs.probed.ProbedRowsSink.take.Goals as goal

pub loop-row-preserved : goal.loop-row-preserved
loop-row-preserved c =
    let before = c.loop-row.self in
    let after = c.add.new.self in
    let all = c.args.self.now.rows ++ probed_by c.args.self.now.sides.now (map typed c.args.self.now.keys.now) (rows_tree c.args.rows.now) in
    let next = one_probed before.keys.now before.sides.now c.args.rows.now c.loop-row.row-index c.row-item.result before.rows after.rows all
    c.loop-row-test.true c.row-item.is (c.loop-row.invariant.2, c.loop-row.invariant.3) c.in_ok-add.ensures.rows in (
      c.in_ok-add.ensures.keys ∙ c.loop-row.invariant.0,
      c.in_ok-add.ensures.sides ∙ c.loop-row.invariant.1,
      (λ i. after.rows ++ probed_by (c.in_ok-add.ensures.sides i) (map typed (c.in_ok-add.ensures.keys i)) (rows_tree (drop (c.loop-row.row-index + 1) c.args.rows.now))) ∙ next.0,
      next.1,
    )
