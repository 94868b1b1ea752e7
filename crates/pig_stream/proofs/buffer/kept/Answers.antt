use Rattle.std.proofs.Common.{◌∙◌, arith}
use Rattle.pig_value.specs.Trees.{row_tree}
use Rattle.pig_typed.specs.Evaluation.{passes}
use Rattle.pig_typed.specs.Typed.{typed}
use Rattle.pig_stream.proofs.Kept.{behind_one, kept_more}
use Rattle.pig_stream.proofs.buffer.kept.Goals as goal

pub rows-preserved : goal.rows-preserved
rows-preserved c =
    let all = c.args.rows.now.items in
    let old = c.rows.rows.items in
    let new = c.moved.new.rows.items in
    let next = c.rows.next in
    let told = c.in_ok-front.ensures in (
      kept_more (passes (typed c.args.cond.now)) row_tree all old new c.rows.front c.in_ok-front.front next c.rows.invariant.0 c.rows.invariant.1 told.kept,
      told.rest ∙ behind_one old all next c.rows.invariant.1,
      told.before,
      (let h = c.rows-test.true in omega (arith, h)),
      told.length ∙ c.rows.invariant.4,
    )
