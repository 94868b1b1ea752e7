use Rattle.std.proofs.Common.{◌∙◌, ◌+◌, ap, drop, length, refl, subst, sym}
use Rattle.std.proofs.lemmas.Option.{slice_get_read}
use Rattle.pig_value.proofs.list_laws.Indexing.{dropped}
use Rattle.pig_check.specs.Scripts.{script_of}
use Rattle.pig_check.specs.States.{IsSound}
use Rattle.pig_check.specs.Views.{state_tree}
use Rattle.pig_check.proofs.ScriptsTold.{fault_told, next_state, script_ends}
use Rattle.pig_check.proofs.checking.script.Goals as goal

pub returns-in-Err : goal.returns-in-Err
returns-in-Err c =
    let stmts = c.args.stmts.now in
    let behind = dropped stmts c.loop-stmt.stmt-index c.stmt-item.result (slice_get_read stmts (length stmts) c.loop-stmt.stmt-index c.stmt-item.result refl c.loop-stmt-test.true c.stmt-item.is) in
    fault_told c.loop-stmt.number (state_tree c.loop-stmt.state) (state_tree c.step.new.state) c.stmt-item.result (drop (c.loop-stmt.stmt-index + 1) stmts) stmts c.in-Err.fault c.in-Err.ensures.told
    (ap (script_of c.loop-stmt.number (state_tree c.loop-stmt.state)) (sym behind) ∙ c.loop-stmt.invariant.0)

pub loop-stmt-preserved : goal.loop-stmt-preserved
loop-stmt-preserved c =
    let stmts = c.args.stmts.now in
    let behind = dropped stmts c.loop-stmt.stmt-index c.stmt-item.result (slice_get_read stmts (length stmts) c.loop-stmt.stmt-index c.stmt-item.result refl c.loop-stmt-test.true c.stmt-item.is) in (
      sym (next_state c.loop-stmt.number (state_tree c.loop-stmt.state) c.stmt-item.result (drop (c.loop-stmt.stmt-index + 1) stmts) (state_tree c.step.new.state) c.in_ok-number.number c.in-Ok.ensures.told c.in_ok-number.ensures)
          ∙ ap (script_of c.loop-stmt.number (state_tree c.loop-stmt.state)) (sym behind)
          ∙ c.loop-stmt.invariant.0,
      subst (λ n. IsSound n (state_tree c.step.new.state)) (sym c.in_ok-number.ensures) c.in-Ok.ensures.sound,
    )

pub returns : goal.returns
returns c = sym c.loop-stmt.invariant.0 ∙ script_ends c.loop-stmt.number (state_tree c.loop-stmt.state) c.args.stmts.now c.loop-stmt.stmt-index c.loop-stmt-test.false
