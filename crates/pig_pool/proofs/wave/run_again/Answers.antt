use Rattle.std.proofs.Common.{◌∙◌, ap}
use Rattle.pig_board.specs.declared.view.View.{View}
use Rattle.pig_board.specs.Pass.{tasks_of, view_of, is_firm}
use Rattle.pig_board.specs.View.{kept_half, other_half, both}
use Rattle.pig_pool.proofs.Crews.{ok_weaker, ok_both, crew-again, won-again, done-again}
use Rattle.pig_pool.proofs.wave.run_again.Goals as goal

pub cut-given-requires : goal.cut-given-requires
cut-given-requires g c = record { board = c.firm.ensures.board c.args.shared.now.board.now c.requires.board }

pub returns-clause-works : goal.returns-clause-works
returns-clause-works g c =
    let v = view_of c.args.worker.pass in
    let k = view_of c.cut-given.new.pass in
    let o = view_of c.cut-given.result in
    let l = view_of c.in_ok-again.again.pass in
    ok_weaker c.merge.result _ _ c.merge.ensures.view (λ r is. crew-again c.args.shared.now.wave v k o l (view_of r.pass) _ _
    (c.cut-given.ensures.left ∙ ap (λ (z : View). kept_half (kept_half z)) c.firm.ensures.view)
    (c.cut-given.ensures.given ∙ ap (λ (z : View). both (other_half z) (other_half (kept_half z))) c.firm.ensures.view)
    is c.in_ok-again.ensures.ended.works)

pub returns-clause-won : goal.returns-clause-won
returns-clause-won g c =
    let v = view_of c.args.worker.pass in
    let k = view_of c.cut-given.new.pass in
    let l = view_of c.in_ok-again.again.pass in
    ok_both c.merge.result _ _ _ c.merge.ensures.view c.merge.ensures.outputs (λ r is are. won-again (g.W.Work.right c.args.shared.now.work.now) v k l (view_of r.pass) c.args.worker.outputs c.in_ok-again.again.outputs r.outputs
    (c.cut-given.ensures.left ∙ ap (λ (z : View). kept_half (kept_half z)) c.firm.ensures.view) is are c.requires.won c.in_ok-again.ensures.ended.won)

pub returns-clause-done : goal.returns-clause-done
returns-clause-done g c =
    let k = view_of c.cut-given.new.pass in
    let l = view_of c.in_ok-again.again.pass in
    ok_weaker c.merge.result _ _ c.merge.ensures.view (λ r is. done-again c.args.shared.now.limit (tasks_of c.args.shared.now.board.now) (is_firm c.cut-given.result) c.in_ok-again.again.is_aside k l (view_of r.pass) (c.cut-given.ensures.firm.1 ∙ c.firm.ensures.firm) is c.in_ok-again.ensures.ended.rested)
