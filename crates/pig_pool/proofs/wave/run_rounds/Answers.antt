use Rattle.std.proofs.Common.{◌≡◌, true, not, ◌||◌, rules, refl, subst, inr}
use Rattle.std.specs.Prelude.{map}
use Rattle.pig_board.specs.Pass.{tasks_of, view_of, is_firm}
use Rattle.pig_pool.specs.Workers.{IsBelow}
use Rattle.pig_pool.specs.Crew.{Rose}
use Rattle.pig_pool.proofs.Steps.{calm-looks, calm-wins, won-calm}
use Rattle.pig_pool.proofs.Crews.{crew-then, rise-then}
use Rattle.pig_pool.proofs.Waves.{done-round, room-again, hosts-again}
use Rattle.pig_pool.proofs.wave.run_rounds.Goals as goal

pub returns-then-not-worker-clause-won : goal.returns-then-not-worker-clause-won
returns-then-not-worker-clause-won g c =
    let v = view_of c.in_ok-worker.worker.pass in
    let w = view_of c.is_done-over.new.pass in
    won-calm (g.W.Work.right c.args.shared.now.work.now) v w c.in_ok-worker.worker.outputs (calm-wins v w (calm-looks v w c.is_done-over.ensures.looks.looks)) c.in_ok-worker.ensures.ended.won

pub returns-then-not-worker-clause-done : goal.returns-then-not-worker-clause-done
returns-then-not-worker-clause-done g c =
    let v = view_of c.in_ok-worker.worker.pass in
    let w = view_of c.is_done-over.new.pass in
    let last : (not c.in_ok-worker.worker.is_aside || c.is_done-over.result) ≡ true = search rules in
    done-round c.args.shared.now.limit (tasks_of c.args.shared.now.board.now) (is_firm c.args.pass) c.in_ok-worker.worker.is_aside c.is_done-over.result v w last c.in_ok-worker.ensures.ended.rested c.is_done-over.ensures.looks.looks c.is_done-over.ensures.done

pub run_again-requires-clause-room : goal.run_again-requires-clause-room
run_again-requires-clause-room g c κs within =
    let below : IsBelow c.args.shared.now.limit (tasks_of c.args.shared.now.board.now) (view_of c.is_done-over.new.pass) = search rules in
    room-again c.args.shared.now.limit c.args.shared.now.board.now (view_of c.args.pass) c.in_ok-worker.worker.pass c.is_done-over.new.pass c.args.shared.now.few c.args.shared.now.limited c.requires.fresh c.in_ok-worker.ensures.ended.room c.is_done-over.ensures.looks.board c.is_done-over.ensures.looks.looks below

pub run_again-requires-clause-won : goal.run_again-requires-clause-won
run_again-requires-clause-won g c κs within =
    let v = view_of c.in_ok-worker.worker.pass in
    let w = view_of c.is_done-over.new.pass in
    won-calm (g.W.Work.right c.args.shared.now.work.now) v w c.in_ok-worker.worker.outputs (calm-wins v w (calm-looks v w c.is_done-over.ensures.looks.looks)) c.in_ok-worker.ensures.ended.won

pub run_again-requires-clause-hosts : goal.run_again-requires-clause-hosts
run_again-requires-clause-hosts g c κs within = hosts-again g.H.Host.inputs (g.W.Work.suits c.args.shared.now.work.now) 8 c.args.hosts.now c.run_crew.new.hosts c.run_crew.ensures.stay.same c.requires.hosts

pub returns-clause-works : goal.returns-clause-works
returns-clause-works g c =
    let v = view_of c.in_ok-worker.worker.pass in
    let w = view_of c.is_done-over.new.pass in
    crew-then c.args.shared.now.wave (view_of c.args.pass) v w (view_of c.in_ok-ended.ended.pass) _ _ _ c.in_ok-worker.ensures.ended.works (calm-looks v w c.is_done-over.ensures.looks.looks) c.in_ok-ended.ensures.works

pub returns-clause-rounds : goal.returns-clause-rounds
returns-clause-rounds g c =
    let w = view_of c.is_done-over.new.pass in
    let aside : c.in_ok-worker.worker.is_aside ≡ true = search rules in
    let rose = subst (λ b. Rose b (map g.H.Host.faults c.args.hosts.now) (map g.H.Host.faults c.run_crew.new.hosts)) aside c.in_ok-worker.ensures.ended.rose in
    inr (refl, rise-then 3 c.args.shared.now.wave w (view_of c.in_ok-ended.ended.pass) (map g.H.Host.faults c.args.hosts.now) _ _ rose c.in_ok-ended.ensures.works)
