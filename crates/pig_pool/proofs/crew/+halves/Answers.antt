use Rattle.std.proofs.Common.{◌≡◌, ◌<◌, ◌-◌, length, rules, sym, subst, arith}
use Rattle.std.specs.Prelude.{All, map}
use Rattle.pig_pool.specs.Begins.{crew_tells}
use Rattle.pig_pool.specs.Crew.{IsEnded}
use Rattle.std.proofs.lemmas.List.Elements.{All-take, All-drop}
use Rattle.pig_board.specs.View.{kept_half, other_half}
use Rattle.pig_board.specs.Pass.{tasks_of, view_of, is_firm}
use Rattle.pig_pool.proofs.Crews.{halves_fit, ready-kept, ready-given, ended-halves, ended-one, ok_five, ok_six}
use Rattle.pig_pool.proofs.crew.+halves.Goals as goal

pub run_crew-run_both-one-requires-clause-left_ready : goal.run_crew-run_both-one-requires-clause-left_ready
run_crew-run_both-one-requires-clause-left_ready g t c κs within =
    let test = c.if-hosts-eq1.false in
    let some = c.requires.hosts.some in
    let back = c.split_at_mut-front.ensures.back_len in
    let front = c.split_at_mut-front.ensures.front_len in
    let fit = halves_fit (length c.args.hosts.now) c.args.depth (length c.split_at_mut-front.result.0.now) (length c.split_at_mut-front.result.1.now) c.requires.hosts.few (omega arith) front (omega arith) in
    ready-kept c.args.shared.now.board.now c.args.depth c.args.pass c.split-given.new.pass fit.left c.requires.ready c.split-given.ensures.board c.split-given.ensures.left c.split-given.ensures.firm

pub run_crew-run_both-one-requires-clause-right_ready : goal.run_crew-run_both-one-requires-clause-right_ready
run_crew-run_both-one-requires-clause-right_ready g t c κs within =
    let test = c.if-hosts-eq1.false in
    let some = c.requires.hosts.some in
    let back = c.split_at_mut-front.ensures.back_len in
    let front = c.split_at_mut-front.ensures.front_len in
    let fit = halves_fit (length c.args.hosts.now) c.args.depth (length c.split_at_mut-front.result.0.now) (length c.split_at_mut-front.result.1.now) c.requires.hosts.few (omega arith) front (omega arith) in
    ready-given c.args.shared.now.board.now c.args.depth c.args.pass c.split-given.result fit.left c.requires.ready c.split-given.ensures.board_given c.split-given.ensures.given c.split-given.ensures.firm_given

pub run_crew-run_both-one-requires-clause-left_hosts : goal.run_crew-run_both-one-requires-clause-left_hosts
run_crew-run_both-one-requires-clause-left_hosts g t c κs within =
    let test = c.if-hosts-eq1.false in
    let some = c.requires.hosts.some in
    let back = c.split_at_mut-front.ensures.back_len in
    let front = c.split_at_mut-front.ensures.front_len in
    let fit = halves_fit (length c.args.hosts.now) c.args.depth (length c.split_at_mut-front.result.0.now) (length c.split_at_mut-front.result.1.now) c.requires.hosts.few (omega arith) front (omega arith) in
    record {
      some = fit.front_some;
      few = fit.front_fit;
      suit = subst (All (λ h. g.W.Work.suits c.args.shared.now.work.now (g.H.Host.inputs h))) (sym c.split_at_mut-front.ensures.front) (All-take (λ h. g.W.Work.suits c.args.shared.now.work.now (g.H.Host.inputs h)) _ c.args.hosts.now c.requires.hosts.suit);
    }

pub run_crew-run_both-one-requires-clause-right_hosts : goal.run_crew-run_both-one-requires-clause-right_hosts
run_crew-run_both-one-requires-clause-right_hosts g t c κs within =
    let test = c.if-hosts-eq1.false in
    let some = c.requires.hosts.some in
    let back = c.split_at_mut-front.ensures.back_len in
    let front = c.split_at_mut-front.ensures.front_len in
    let fit = halves_fit (length c.args.hosts.now) c.args.depth (length c.split_at_mut-front.result.0.now) (length c.split_at_mut-front.result.1.now) c.requires.hosts.few (omega arith) front (omega arith) in
    record {
      some = fit.back_some;
      few = fit.back_fit;
      suit = subst (All (λ h. g.W.Work.suits c.args.shared.now.work.now (g.H.Host.inputs h))) (sym c.split_at_mut-front.ensures.back) (All-drop (λ h. g.W.Work.suits c.args.shared.now.work.now (g.H.Host.inputs h)) _ c.args.hosts.now c.requires.hosts.suit);
    }

pub run_crew-returns-then-hosts-eq1-clause-ended : goal.run_crew-returns-then-hosts-eq1-clause-ended
run_crew-returns-then-hosts-eq1-clause-ended g t c =
    let e = c.run_worker.ensures in
    ok_six c.run_worker.result _ _ _ _ _ _ _ e.board e.firm e.works e.won e.rested e.room (λ r on firm works won rested room.
    ended-one g.H.Host.faults g.H.Host.begun c.args.hosts.now _ c.run_worker.new.host (g.W.Work.right c.args.shared.now.work.now) c.args.shared.now.limit (tasks_of c.args.shared.now.board.now) c.args.shared.now.wave c.args.shared.now.board.now c.args.depth c.args.pass r.pass r.outputs r.is_aside
    c.if-hosts-eq1.true c.requires.ready e.later on firm works won rested room)

pub run_crew-returns-clause-ended : goal.run_crew-returns-clause-ended
run_crew-returns-clause-ended g t c =
    let before = c.split_at_mut-front.ensures.value in
    let test = c.if-hosts-eq1.false in
    let some = c.requires.hosts.some in
    let front = c.split_at_mut-front.ensures.front_len in
    let back = c.split_at_mut-front.ensures.back_len in
    let left : 0 < c.args.depth = (halves_fit (length c.args.hosts.now) c.args.depth (length c.split_at_mut-front.result.0.now) (length c.split_at_mut-front.result.1.now) c.requires.hosts.few (omega arith) front (omega arith)).left in
    let kept : view_of c.split-given.new.pass ≡ kept_half (view_of c.args.pass) = c.split-given.ensures.left in
    let given : view_of c.split-given.result ≡ other_half (view_of c.args.pass) = c.split-given.ensures.given in
    let firm_kept : is_firm c.split-given.new.pass ≡ is_firm c.args.pass = c.split-given.ensures.firm in
    let firm_given : is_firm c.split-given.result ≡ is_firm c.args.pass = c.split-given.ensures.firm_given in
    ok_five c.merge.result _ _ _ _ _ _ c.merge.ensures.board c.merge.ensures.firm c.merge.ensures.view c.merge.ensures.outputs c.merge.ensures.aside (λ r on firm view outs aside.
    let one : IsEnded (g.W.Work.right c.args.shared.now.work.now) c.args.shared.now.limit (tasks_of c.args.shared.now.board.now) c.args.shared.now.wave c.args.shared.now.board.now (c.args.depth - 1) c.split-given.new.pass (crew_tells (map g.H.Host.faults c.split_at_mut-front.result.0.now) (map g.H.Host.begun c.split_at_mut-front.result.0.now)) (crew_tells (map g.H.Host.faults c.run_both-one.new.left.hosts.now) (map g.H.Host.begun c.run_both-one.new.left.hosts.now)) c.in_ok-one.field-0.pass c.in_ok-one.field-0.outputs c.in_ok-one.field-0.is_aside = search rules in
    let two : IsEnded (g.W.Work.right c.args.shared.now.work.now) c.args.shared.now.limit (tasks_of c.args.shared.now.board.now) c.args.shared.now.wave c.args.shared.now.board.now (c.args.depth - 1) c.split-given.result (crew_tells (map g.H.Host.faults c.split_at_mut-front.result.1.now) (map g.H.Host.begun c.split_at_mut-front.result.1.now)) (crew_tells (map g.H.Host.faults c.run_both-one.new.right.hosts.now) (map g.H.Host.begun c.run_both-one.new.right.hosts.now)) c.in_ok-two.field-0.pass c.in_ok-two.field-0.outputs c.in_ok-two.field-0.is_aside = search rules in
    search (rules, ended-halves g.H.Host.faults g.H.Host.begun c.args.hosts.now c.split_at_mut-front.result.0.now c.split_at_mut-front.result.1.now (g.W.Work.right c.args.shared.now.work.now) c.args.shared.now.limit (tasks_of c.args.shared.now.board.now) c.args.shared.now.wave c.args.shared.now.board.now c.args.depth c.args.pass c.split-given.new.pass c.split-given.result r.pass c.in_ok-one.field-0.pass c.in_ok-two.field-0.pass c.in_ok-one.field-0.outputs c.in_ok-two.field-0.outputs r.outputs c.in_ok-one.field-0.is_aside c.in_ok-two.field-0.is_aside r.is_aside))
