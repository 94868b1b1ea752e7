use Rattle.std.proofs.Common.{◌≡◌, Some, None, true, rules, refl, sym, ◌∙◌, subst, arith}
use Rattle.pig_board.specs.View.{knows_winner, IsDraw}
use Rattle.pig_board.specs.Pass.{tasks_of, view_of}
use Rattle.pig_pool.specs.Begins.{tells}
use Rattle.pig_pool.specs.Workers.{Works, Went, Spends}
use Rattle.pig_pool.specs.declared.worker.Course.TheVariants as course
use Rattle.pig_pool.proofs.Steps.{works-refl, works-trans, calm-works, calm-drawn, room-drawn, drawn-some, drawn-none, may-same, calm-all, drawn-room, drawn-room-left}
use Rattle.pig_pool.proofs.Attempts.{stands-calm}
use Rattle.pig_pool.proofs.Courses.{no-less-twice}
use Rattle.pig_pool.proofs.worker.try_drawn.Goals as goal

pub loop-t-init : goal.loop-t-init
loop-t-init g c = record {
  stands = c.requires.ready.stands;
  firm = refl;
  works = works-refl c.args.shared.now.wave (view_of c.args.worker.now.pass) (tells (g.H.Host.faults c.args.host.now) (g.H.Host.begun c.args.host.now));
  room = omega arith;
  may = c.requires.ready.may;
  inputs = refl;
  later = omega arith;
}

pub draw-requires-clause-board : goal.draw-requires-clause-board
draw-requires-clause-board g c = c.loop-t.invariant.stands.board

pub draw-requires-clause-room : goal.draw-requires-clause-room
draw-requires-clause-room g c =
    let some = drawn-room c.args.shared.now.limit c.args.shared.now.board.now c.loop-t.worker.pass (view_of c.args.worker.now.pass) c.requires.ready.room c.loop-t.invariant.stands.board c.loop-t.invariant.stands.few c.loop-t.invariant.room in
    some

pub try_task-requires-clause-ready : goal.try_task-requires-clause-ready
try_task-requires-clause-ready g c κs within =
    let told : IsDraw (tasks_of c.args.shared.now.board.now) (view_of c.loop-t.worker.pass) (view_of c.draw.new.pass) (Some c.in-Some.t) = search rules in
    let at = drawn-some (tasks_of c.args.shared.now.board.now) c.in-Some.t (view_of c.loop-t.worker.pass) (view_of c.draw.new.pass) told in
    let beyond = at.beyond in
    let below = at.below in
    let known = at.known in
    let left = at.room in
    let some = drawn-room c.args.shared.now.limit c.args.shared.now.board.now c.loop-t.worker.pass (view_of c.args.worker.now.pass) c.requires.ready.room c.loop-t.invariant.stands.board c.loop-t.invariant.stands.few c.loop-t.invariant.room in
    let calm = calm-drawn (tasks_of c.args.shared.now.board.now) c.draw.result (view_of c.loop-t.worker.pass) (view_of c.draw.new.pass) some c.draw.ensures.drawn in
    record {
      stands = stands-calm (g.W.Work.right c.args.shared.now.work.now) c.args.shared.now.limit c.args.shared.now.board.now c.loop-t.worker.pass c.draw.new.pass c.loop-t.worker.outputs c.loop-t.invariant.stands calm c.draw.ensures.board;
      may = may-same c.loop-t.worker.pass c.draw.new.pass calm.streak c.draw.ensures.firm ∙ c.loop-t.invariant.may;
      room = drawn-room-left c.args.shared.now.limit (tasks_of c.args.shared.now.board.now) c.in-Some.t (view_of c.args.worker.now.pass) (view_of c.loop-t.worker.pass) (view_of c.draw.new.pass) c.requires.ready.room c.loop-t.invariant.room beyond below left (calm-all (view_of c.loop-t.worker.pass) (view_of c.draw.new.pass) calm) some;
      suits = subst (g.W.Work.suits c.args.shared.now.work.now) (sym c.loop-t.invariant.inputs) c.requires.ready.suits;
    }

pub returns-in_err-try_task-clause-left : goal.returns-in_err-try_task-clause-left
returns-in_err-try_task-clause-left g c =
    record {
      stands = c.try_task.ensures.left.stands;
      firm = c.try_task.ensures.left.firm ∙ c.draw.ensures.firm ∙ c.loop-t.invariant.firm;
      works = search rules;
      room = search rules;
      inputs = c.try_task.ensures.left.inputs ∙ c.loop-t.invariant.inputs;
      later = no-less-twice (g.H.Host.faults c.args.host.now) (g.H.Host.faults c.loop-t.host) (g.H.Host.faults c.try_task.new.host) c.loop-t.invariant.later c.try_task.ensures.left.later;
    }

pub returns-in-Over-clause-left : goal.returns-in-Over-clause-left
returns-in-Over-clause-left g c =
    let told : IsDraw (tasks_of c.args.shared.now.board.now) (view_of c.loop-t.worker.pass) (view_of c.draw.new.pass) (Some c.in-Some.t) = search rules in
    let at = drawn-some (tasks_of c.args.shared.now.board.now) c.in-Some.t (view_of c.loop-t.worker.pass) (view_of c.draw.new.pass) told in
    let beyond = at.beyond in
    let below = at.below in
    let known = at.known in
    let left = at.room in
    let some = drawn-room c.args.shared.now.limit c.args.shared.now.board.now c.loop-t.worker.pass (view_of c.args.worker.now.pass) c.requires.ready.room c.loop-t.invariant.stands.board c.loop-t.invariant.stands.few c.loop-t.invariant.room in
    let calm = calm-drawn (tasks_of c.args.shared.now.board.now) c.draw.result (view_of c.loop-t.worker.pass) (view_of c.draw.new.pass) some c.draw.ensures.drawn in
    let drawn = calm-works c.args.shared.now.wave (view_of c.loop-t.worker.pass) (view_of c.draw.new.pass) (tells (g.H.Host.faults c.loop-t.host) (g.H.Host.begun c.loop-t.host)) calm in
    let then : Works c.args.shared.now.wave (view_of c.draw.new.pass) (view_of c.try_task.new.worker.pass) (tells (g.H.Host.faults c.loop-t.host) (g.H.Host.begun c.loop-t.host)) (tells (g.H.Host.faults c.try_task.new.host) (g.H.Host.begun c.try_task.new.host)) = c.in_ok-try_task.ensures.left.works in
    let spent : Spends 1 (view_of c.draw.new.pass) (view_of c.try_task.new.worker.pass) = c.in_ok-try_task.ensures.left.room in
    let before = c.loop-t.invariant.room in
    let all = calm-all (view_of c.loop-t.worker.pass) (view_of c.draw.new.pass) calm in
    record {
      stands = c.try_task.ensures.left.stands;
      firm = c.try_task.ensures.left.firm ∙ c.draw.ensures.firm ∙ c.loop-t.invariant.firm;
      works = works-trans c.args.shared.now.wave _ _ _ _ _ _ (works-trans c.args.shared.now.wave _ _ _ _ _ _ c.loop-t.invariant.works drawn) then;
      room = omega arith;
      inputs = c.try_task.ensures.left.inputs ∙ c.loop-t.invariant.inputs;
      later = no-less-twice (g.H.Host.faults c.args.host.now) (g.H.Host.faults c.loop-t.host) (g.H.Host.faults c.try_task.new.host) c.loop-t.invariant.later c.try_task.ensures.left.later;
    }

pub returns-in-Aside-clause-left : goal.returns-in-Aside-clause-left
returns-in-Aside-clause-left g c =
    let told : IsDraw (tasks_of c.args.shared.now.board.now) (view_of c.loop-t.worker.pass) (view_of c.draw.new.pass) (Some c.in-Some.t) = search rules in
    let at = drawn-some (tasks_of c.args.shared.now.board.now) c.in-Some.t (view_of c.loop-t.worker.pass) (view_of c.draw.new.pass) told in
    let beyond = at.beyond in
    let below = at.below in
    let known = at.known in
    let left = at.room in
    let some = drawn-room c.args.shared.now.limit c.args.shared.now.board.now c.loop-t.worker.pass (view_of c.args.worker.now.pass) c.requires.ready.room c.loop-t.invariant.stands.board c.loop-t.invariant.stands.few c.loop-t.invariant.room in
    let calm = calm-drawn (tasks_of c.args.shared.now.board.now) c.draw.result (view_of c.loop-t.worker.pass) (view_of c.draw.new.pass) some c.draw.ensures.drawn in
    let drawn = calm-works c.args.shared.now.wave (view_of c.loop-t.worker.pass) (view_of c.draw.new.pass) (tells (g.H.Host.faults c.loop-t.host) (g.H.Host.begun c.loop-t.host)) calm in
    let then : Works c.args.shared.now.wave (view_of c.draw.new.pass) (view_of c.try_task.new.worker.pass) (tells (g.H.Host.faults c.loop-t.host) (g.H.Host.begun c.loop-t.host)) (tells (g.H.Host.faults c.try_task.new.host) (g.H.Host.begun c.try_task.new.host)) = c.in_ok-try_task.ensures.left.works in
    let spent : Spends 1 (view_of c.draw.new.pass) (view_of c.try_task.new.worker.pass) = c.in_ok-try_task.ensures.left.room in
    let before = c.loop-t.invariant.room in
    let all = calm-all (view_of c.loop-t.worker.pass) (view_of c.draw.new.pass) calm in
    record {
      stands = c.try_task.ensures.left.stands;
      firm = c.try_task.ensures.left.firm ∙ c.draw.ensures.firm ∙ c.loop-t.invariant.firm;
      works = works-trans c.args.shared.now.wave _ _ _ _ _ _ (works-trans c.args.shared.now.wave _ _ _ _ _ _ c.loop-t.invariant.works drawn) then;
      room = omega arith;
      inputs = c.try_task.ensures.left.inputs ∙ c.loop-t.invariant.inputs;
      later = no-less-twice (g.H.Host.faults c.args.host.now) (g.H.Host.faults c.loop-t.host) (g.H.Host.faults c.try_task.new.host) c.loop-t.invariant.later c.try_task.ensures.left.later;
    }

pub loop-t-smaller : goal.loop-t-smaller
loop-t-smaller g c =
    let told : IsDraw (tasks_of c.args.shared.now.board.now) (view_of c.loop-t.worker.pass) (view_of c.draw.new.pass) (Some c.in-Some.t) = search rules in
    let at = drawn-some (tasks_of c.args.shared.now.board.now) c.in-Some.t (view_of c.loop-t.worker.pass) (view_of c.draw.new.pass) told in
    let beyond = at.beyond in
    let below = at.below in
    let known = at.known in
    let left = at.room in
    let then : Works c.args.shared.now.wave (view_of c.draw.new.pass) (view_of c.try_task.new.worker.pass) (tells (g.H.Host.faults c.loop-t.host) (g.H.Host.begun c.loop-t.host)) (tells (g.H.Host.faults c.try_task.new.host) (g.H.Host.begun c.try_task.new.host)) = c.in_ok-try_task.ensures.left.works in
    let stays = then.notes.known in
    omega arith

pub loop-t-preserved : goal.loop-t-preserved
loop-t-preserved g c =
    let told : IsDraw (tasks_of c.args.shared.now.board.now) (view_of c.loop-t.worker.pass) (view_of c.draw.new.pass) (Some c.in-Some.t) = search rules in
    let at = drawn-some (tasks_of c.args.shared.now.board.now) c.in-Some.t (view_of c.loop-t.worker.pass) (view_of c.draw.new.pass) told in
    let beyond = at.beyond in
    let below = at.below in
    let known = at.known in
    let left = at.room in
    let some = drawn-room c.args.shared.now.limit c.args.shared.now.board.now c.loop-t.worker.pass (view_of c.args.worker.now.pass) c.requires.ready.room c.loop-t.invariant.stands.board c.loop-t.invariant.stands.few c.loop-t.invariant.room in
    let calm = calm-drawn (tasks_of c.args.shared.now.board.now) c.draw.result (view_of c.loop-t.worker.pass) (view_of c.draw.new.pass) some c.draw.ensures.drawn in
    let drawn = calm-works c.args.shared.now.wave (view_of c.loop-t.worker.pass) (view_of c.draw.new.pass) (tells (g.H.Host.faults c.loop-t.host) (g.H.Host.begun c.loop-t.host)) calm in
    let then : Works c.args.shared.now.wave (view_of c.draw.new.pass) (view_of c.try_task.new.worker.pass) (tells (g.H.Host.faults c.loop-t.host) (g.H.Host.begun c.loop-t.host)) (tells (g.H.Host.faults c.try_task.new.host) (g.H.Host.begun c.try_task.new.host)) = c.in_ok-try_task.ensures.left.works in
    let spent : Spends 1 (view_of c.draw.new.pass) (view_of c.try_task.new.worker.pass) = c.in_ok-try_task.ensures.left.room in
    let before = c.loop-t.invariant.room in
    let all = calm-all (view_of c.loop-t.worker.pass) (view_of c.draw.new.pass) calm in
    let stays = then.notes.known in
    let went : Went c.args.shared.now.limit c.try_task.new.worker.pass (knows_winner c.in-Some.t (view_of c.try_task.new.worker.pass) ≡ true) course.On = search rules in
    let later = c.try_task.ensures.left.later in
    let was = c.loop-t.invariant in
    record {
      stands = c.try_task.ensures.left.stands;
      firm = c.try_task.ensures.left.firm ∙ c.draw.ensures.firm ∙ c.loop-t.invariant.firm;
      works = works-trans c.args.shared.now.wave _ _ _ _ _ _ (works-trans c.args.shared.now.wave _ _ _ _ _ _ was.works drawn) then;
      room = omega arith;
      may = went.1;
      inputs = c.try_task.ensures.left.inputs ∙ was.inputs;
      later = let p = was.later in omega arith;
    }

pub returns-clause-drawn : goal.returns-clause-drawn
returns-clause-drawn g c =
    let some = drawn-room c.args.shared.now.limit c.args.shared.now.board.now c.loop-t.worker.pass (view_of c.args.worker.now.pass) c.requires.ready.room c.loop-t.invariant.stands.board c.loop-t.invariant.stands.few c.loop-t.invariant.room in
    let calm = calm-drawn (tasks_of c.args.shared.now.board.now) c.draw.result (view_of c.loop-t.worker.pass) (view_of c.draw.new.pass) some c.draw.ensures.drawn in
    let told : IsDraw (tasks_of c.args.shared.now.board.now) (view_of c.loop-t.worker.pass) (view_of c.draw.new.pass) None = search rules in
    (drawn-none (tasks_of c.args.shared.now.board.now) (view_of c.loop-t.worker.pass) (view_of c.draw.new.pass) told, may-same c.loop-t.worker.pass c.draw.new.pass calm.streak c.draw.ensures.firm ∙ c.loop-t.invariant.may)

pub returns-clause-left : goal.returns-clause-left
returns-clause-left g c =
    let some = drawn-room c.args.shared.now.limit c.args.shared.now.board.now c.loop-t.worker.pass (view_of c.args.worker.now.pass) c.requires.ready.room c.loop-t.invariant.stands.board c.loop-t.invariant.stands.few c.loop-t.invariant.room in
    let calm = calm-drawn (tasks_of c.args.shared.now.board.now) c.draw.result (view_of c.loop-t.worker.pass) (view_of c.draw.new.pass) some c.draw.ensures.drawn in
    let drawn = calm-works c.args.shared.now.wave (view_of c.loop-t.worker.pass) (view_of c.draw.new.pass) (tells (g.H.Host.faults c.loop-t.host) (g.H.Host.begun c.loop-t.host)) calm in
    let left = room-drawn (tasks_of c.args.shared.now.board.now) c.draw.result (view_of c.loop-t.worker.pass) (view_of c.draw.new.pass) c.draw.ensures.drawn in
    let before = c.loop-t.invariant.room in
    let all = calm-all (view_of c.loop-t.worker.pass) (view_of c.draw.new.pass) calm in
    record {
      stands = stands-calm (g.W.Work.right c.args.shared.now.work.now) c.args.shared.now.limit c.args.shared.now.board.now c.loop-t.worker.pass c.draw.new.pass c.loop-t.worker.outputs c.loop-t.invariant.stands calm c.draw.ensures.board;
      firm = c.draw.ensures.firm ∙ c.loop-t.invariant.firm;
      works = works-trans c.args.shared.now.wave _ _ _ _ _ _ c.loop-t.invariant.works drawn;
      room = omega arith;
      inputs = c.loop-t.invariant.inputs;
      later = c.loop-t.invariant.later;
    }
