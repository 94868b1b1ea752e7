use Rattle.std.proofs.Common.{◌≡◌, ◌<◌, ◌*◌, true, rules, refl, sym, ◌∙◌, subst, arith}
use Rattle.pig_board.specs.View.{knows_winner}
use Rattle.pig_board.specs.Pass.{tasks_of, view_of}
use Rattle.pig_pool.specs.Begins.{tells}
use Rattle.pig_pool.specs.Workers.{Works, Went, Spends}
use Rattle.pig_pool.specs.declared.worker.Course.TheVariants as course
use Rattle.pig_pool.proofs.Steps.{works-refl, works-trans, knows-more, rest-room}
use Rattle.pig_pool.proofs.Courses.{no-less-twice}
use Rattle.pig_pool.proofs.worker.try_rest.Goals as goal

pub loop-t-init : goal.loop-t-init
loop-t-init g c = record {
  stands = c.requires.ready.stands;
  firm = refl;
  works = works-refl c.args.shared.now.wave (view_of c.args.worker.now.pass) (tells (g.H.Host.faults c.args.host.now) (g.H.Host.begun c.args.host.now));
  room = omega arith;
  may = c.requires.ready.may;
  inputs = refl;
  later = omega arith;
  all = λ t l. absurd (omega arith);
}

pub try_task-requires-clause-drawn : goal.try_task-requires-clause-drawn
try_task-requires-clause-drawn g c κs within =
    let known = c.loop-t.invariant.works.notes.known in
    let drawn = c.requires.drawn in
    let count = c.args.shared.now.tasks in
    let below : c.loop-t.t < tasks_of c.args.shared.now.board.now = search rules in
    omega arith

pub try_task-requires-clause-ready : goal.try_task-requires-clause-ready
try_task-requires-clause-ready g c κs within =
    let count = c.args.shared.now.tasks in
    let below : c.loop-t.t < tasks_of c.args.shared.now.board.now = search rules in
    record {
      stands = c.loop-t.invariant.stands;
      may = c.loop-t.invariant.may;
      room = rest-room (c.args.shared.now.limit * tasks_of c.args.shared.now.board.now) (tasks_of c.args.shared.now.board.now) c.loop-t.t (view_of c.args.worker.now.pass) (view_of c.loop-t.worker.pass) below c.requires.ready.room c.loop-t.invariant.room;
      suits = subst (g.W.Work.suits c.args.shared.now.work.now) (sym c.loop-t.invariant.inputs) c.requires.ready.suits;
    }

pub returns-in_err-try_task-clause-left : goal.returns-in_err-try_task-clause-left
returns-in_err-try_task-clause-left g c =
    record {
      stands = c.try_task.ensures.left.stands;
      firm = c.try_task.ensures.left.firm ∙ c.loop-t.invariant.firm;
      works = search rules;
      room = search rules;
      inputs = c.try_task.ensures.left.inputs ∙ c.loop-t.invariant.inputs;
      later = no-less-twice (g.H.Host.faults c.args.host.now) (g.H.Host.faults c.loop-t.host) (g.H.Host.faults c.try_task.new.host) c.loop-t.invariant.later c.try_task.ensures.left.later;
    }

pub returns-in-Over-clause-left : goal.returns-in-Over-clause-left
returns-in-Over-clause-left g c =
    let count = c.args.shared.now.tasks in
    let below : c.loop-t.t < tasks_of c.args.shared.now.board.now = search rules in
    let then : Works c.args.shared.now.wave (view_of c.loop-t.worker.pass) (view_of c.try_task.new.worker.pass) (tells (g.H.Host.faults c.loop-t.host) (g.H.Host.begun c.loop-t.host)) (tells (g.H.Host.faults c.try_task.new.host) (g.H.Host.begun c.try_task.new.host)) = c.in_ok-try_task.ensures.left.works in
    let spent : Spends 1 (view_of c.loop-t.worker.pass) (view_of c.try_task.new.worker.pass) = c.in_ok-try_task.ensures.left.room in
    record {
      stands = c.try_task.ensures.left.stands;
      firm = c.try_task.ensures.left.firm ∙ c.loop-t.invariant.firm;
      works = works-trans c.args.shared.now.wave _ _ _ _ _ _ c.loop-t.invariant.works then;
      room = let before = c.loop-t.invariant.room in omega arith;
      inputs = c.try_task.ensures.left.inputs ∙ c.loop-t.invariant.inputs;
      later = no-less-twice (g.H.Host.faults c.args.host.now) (g.H.Host.faults c.loop-t.host) (g.H.Host.faults c.try_task.new.host) c.loop-t.invariant.later c.try_task.ensures.left.later;
    }

pub returns-in-Aside-clause-left : goal.returns-in-Aside-clause-left
returns-in-Aside-clause-left g c =
    let count = c.args.shared.now.tasks in
    let below : c.loop-t.t < tasks_of c.args.shared.now.board.now = search rules in
    let then : Works c.args.shared.now.wave (view_of c.loop-t.worker.pass) (view_of c.try_task.new.worker.pass) (tells (g.H.Host.faults c.loop-t.host) (g.H.Host.begun c.loop-t.host)) (tells (g.H.Host.faults c.try_task.new.host) (g.H.Host.begun c.try_task.new.host)) = c.in_ok-try_task.ensures.left.works in
    let spent : Spends 1 (view_of c.loop-t.worker.pass) (view_of c.try_task.new.worker.pass) = c.in_ok-try_task.ensures.left.room in
    record {
      stands = c.try_task.ensures.left.stands;
      firm = c.try_task.ensures.left.firm ∙ c.loop-t.invariant.firm;
      works = works-trans c.args.shared.now.wave _ _ _ _ _ _ c.loop-t.invariant.works then;
      room = let before = c.loop-t.invariant.room in omega arith;
      inputs = c.try_task.ensures.left.inputs ∙ c.loop-t.invariant.inputs;
      later = no-less-twice (g.H.Host.faults c.args.host.now) (g.H.Host.faults c.loop-t.host) (g.H.Host.faults c.try_task.new.host) c.loop-t.invariant.later c.try_task.ensures.left.later;
    }

pub loop-t-preserved : goal.loop-t-preserved
loop-t-preserved g c =
    let then : Works c.args.shared.now.wave (view_of c.loop-t.worker.pass) (view_of c.try_task.new.worker.pass) (tells (g.H.Host.faults c.loop-t.host) (g.H.Host.begun c.loop-t.host)) (tells (g.H.Host.faults c.try_task.new.host) (g.H.Host.begun c.try_task.new.host)) = c.in_ok-try_task.ensures.left.works in
    let spent : Spends 1 (view_of c.loop-t.worker.pass) (view_of c.try_task.new.worker.pass) = c.in_ok-try_task.ensures.left.room in
    let before = c.loop-t.invariant.room in
    let went : Went c.args.shared.now.limit c.try_task.new.worker.pass (knows_winner c.loop-t.t (view_of c.try_task.new.worker.pass) ≡ true) course.On = search rules in
    let later = c.try_task.ensures.left.later in
    let was = c.loop-t.invariant in
    record {
      stands = c.try_task.ensures.left.stands;
      firm = c.try_task.ensures.left.firm ∙ c.loop-t.invariant.firm;
      works = works-trans c.args.shared.now.wave _ _ _ _ _ _ was.works then;
      room = omega arith;
      may = went.1;
      inputs = c.try_task.ensures.left.inputs ∙ was.inputs;
      later = let p = was.later in omega arith;
      all = knows-more c.loop-t.t (view_of c.loop-t.worker.pass) (view_of c.try_task.new.worker.pass) then.notes was.all went.0;
    }

pub returns-clause-all : goal.returns-clause-all
returns-clause-all g c = (λ t l. c.loop-t.invariant.all t (let count = c.args.shared.now.tasks in let whole : c.loop-t.t ≡ tasks_of c.args.shared.now.board.now = search rules in omega arith), c.loop-t.invariant.may)

pub returns-clause-left : goal.returns-clause-left
returns-clause-left g c =
    let count = c.args.shared.now.tasks in
    let whole : c.loop-t.t ≡ tasks_of c.args.shared.now.board.now = search rules in
    record {
      stands = c.loop-t.invariant.stands;
      firm = c.loop-t.invariant.firm;
      works = c.loop-t.invariant.works;
      room = let before = c.loop-t.invariant.room in omega arith;
      inputs = c.loop-t.invariant.inputs;
      later = c.loop-t.invariant.later;
    }
