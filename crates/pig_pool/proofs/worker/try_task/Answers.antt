use Rattle.std.proofs.Common.{◌*◌, rules, refl, sym, ◌∙◌, subst, arith}
use Rattle.pig_board.specs.Pass.{tasks_of, view_of}
use Rattle.pig_pool.specs.Begins.{tells}
use Rattle.pig_pool.specs.Workers.{Works, IsTried, Spends}
use Rattle.pig_pool.specs.declared.tries.Tried.TheVariants as tried
use Rattle.pig_pool.proofs.Steps.{works-refl, works-trans, room-after}
use Rattle.pig_pool.proofs.Courses.{no-less-twice}
use Rattle.pig_pool.proofs.worker.try_task.Goals as goal

pub loop-init : goal.loop-init
loop-init g c = record {
  stands = c.requires.ready.stands;
  firm = refl;
  works = works-refl c.args.shared.now.wave (view_of c.args.worker.now.pass) (tells (g.H.Host.faults c.args.host.now) (g.H.Host.begun c.args.host.now));
  room = omega arith;
  may = c.requires.ready.may;
  inputs = refl;
  later = omega arith;
}

pub try_once-requires-clause-drawn : goal.try_once-requires-clause-drawn
try_once-requires-clause-drawn g c κs within = let known = c.loop.invariant.works.notes.known in let drawn = c.requires.drawn in omega arith

pub try_once-requires-clause-ready : goal.try_once-requires-clause-ready
try_once-requires-clause-ready g c κs within = record {
  stands = c.loop.invariant.stands;
  may = c.loop.invariant.may;
  room = room-after 0 1 (c.args.shared.now.limit * tasks_of c.args.shared.now.board.now) (view_of c.args.worker.now.pass) (view_of c.loop.worker.pass) c.requires.ready.room c.loop.invariant.room;
  suits = subst (g.W.Work.suits c.args.shared.now.work.now) (sym c.loop.invariant.inputs) c.requires.ready.suits;
}

pub returns-in_err-try_once-clause-left : goal.returns-in_err-try_once-clause-left
returns-in_err-try_once-clause-left g c =
    record {
      stands = c.try_once.ensures.left.stands;
      firm = c.try_once.ensures.left.firm ∙ c.loop.invariant.firm;
      works = search rules;
      room = search rules;
      inputs = c.try_once.ensures.left.inputs ∙ c.loop.invariant.inputs;
      later = no-less-twice (g.H.Host.faults c.args.host.now) (g.H.Host.faults c.loop.host) (g.H.Host.faults c.try_once.new.host) c.loop.invariant.later c.try_once.ensures.left.later;
    }

pub returns-in-Won-clause-left : goal.returns-in-Won-clause-left
returns-in-Won-clause-left g c =
    let then : Works c.args.shared.now.wave (view_of c.loop.worker.pass) (view_of c.try_once.new.worker.pass) (tells (g.H.Host.faults c.loop.host) (g.H.Host.begun c.loop.host)) (tells (g.H.Host.faults c.try_once.new.host) (g.H.Host.begun c.try_once.new.host)) = c.in_ok-try_once.ensures.left.works in
    let spent : Spends 1 (view_of c.loop.worker.pass) (view_of c.try_once.new.worker.pass) = c.in_ok-try_once.ensures.left.room in
    record {
      stands = c.try_once.ensures.left.stands;
      firm = c.try_once.ensures.left.firm ∙ c.loop.invariant.firm;
      works = works-trans c.args.shared.now.wave _ _ _ _ _ _ c.loop.invariant.works then;
      room = let before = c.loop.invariant.room in omega arith;
      inputs = c.try_once.ensures.left.inputs ∙ c.loop.invariant.inputs;
      later = no-less-twice (g.H.Host.faults c.args.host.now) (g.H.Host.faults c.loop.host) (g.H.Host.faults c.try_once.new.host) c.loop.invariant.later c.try_once.ensures.left.later;
    }

pub returns-in-GivenUp-clause-left : goal.returns-in-GivenUp-clause-left
returns-in-GivenUp-clause-left g c =
    let then : Works c.args.shared.now.wave (view_of c.loop.worker.pass) (view_of c.try_once.new.worker.pass) (tells (g.H.Host.faults c.loop.host) (g.H.Host.begun c.loop.host)) (tells (g.H.Host.faults c.try_once.new.host) (g.H.Host.begun c.try_once.new.host)) = c.in_ok-try_once.ensures.left.works in
    let spent : Spends 1 (view_of c.loop.worker.pass) (view_of c.try_once.new.worker.pass) = c.in_ok-try_once.ensures.left.room in
    record {
      stands = c.try_once.ensures.left.stands;
      firm = c.try_once.ensures.left.firm ∙ c.loop.invariant.firm;
      works = works-trans c.args.shared.now.wave _ _ _ _ _ _ c.loop.invariant.works then;
      room = let before = c.loop.invariant.room in omega arith;
      inputs = c.try_once.ensures.left.inputs ∙ c.loop.invariant.inputs;
      later = no-less-twice (g.H.Host.faults c.args.host.now) (g.H.Host.faults c.loop.host) (g.H.Host.faults c.try_once.new.host) c.loop.invariant.later c.try_once.ensures.left.later;
    }

pub returns-in-Aside-clause-left : goal.returns-in-Aside-clause-left
returns-in-Aside-clause-left g c =
    let then : Works c.args.shared.now.wave (view_of c.loop.worker.pass) (view_of c.try_once.new.worker.pass) (tells (g.H.Host.faults c.loop.host) (g.H.Host.begun c.loop.host)) (tells (g.H.Host.faults c.try_once.new.host) (g.H.Host.begun c.try_once.new.host)) = c.in_ok-try_once.ensures.left.works in
    let spent : Spends 1 (view_of c.loop.worker.pass) (view_of c.try_once.new.worker.pass) = c.in_ok-try_once.ensures.left.room in
    record {
      stands = c.try_once.ensures.left.stands;
      firm = c.try_once.ensures.left.firm ∙ c.loop.invariant.firm;
      works = works-trans c.args.shared.now.wave _ _ _ _ _ _ c.loop.invariant.works then;
      room = let before = c.loop.invariant.room in omega arith;
      inputs = c.try_once.ensures.left.inputs ∙ c.loop.invariant.inputs;
      later = no-less-twice (g.H.Host.faults c.args.host.now) (g.H.Host.faults c.loop.host) (g.H.Host.faults c.try_once.new.host) c.loop.invariant.later c.try_once.ensures.left.later;
    }

pub returns-in-Won-clause-tried : goal.returns-in-Won-clause-tried
returns-in-Won-clause-tried g c =
    let told : IsTried c.args.shared.now.limit c.args.t c.loop.worker.pass c.try_once.new.worker.pass tried.Won = search rules in
    told.1

pub returns-in-GivenUp-clause-tried : goal.returns-in-GivenUp-clause-tried
returns-in-GivenUp-clause-tried g c =
    let told : IsTried c.args.shared.now.limit c.args.t c.loop.worker.pass c.try_once.new.worker.pass tried.GivenUp = search rules in
    told.1

pub returns-in-Aside-clause-tried : goal.returns-in-Aside-clause-tried
returns-in-Aside-clause-tried g c =
    let told : IsTried c.args.shared.now.limit c.args.t c.loop.worker.pass c.try_once.new.worker.pass tried.Aside = search rules in
    told.1

pub loop-smaller : goal.loop-smaller
loop-smaller g c =
    let told : IsTried c.args.shared.now.limit c.args.t c.loop.worker.pass c.try_once.new.worker.pass tried.Failed = search rules in
    let more = told.1.0 in
    let few = told.1.1.0 in
    omega arith

pub loop-preserved : goal.loop-preserved
loop-preserved g c =
    let told : IsTried c.args.shared.now.limit c.args.t c.loop.worker.pass c.try_once.new.worker.pass tried.Failed = search rules in
    let then : Works c.args.shared.now.wave (view_of c.loop.worker.pass) (view_of c.try_once.new.worker.pass) (tells (g.H.Host.faults c.loop.host) (g.H.Host.begun c.loop.host)) (tells (g.H.Host.faults c.try_once.new.host) (g.H.Host.begun c.try_once.new.host)) = c.in_ok-try_once.ensures.left.works in
    let spent = told.0 in
    let was = c.loop.invariant in
    let later = c.try_once.ensures.left.later in
    record {
      stands = c.try_once.ensures.left.stands;
      firm = c.try_once.ensures.left.firm ∙ was.firm;
      works = works-trans c.args.shared.now.wave _ _ _ _ _ _ was.works then;
      room = let p = was.room in omega arith;
      may = told.1.1.1;
      inputs = c.try_once.ensures.left.inputs ∙ was.inputs;
      later = let p = was.later in omega arith;
    }
