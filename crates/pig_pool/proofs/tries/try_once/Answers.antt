use Rattle.std.proofs.Common.{◌≡◌, ◌<◌, false, rules, refl, ◌∙◌, ap, arith}
use Rattle.pig_board.specs.View.{knows_winner, fails_of}
use Rattle.pig_board.specs.Pass.{view_of}
use Rattle.pig_pool.specs.Begins.{tells}
use Rattle.pig_pool.proofs.Steps.{calm-all, calm-closed, room-closed, room-failures, calm-works, closed-offer, closed-failed}
use Rattle.pig_pool.specs.declared.tries.Tried.TheVariants as tried
use Rattle.pig_pool.proofs.Looks.{begun}
use Rattle.pig_pool.proofs.Courses.{no-less, spent-tried}
use Rattle.pig_pool.proofs.Attempts.{calm-both, stands-calm, stands-open, stands-offer, stands-late, stands-failed, stands-same, tried-open, tried-open_of, tried-own, tried-room, tried-works, tried-offer, tried-failed, try-room}
use Rattle.pig_pool.proofs.tries.try_once.Goals as goal

pub begin-attempt-requires-clause-room : goal.begin-attempt-requires-clause-room
begin-attempt-requires-clause-room g c =
    let p = c.args.worker.now.pass in
    let os = c.args.worker.now.outputs in
    let right = g.W.Work.right c.args.shared.now.work.now in
    let t = c.args.t in
    let limit = c.args.shared.now.limit in
    let b = c.args.shared.now.board.now in
    let x = c.closed.new.pass in
    let y = c.failures.new.pass in
    let none : knows_winner t (view_of p) ≡ false = search rules in
    let same : view_of x ≡ view_of p = search rules in
    let less : fails_of t (view_of p) < limit = (let few = c.if-failures-limit.false in let own = c.failures.ensures.own in let e = ap (fails_of t) same in omega arith) in
    let room = try-room right limit t b p os c.requires.ready.stands c.requires.task less c.requires.ready.room in
    let there = room-closed t c.closed.result (view_of p) (view_of x) c.closed.ensures.view in
    let here = room-failures t c.failures.result (view_of x) (view_of y) c.failures.ensures.view in
    omega arith

pub end_failed-requires-clause-room : goal.end_failed-requires-clause-room
end_failed-requires-clause-room g c =
    let p = c.args.worker.now.pass in
    let os = c.args.worker.now.outputs in
    let right = g.W.Work.right c.args.shared.now.work.now in
    let t = c.args.t in
    let limit = c.args.shared.now.limit in
    let b = c.args.shared.now.board.now in
    let x = c.closed.new.pass in
    let y = c.failures.new.pass in
    let z = c.begin-attempt.new.pass in
    let u = c.try_attempt.new.pass in
    let a = c.begin-attempt.result in
    let none : knows_winner t (view_of p) ≡ false = search rules in
    let same : view_of x ≡ view_of p = search rules in
    let began = begun t c.failures.result a (view_of p) (view_of x) (view_of y) (view_of z) none same c.failures.ensures.view c.begin-attempt.ensures.view in
    let alike = c.try_attempt.ensures.view in
    let less : fails_of t (view_of p) < limit = (let few = c.if-failures-limit.false in let own = c.failures.ensures.own in let e = ap (fails_of t) same in omega arith) in
    let room = try-room right limit t b p os c.requires.ready.stands c.requires.task less c.requires.ready.room in
    let left = tried-room t a (view_of p) (view_of z) (view_of u) began alike in
    omega arith

pub returns-in_ok-offer-in-Ok-Some-clause-tried : goal.returns-in_ok-offer-in-Ok-Some-clause-tried
returns-in_ok-offer-in-Ok-Some-clause-tried g c =
    let p = c.args.worker.now.pass in
    let os = c.args.worker.now.outputs in
    let right = g.W.Work.right c.args.shared.now.work.now in
    let t = c.args.t in
    let limit = c.args.shared.now.limit in
    let b = c.args.shared.now.board.now in
    let x = c.closed.new.pass in
    let y = c.failures.new.pass in
    let z = c.begin-attempt.new.pass in
    let u = c.try_attempt.new.pass in
    let a = c.begin-attempt.result in
    let none : knows_winner t (view_of p) ≡ false = search rules in
    let same : view_of x ≡ view_of p = search rules in
    let began = begun t c.failures.result a (view_of p) (view_of x) (view_of y) (view_of z) none same c.failures.ensures.view c.begin-attempt.ensures.view in
    let alike = c.try_attempt.ensures.view in
    let q = c.offer.new.pass in
    tried-offer limit t a c.in_ok-offer-in-Ok-Some.field-0 p z u q began alike c.in_ok-offer-in-Ok-Some.ensures.view

pub returns-in-Ok-None-clause-tried : goal.returns-in-Ok-None-clause-tried
returns-in-Ok-None-clause-tried g c =
    let p = c.args.worker.now.pass in
    let os = c.args.worker.now.outputs in
    let right = g.W.Work.right c.args.shared.now.work.now in
    let t = c.args.t in
    let limit = c.args.shared.now.limit in
    let b = c.args.shared.now.board.now in
    let x = c.closed.new.pass in
    let y = c.failures.new.pass in
    let z = c.begin-attempt.new.pass in
    let u = c.try_attempt.new.pass in
    let a = c.begin-attempt.result in
    let none : knows_winner t (view_of p) ≡ false = search rules in
    let same : view_of x ≡ view_of p = search rules in
    let began = begun t c.failures.result a (view_of p) (view_of x) (view_of y) (view_of z) none same c.failures.ensures.view c.begin-attempt.ensures.view in
    let alike = c.try_attempt.ensures.view in
    let q = c.end_late.new.pass in
    tried-offer limit t a false p z u q began alike c.end_late.ensures.late

pub returns-in-Err-Lost-clause-tried : goal.returns-in-Err-Lost-clause-tried
returns-in-Err-Lost-clause-tried g c =
    let p = c.args.worker.now.pass in
    let os = c.args.worker.now.outputs in
    let right = g.W.Work.right c.args.shared.now.work.now in
    let t = c.args.t in
    let limit = c.args.shared.now.limit in
    let b = c.args.shared.now.board.now in
    let x = c.closed.new.pass in
    let y = c.failures.new.pass in
    let z = c.begin-attempt.new.pass in
    let u = c.try_attempt.new.pass in
    let a = c.begin-attempt.result in
    let none : knows_winner t (view_of p) ≡ false = search rules in
    let same : view_of x ≡ view_of p = search rules in
    let began = begun t c.failures.result a (view_of p) (view_of x) (view_of y) (view_of z) none same c.failures.ensures.view c.begin-attempt.ensures.view in
    let alike = c.try_attempt.ensures.view in
    let less : fails_of t (view_of p) < limit = (let few = c.if-failures-limit.false in let own = c.failures.ensures.own in let e = ap (fails_of t) same in omega arith) in
    let room = try-room right limit t b p os c.requires.ready.stands c.requires.task less c.requires.ready.room in
    let q = c.end_failed.new.pass in
    tried-failed limit t a p z u q c.end_failed.result began alike (omega arith) c.end_failed.ensures.view c.end_failed.ensures.failed

pub returns-in-Some-clause-left : goal.returns-in-Some-clause-left
returns-in-Some-clause-left g c =
    let p = c.args.worker.now.pass in
    let os = c.args.worker.now.outputs in
    let right = g.W.Work.right c.args.shared.now.work.now in
    let t = c.args.t in
    let limit = c.args.shared.now.limit in
    let b = c.args.shared.now.board.now in
    let x = c.closed.new.pass in
    let there = room-closed t c.closed.result (view_of p) (view_of x) c.closed.ensures.view in
    let all = calm-all (view_of p) (view_of x) (calm-closed t c.closed.result (view_of p) (view_of x) c.closed.ensures.view) in
    record {
      stands = stands-calm right limit b p x os c.requires.ready.stands (calm-closed t c.closed.result (view_of p) (view_of x) c.closed.ensures.view) c.closed.ensures.board;
      firm = c.closed.ensures.firm;
      works = calm-works c.args.shared.now.wave (view_of p) (view_of x) (tells (g.H.Host.faults c.args.host.now) (g.H.Host.begun c.args.host.now)) (calm-closed t c.closed.result (view_of p) (view_of x) c.closed.ensures.view);
      room = omega arith;
      inputs = refl;
      later = no-less (g.H.Host.faults c.args.host.now);
    }

pub returns-then-failures-limit-clause-left : goal.returns-then-failures-limit-clause-left
returns-then-failures-limit-clause-left g c =
    let p = c.args.worker.now.pass in
    let os = c.args.worker.now.outputs in
    let right = g.W.Work.right c.args.shared.now.work.now in
    let t = c.args.t in
    let limit = c.args.shared.now.limit in
    let b = c.args.shared.now.board.now in
    let x = c.closed.new.pass in
    let y = c.failures.new.pass in
    let there = room-closed t c.closed.result (view_of p) (view_of x) c.closed.ensures.view in
    let here = room-failures t c.failures.result (view_of x) (view_of y) c.failures.ensures.view in
    let all = calm-all (view_of p) (view_of y) (calm-both t c.failures.result c.closed.result p x y c.closed.ensures.view c.failures.ensures.view) in
    record {
      stands = stands-calm right limit b p y os c.requires.ready.stands (calm-both t c.failures.result c.closed.result p x y c.closed.ensures.view c.failures.ensures.view) c.failures.ensures.board;
      firm = c.failures.ensures.firm ∙ c.closed.ensures.firm;
      works = calm-works c.args.shared.now.wave (view_of p) (view_of y) (tells (g.H.Host.faults c.args.host.now) (g.H.Host.begun c.args.host.now)) (calm-both t c.failures.result c.closed.result p x y c.closed.ensures.view c.failures.ensures.view);
      room = omega arith;
      inputs = refl;
      later = no-less (g.H.Host.faults c.args.host.now);
    }

pub returns-in_err-offer-in-Ok-Some-clause-left : goal.returns-in_err-offer-in-Ok-Some-clause-left
returns-in_err-offer-in-Ok-Some-clause-left g c =
    let p = c.args.worker.now.pass in
    let os = c.args.worker.now.outputs in
    let right = g.W.Work.right c.args.shared.now.work.now in
    let t = c.args.t in
    let limit = c.args.shared.now.limit in
    let b = c.args.shared.now.board.now in
    let x = c.closed.new.pass in
    let y = c.failures.new.pass in
    let z = c.begin-attempt.new.pass in
    let u = c.try_attempt.new.pass in
    let a = c.begin-attempt.result in
    let none : knows_winner t (view_of p) ≡ false = search rules in
    let same : view_of x ≡ view_of p = search rules in
    let began = begun t c.failures.result a (view_of p) (view_of x) (view_of y) (view_of z) none same c.failures.ensures.view c.begin-attempt.ensures.view in
    let alike = c.try_attempt.ensures.view in
    let held = stands-open right limit t a b p z u os c.requires.ready.stands began alike c.try_attempt.ensures.board in
    let q = c.offer.new.pass in
    let seen : view_of q ≡ view_of u = search rules in
    let kept : c.offer.new.outputs ≡ os = search rules in
    record {
      stands = stands-same right limit b u q os c.offer.new.outputs held seen kept c.offer.ensures.board;
      firm = c.offer.ensures.firm ∙ c.try_attempt.ensures.firm ∙ c.begin-attempt.ensures.firm ∙ c.failures.ensures.firm ∙ c.closed.ensures.firm;
      works = search rules;
      room = search rules;
      inputs = c.try_attempt.ensures.inputs;
      later = c.try_attempt.ensures.later;
    }

pub returns-in_ok-offer-in-Ok-Some-clause-left : goal.returns-in_ok-offer-in-Ok-Some-clause-left
returns-in_ok-offer-in-Ok-Some-clause-left g c =
    let p = c.args.worker.now.pass in
    let os = c.args.worker.now.outputs in
    let right = g.W.Work.right c.args.shared.now.work.now in
    let t = c.args.t in
    let limit = c.args.shared.now.limit in
    let b = c.args.shared.now.board.now in
    let x = c.closed.new.pass in
    let y = c.failures.new.pass in
    let z = c.begin-attempt.new.pass in
    let u = c.try_attempt.new.pass in
    let a = c.begin-attempt.result in
    let none : knows_winner t (view_of p) ≡ false = search rules in
    let same : view_of x ≡ view_of p = search rules in
    let began = begun t c.failures.result a (view_of p) (view_of x) (view_of y) (view_of z) none same c.failures.ensures.view c.begin-attempt.ensures.view in
    let alike = c.try_attempt.ensures.view in
    let held = stands-open right limit t a b p z u os c.requires.ready.stands began alike c.try_attempt.ensures.board in
    let h = tried-open t a (view_of p) (view_of z) (view_of u) began alike in
    let q = c.offer.new.pass in
    let good : right t c.in-Ok-Some.output = search rules in
    let less : fails_of t (view_of p) < limit = (let few = c.if-failures-limit.false in let own = c.failures.ensures.own in let e = ap (fails_of t) same in omega arith) in
    let room = try-room right limit t b p os c.requires.ready.stands c.requires.task less c.requires.ready.room in
    let before = tells (g.H.Host.faults c.args.host.now) (g.H.Host.begun c.args.host.now) in
    let after = tells (g.H.Host.faults c.try_attempt.new.host) (g.H.Host.begun c.try_attempt.new.host) in
    record {
      stands = stands-offer right limit t a b c.in_ok-offer-in-Ok-Some.field-0 u q os c.offer.new.outputs c.in-Ok-Some.output held h good c.in_ok-offer-in-Ok-Some.ensures.view c.in_ok-offer-in-Ok-Some.ensures.outputs c.offer.ensures.board;
      firm = c.offer.ensures.firm ∙ c.try_attempt.ensures.firm ∙ c.begin-attempt.ensures.firm ∙ c.failures.ensures.firm ∙ c.closed.ensures.firm;
      works = tried-works c.args.shared.now.wave t a 0 (view_of p) (view_of z) (view_of u) (view_of q) before after began alike (omega arith) (closed-offer c.in_ok-offer-in-Ok-Some.field-0 t a (view_of u) (view_of q) h c.in_ok-offer-in-Ok-Some.ensures.view) c.try_attempt.ensures.begun (let l = c.try_attempt.ensures.later in omega arith);
      room = spent-tried limit t p q tried.Won (tried-offer limit t a c.in_ok-offer-in-Ok-Some.field-0 p z u q began alike c.in_ok-offer-in-Ok-Some.ensures.view);
      inputs = c.try_attempt.ensures.inputs;
      later = c.try_attempt.ensures.later;
    }

pub returns-in-Ok-None-clause-left : goal.returns-in-Ok-None-clause-left
returns-in-Ok-None-clause-left g c =
    let p = c.args.worker.now.pass in
    let os = c.args.worker.now.outputs in
    let right = g.W.Work.right c.args.shared.now.work.now in
    let t = c.args.t in
    let limit = c.args.shared.now.limit in
    let b = c.args.shared.now.board.now in
    let x = c.closed.new.pass in
    let y = c.failures.new.pass in
    let z = c.begin-attempt.new.pass in
    let u = c.try_attempt.new.pass in
    let a = c.begin-attempt.result in
    let none : knows_winner t (view_of p) ≡ false = search rules in
    let same : view_of x ≡ view_of p = search rules in
    let began = begun t c.failures.result a (view_of p) (view_of x) (view_of y) (view_of z) none same c.failures.ensures.view c.begin-attempt.ensures.view in
    let alike = c.try_attempt.ensures.view in
    let held = stands-open right limit t a b p z u os c.requires.ready.stands began alike c.try_attempt.ensures.board in
    let h = tried-open t a (view_of p) (view_of z) (view_of u) began alike in
    let q = c.end_late.new.pass in
    let less : fails_of t (view_of p) < limit = (let few = c.if-failures-limit.false in let own = c.failures.ensures.own in let e = ap (fails_of t) same in omega arith) in
    let room = try-room right limit t b p os c.requires.ready.stands c.requires.task less c.requires.ready.room in
    let before = tells (g.H.Host.faults c.args.host.now) (g.H.Host.begun c.args.host.now) in
    let after = tells (g.H.Host.faults c.try_attempt.new.host) (g.H.Host.begun c.try_attempt.new.host) in
    record {
      stands = stands-late right limit t a b u q os held h c.end_late.ensures.late c.end_late.ensures.board;
      firm = c.end_late.ensures.firm ∙ c.try_attempt.ensures.firm ∙ c.begin-attempt.ensures.firm ∙ c.failures.ensures.firm ∙ c.closed.ensures.firm;
      works = tried-works c.args.shared.now.wave t a 0 (view_of p) (view_of z) (view_of u) (view_of q) before after began alike (omega arith) (closed-offer false t a (view_of u) (view_of q) h c.end_late.ensures.late) c.try_attempt.ensures.begun (let l = c.try_attempt.ensures.later in omega arith);
      room = spent-tried limit t p q tried.Won (tried-offer limit t a false p z u q began alike c.end_late.ensures.late);
      inputs = c.try_attempt.ensures.inputs;
      later = c.try_attempt.ensures.later;
    }

pub returns-in-Err-Lost-clause-left : goal.returns-in-Err-Lost-clause-left
returns-in-Err-Lost-clause-left g c =
    let p = c.args.worker.now.pass in
    let os = c.args.worker.now.outputs in
    let right = g.W.Work.right c.args.shared.now.work.now in
    let t = c.args.t in
    let limit = c.args.shared.now.limit in
    let b = c.args.shared.now.board.now in
    let x = c.closed.new.pass in
    let y = c.failures.new.pass in
    let z = c.begin-attempt.new.pass in
    let u = c.try_attempt.new.pass in
    let a = c.begin-attempt.result in
    let none : knows_winner t (view_of p) ≡ false = search rules in
    let same : view_of x ≡ view_of p = search rules in
    let began = begun t c.failures.result a (view_of p) (view_of x) (view_of y) (view_of z) none same c.failures.ensures.view c.begin-attempt.ensures.view in
    let alike = c.try_attempt.ensures.view in
    let less : fails_of t (view_of p) < limit = (let few = c.if-failures-limit.false in let own = c.failures.ensures.own in let e = ap (fails_of t) same in omega arith) in
    let room = try-room right limit t b p os c.requires.ready.stands c.requires.task less c.requires.ready.room in
    let held = stands-open right limit t a b p z u os c.requires.ready.stands began alike c.try_attempt.ensures.board in
    let h = tried-open_of t a (view_of p) (view_of z) (view_of u) began alike in
    let left = tried-room t a (view_of p) (view_of z) (view_of u) began alike in
    let still : fails_of t (view_of u) < limit = (let e = tried-own t a (view_of p) (view_of z) (view_of u) began alike t in omega arith) in
    let q = c.end_failed.new.pass in
    let before = tells (g.H.Host.faults c.args.host.now) (g.H.Host.begun c.args.host.now) in
    let after = tells (g.H.Host.faults c.try_attempt.new.host) (g.H.Host.begun c.try_attempt.new.host) in
    let rose : g.H.Host.faults c.args.host.now < g.H.Host.faults c.try_attempt.new.host = search rules in
    record {
      stands = stands-failed right limit t b u q os held h (omega arith) still c.end_failed.ensures.view c.end_failed.ensures.board;
      firm = c.end_failed.ensures.firm ∙ c.try_attempt.ensures.firm ∙ c.begin-attempt.ensures.firm ∙ c.failures.ensures.firm ∙ c.closed.ensures.firm;
      works = tried-works c.args.shared.now.wave t a 1 (view_of p) (view_of z) (view_of u) (view_of q) before after began alike (omega arith) (closed-failed t (view_of u) (view_of q) h (omega arith) c.end_failed.ensures.view) c.try_attempt.ensures.begun (omega arith);
      room = spent-tried limit t p q c.end_failed.result (tried-failed limit t a p z u q c.end_failed.result began alike (omega arith) c.end_failed.ensures.view c.end_failed.ensures.failed);
      inputs = c.try_attempt.ensures.inputs;
      later = c.try_attempt.ensures.later;
    }

pub returns-in-Err-OutOfMemory-clause-left : goal.returns-in-Err-OutOfMemory-clause-left
returns-in-Err-OutOfMemory-clause-left g c =
    let p = c.args.worker.now.pass in
    let os = c.args.worker.now.outputs in
    let right = g.W.Work.right c.args.shared.now.work.now in
    let t = c.args.t in
    let limit = c.args.shared.now.limit in
    let b = c.args.shared.now.board.now in
    let x = c.closed.new.pass in
    let y = c.failures.new.pass in
    let z = c.begin-attempt.new.pass in
    let u = c.try_attempt.new.pass in
    let a = c.begin-attempt.result in
    let none : knows_winner t (view_of p) ≡ false = search rules in
    let same : view_of x ≡ view_of p = search rules in
    let began = begun t c.failures.result a (view_of p) (view_of x) (view_of y) (view_of z) none same c.failures.ensures.view c.begin-attempt.ensures.view in
    let alike = c.try_attempt.ensures.view in
    record {
      stands = stands-open right limit t a b p z u os c.requires.ready.stands began alike c.try_attempt.ensures.board;
      firm = c.try_attempt.ensures.firm ∙ c.begin-attempt.ensures.firm ∙ c.failures.ensures.firm ∙ c.closed.ensures.firm;
      works = tt;
      room = tt;
      inputs = c.try_attempt.ensures.inputs;
      later = c.try_attempt.ensures.later;
    }
