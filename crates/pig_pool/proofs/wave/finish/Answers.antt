use Rattle.std.proofs.Common.{◌<◌, ℕ, rules, ◌∙◌, subst}
use Rattle.pig_board.specs.Pass.{view_of}
use Rattle.pig_board.specs.End.{end_of}
use Rattle.pig_board.proofs.EndLaws.{an_end}
use Rattle.pig_pool.specs.Workers.{IsDone}
use Rattle.pig_pool.specs.Wave.{AllWon, HasUnwon, IsLeast}
use Rattle.pig_pool.proofs.Waves.{each_once, all_won, has_reason, ends-at}
use Rattle.pig_pool.proofs.wave.finish.Goals as goal

pub gather-outs-requires-clause-each : goal.gather-outs-requires-clause-each
gather-outs-requires-clause-each g c κs within =
    let tells = an_end (view_of c.args.rounds.pass) c.close-end.result c.close-end.ensures.ends in
    let all : AllWon c.close-end.result = search rules in
    each_once (g.W.Work.right c.args.work.now) (g.W.Work.count c.args.work.now) (view_of c.args.rounds.pass) c.close-end.result c.args.rounds.outputs c.requires.won tells (c.close-end.ensures.count ∙ c.requires.count) all

pub gather-outs-requires-clause-right : goal.gather-outs-requires-clause-right
gather-outs-requires-clause-right g c κs within = c.requires.won.right

pub returns-then-is_won-clause-won : goal.returns-then-is_won-clause-won
returns-then-is_won-clause-won g c =
    let tells = an_end (view_of c.args.rounds.pass) c.close-end.result c.close-end.ensures.ends in
    let all : AllWon c.close-end.result = search rules in
    all_won (g.W.Work.count c.args.work.now) (view_of c.args.rounds.pass) c.close-end.result tells (c.close-end.ensures.count ∙ c.requires.count) all

pub returns-then-is_won-clause-failures : goal.returns-then-is_won-clause-failures
returns-then-is_won-clause-failures g c = (an_end (view_of c.args.rounds.pass) c.close-end.result c.close-end.ensures.ends).all_failures

pub returns-then-is_won-clause-ends : goal.returns-then-is_won-clause-ends
returns-then-is_won-clause-ends g c = ends-at (view_of c.args.rounds.pass) c.close-end.result c.close-end.ensures.ends

pub unreachable-requires : goal.unreachable-requires
unreachable-requires g c =
    let tells = an_end (view_of c.args.rounds.pass) c.close-end.result c.close-end.ensures.ends in
    let unwon : HasUnwon c.close-end.result = search rules in
    let few : (t : ℕ) → (end_of c.close-end.result t).failed < c.args.limit = c.in_default.ensures in
    has_reason c.args.limit (g.W.Work.count c.args.work.now) (view_of c.args.rounds.pass) c.close-end.result (subst (λ n. IsDone c.args.limit n (view_of c.args.rounds.pass)) c.requires.count c.requires.done) tells (c.close-end.ensures.count ∙ c.requires.count) unwon few

pub returns-clause-failed : goal.returns-clause-failed
returns-clause-failed g c =
    let unwon : HasUnwon c.close-end.result = search rules in
    let least : IsLeast c.args.limit c.in-Some.task c.close-end.result = c.in-Some.ensures in
    record { count = c.close-end.ensures.count ∙ c.requires.count; unwon = unwon; least = least }

pub returns-clause-failures : goal.returns-clause-failures
returns-clause-failures g c = (an_end (view_of c.args.rounds.pass) c.close-end.result c.close-end.ensures.ends).all_failures

pub returns-clause-ends : goal.returns-clause-ends
returns-clause-ends g c = ends-at (view_of c.args.rounds.pass) c.close-end.result c.close-end.ensures.ends
