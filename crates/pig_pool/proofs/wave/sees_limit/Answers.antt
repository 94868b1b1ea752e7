use Rattle.std.proofs.Common.{◌≡◌, ◌<◌, rules, ◌∙◌, arith}
use Rattle.pig_board.specs.View.{fails_of}
use Rattle.pig_board.specs.Pass.{tasks_of, view_of}
use Rattle.pig_pool.proofs.Steps.{looks-trans, looks-failures, below-more}
use Rattle.pig_pool.proofs.wave.sees_limit.Goals as goal

pub loop-t-preserved : goal.loop-t-preserved
loop-t-preserved g c =
    let v = view_of c.loop-t.pass in
    let w = view_of c.failures.new.pass in
    let looks = looks-failures c.loop-t.t c.failures.result v w c.failures.ensures.view in
    let less : fails_of c.loop-t.t v < c.args.shared.now.limit = (let own = c.failures.ensures.own in let few : c.failures.result < c.args.shared.now.limit = search rules in omega arith) in
    record {
      looks = record { board = c.failures.ensures.board; firm = c.failures.ensures.firm ∙ c.loop-t.invariant.looks.firm; looks = looks-trans (view_of c.args.pass.now) v w c.loop-t.invariant.looks.looks looks };
      few = below-more c.args.shared.now.limit c.loop-t.t v w looks c.loop-t.invariant.few less;
    }

pub returns-clause-seen : goal.returns-clause-seen
returns-clause-seen g c = λ t l. c.loop-t.invariant.few t (let count = c.args.shared.now.tasks in let whole : c.loop-t.t ≡ tasks_of c.args.shared.now.board.now = search rules in omega arith)
