use Rattle.std.proofs.Common.{◌≡◌, true, rules, ◌∙◌, arith}
use Rattle.std.specs.Prelude.{is_some}
use Rattle.pig_board.specs.Pass.{tasks_of, view_of}
use Rattle.pig_pool.proofs.Steps.{looks-trans, looks-closed, knows-more, known-look}
use Rattle.pig_pool.proofs.wave.sees_all_won.Goals as goal

pub loop-t-preserved : goal.loop-t-preserved
loop-t-preserved g c =
    let v = view_of c.loop-t.pass in
    let w = view_of c.closed.new.pass in
    let looks = looks-closed c.loop-t.t c.closed.result v w c.closed.ensures.view in
    let some : is_some c.closed.result ≡ true = search rules in
    let here = known-look c.loop-t.t c.closed.result v w some c.closed.ensures.view in
    record {
      looks = record { board = c.closed.ensures.board; firm = c.closed.ensures.firm ∙ c.loop-t.invariant.looks.firm; looks = looks-trans (view_of c.args.pass.now) v w c.loop-t.invariant.looks.looks looks };
      all = knows-more c.loop-t.t v w looks.notes c.loop-t.invariant.all here;
    }

pub returns-clause-won : goal.returns-clause-won
returns-clause-won g c = λ t l. c.loop-t.invariant.all t (let count = c.args.shared.now.tasks in let whole : c.loop-t.t ≡ tasks_of c.args.shared.now.board.now = search rules in omega arith)
