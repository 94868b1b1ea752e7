use Rattle.std.proofs.Common.{◌≡◌, true, rules, ◌∙◌}
use Rattle.pig_board.specs.Pass.{tasks_of, view_of}
use Rattle.pig_pool.specs.Workers.{IsBelow, saw_limit}
use Rattle.pig_pool.proofs.Steps.{looks-trans, below-looks}
use Rattle.pig_pool.proofs.Waves.{done-limit, done-either}
use Rattle.pig_pool.proofs.wave.is_done.Goals as goal

pub returns-then-sees_limit-clause-done : goal.returns-then-sees_limit-clause-done
returns-then-sees_limit-clause-done g c =
    let seen : saw_limit c.args.shared.now.limit (view_of c.sees_limit.new.pass) ≡ true = search rules in
    done-limit c.args.shared.now.limit (tasks_of c.args.shared.now.board.now) (view_of c.sees_limit.new.pass) seen

pub returns-clause-looks : goal.returns-clause-looks
returns-clause-looks g c = record {
  board = c.sees_all_won.ensures.looks.board;
  firm = c.sees_all_won.ensures.looks.firm ∙ c.sees_limit.ensures.looks.firm;
  looks = looks-trans (view_of c.args.pass.now) (view_of c.sees_limit.new.pass) (view_of c.sees_all_won.new.pass) c.sees_limit.ensures.looks.looks c.sees_all_won.ensures.looks.looks;
}

pub returns-clause-done : goal.returns-clause-done
returns-clause-done g c =
    let below : IsBelow c.args.shared.now.limit (tasks_of c.args.shared.now.board.now) (view_of c.sees_limit.new.pass) = search rules in
    done-either c.sees_all_won.result c.args.shared.now.limit (tasks_of c.args.shared.now.board.now) (view_of c.sees_all_won.new.pass) c.sees_all_won.ensures.won
    (below-looks c.args.shared.now.limit (tasks_of c.args.shared.now.board.now) (view_of c.sees_limit.new.pass) (view_of c.sees_all_won.new.pass) c.sees_all_won.ensures.looks.looks below)
