use Rattle.std.proofs.Common.{arith}
use Rattle.pig_board.specs.Pass.{view_of}
use Rattle.pig_runtime_tests.proofs.Tries.{tried_failed, tried_commit}
use Rattle.pig_runtime_tests.proofs.boards.try_task.Goals as goal

pub returns-then-fails-clause-steps : goal.returns-then-fails-clause-steps
returns-then-fails-clause-steps c = tried_failed c.args.t c.begin-attempt.result c.fail.result (view_of c.args.pass.now) (view_of c.begin-attempt.new.pass) (view_of c.fail.new.pass) c.requires.room c.begin-attempt.ensures.view c.fail.ensures.view

pub returns-then-won-clause-steps : goal.returns-then-won-clause-steps
returns-then-won-clause-steps c = let room = c.requires.room in tried_commit c.args.t c.begin-attempt.result c.commit-won.result (view_of c.args.pass.now) (view_of c.begin-attempt.new.pass) (view_of c.commit-won.new.pass) (omega arith) c.begin-attempt.ensures.view c.commit-won.ensures.view

pub returns-clause-steps : goal.returns-clause-steps
returns-clause-steps c = let room = c.requires.room in tried_commit c.args.t c.begin-attempt.result c.commit-won.result (view_of c.args.pass.now) (view_of c.begin-attempt.new.pass) (view_of c.commit-won.new.pass) (omega arith) c.begin-attempt.ensures.view c.commit-won.ensures.view
