use Rattle.std.proofs.Common.{◌<◌, ◌+◌, refl, sym, ◌∙◌, ap, subst, arith}
use Rattle.std.specs.Prelude.{All}
use Rattle.pig_job.specs.declared.Attempt.{Attempt}
use Rattle.pig_board.specs.Words.{winner_word}
use Rattle.pig_board.proofs.Counts.{open_below, open-of}
use Rattle.pig_board.proofs.Moves.{commit_allowed, commit_answer, committed_below}
use Rattle.pig_board.proofs.board.Board.commit.Goals as goal

pub compare_exchange-found-requires : goal.compare_exchange-found-requires
compare_exchange-found-requires c =
    let table = c.args.self.now.table.shared in
    let seat = c.args.pass.now.seat in
    let words = c.args.self.now.words in
    let task : c.args.t < c.args.self.now.tasks = open_below c.args.self.now.tasks c.args.t seat.me.0.tried c.requires.board.tasks (open-of c.args.t c.args.a seat.me.0.tried c.requires.under_way) in
    (c.requires.board.seat, omega arith, commit_allowed table.key table.table_id.slots seat.id c.args.t c.args.a (winner_word c.args.t) (c.args.a + 1) seat.me c.requires.under_way refl refl)

pub returns-clause-view : goal.returns-clause-view
returns-clause-view c =
    let told = c.compare_exchange-found.ensures.2 in
    commit_answer c.args.t c.args.a c.compare_exchange-found.result c.args.pass.now.seat.me.0 c.compare_exchange-found.new.seat.me.0 (ap (λ m. m.0) (told.after c.args.t c.args.a refl refl)) told.another

pub returns-clause-board : goal.returns-clause-board
returns-clause-board c =
    let told = c.compare_exchange-found.ensures.2 in
    record {
      seat = c.compare_exchange-found.ensures.0 ∙ c.requires.board.seat;
      tasks = subst (λ m. All (λ (x : Attempt). x.task < c.args.self.now.tasks) m.0.tried) (sym (told.after c.args.t c.args.a refl refl)) (committed_below c.args.self.now.tasks c.args.t c.args.a c.compare_exchange-found.result c.args.pass.now.seat.me.0 c.requires.board.tasks);
    }
