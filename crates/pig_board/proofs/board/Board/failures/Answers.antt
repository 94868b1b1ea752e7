use Rattle.std.proofs.Common.{◌<◌, refl, sym, ◌∙◌, subst, arith}
use Rattle.std.specs.Prelude.{All}
use Rattle.pig_job.specs.declared.Attempt.{Attempt}
use Rattle.pig_board.specs.Words.{failures_word}
use Rattle.pig_board.proofs.Moves.{count_allowed}
use Rattle.pig_board.proofs.board.Board.failures.Goals as goal

pub load-found-requires : goal.load-found-requires
load-found-requires c =
    let table = c.args.self.now.table.shared in
    let seat = c.args.pass.now.seat in
    let words = c.args.self.now.words in
    let task = c.requires.task in
    let counted = c.args.self.now.counted in
    (c.requires.board.seat, omega arith, count_allowed table.key table.table_id.slots seat.id c.args.t (failures_word c.args.t) seat.me (omega arith) refl)

pub returns-clause-board : goal.returns-clause-board
returns-clause-board c =
    let told = c.load-found.ensures.2 in
    record {
      seat = c.load-found.ensures.0 ∙ c.requires.board.seat;
      tasks = subst (λ m. All (λ (x : Attempt). x.task < c.args.self.now.tasks) m.0.tried) (sym (told.after c.args.t refl)) c.requires.board.tasks;
    }
