use Rattle.std.proofs.Common.{◌<◌, refl, sym, ◌∙◌, subst, arith}
use Rattle.std.specs.Prelude.{All}
use Rattle.pig_job.specs.declared.Attempt.{Attempt}
use Rattle.pig_job.specs.declared.Fate.TheVariants.{Failed}
use Rattle.pig_board.specs.View.{earliest}
use Rattle.pig_board.specs.Words.{failures_word}
use Rattle.pig_board.proofs.Counts.{open_below, settled_below}
use Rattle.pig_board.proofs.Moves.{fail_allowed}
use Rattle.pig_board.proofs.board.Board.fail.Goals as goal

pub fetch_add-before-requires : goal.fetch_add-before-requires
fetch_add-before-requires c =
    let table = c.args.self.now.table.shared in
    let seat = c.args.pass.now.seat in
    let words = c.args.self.now.words in
    let task : c.args.t < c.args.self.now.tasks = open_below c.args.self.now.tasks c.args.t seat.me.0.tried c.requires.board.tasks c.requires.under_way in
    (c.requires.board.seat, omega arith, fail_allowed table.key table.table_id.slots seat.id c.args.t (failures_word c.args.t) seat.me c.requires.room c.requires.under_way refl)

pub returns-clause-board : goal.returns-clause-board
returns-clause-board c =
    let told = c.fetch_add-before.ensures.2 in
    let tried = c.args.pass.now.seat.me.0.tried in
    record {
      seat = c.fetch_add-before.ensures.0 ∙ c.requires.board.seat;
      tasks = subst (λ m. All (λ (x : Attempt). x.task < c.args.self.now.tasks) m.0.tried) (sym (told.after c.args.t refl)) (settled_below c.args.self.now.tasks c.args.t (earliest c.args.t tried) Failed tried c.requires.board.tasks);
    }
