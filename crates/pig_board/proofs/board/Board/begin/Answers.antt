use Rattle.std.proofs.Common.{◌<◌, refl, sym, ◌∙◌, subst, arith}
use Rattle.std.specs.Prelude.{All}
use Rattle.std.proofs.lemmas.List.Elements.{All-push}
use Rattle.pig_job.specs.declared.Attempt.{Attempt}
use Rattle.pig_job.specs.declared.Fate.TheVariants.{Unended}
use Rattle.pig_board.specs.Words.{begun_word}
use Rattle.pig_board.proofs.Moves.{begin_allowed}
use Rattle.pig_board.proofs.board.Board.begin.Goals as goal

pub fetch_add-number-requires : goal.fetch_add-number-requires
fetch_add-number-requires c =
    let table = c.args.self.now.table.shared in
    let seat = c.args.pass.now.seat in
    let words = c.args.self.now.words in
    let task = c.requires.task in
    let counted = c.args.self.now.counted in
    (c.requires.board.seat, omega arith, begin_allowed table.key table.table_id.slots seat.id c.args.t (begun_word c.args.t) seat.me c.requires.room (omega arith) c.requires.drawn refl)

pub returns-clause-unused : goal.returns-clause-unused
returns-clause-unused c = (c.fetch_add-number.ensures.2.after c.args.t refl).1

pub returns-clause-board : goal.returns-clause-board
returns-clause-board c =
    let begun : Attempt = record { task = c.args.t; number = c.fetch_add-number.result; fate = Unended } in
    record {
      seat = c.fetch_add-number.ensures.0 ∙ c.requires.board.seat;
      tasks = subst (λ m. All (λ (x : Attempt). x.task < c.args.self.now.tasks) m.0.tried) (sym (c.fetch_add-number.ensures.2.after c.args.t refl).0) (All-push (λ (x : Attempt). x.task < c.args.self.now.tasks) c.args.pass.now.seat.me.0.tried begun c.requires.board.tasks c.requires.task);
    }
