use Rattle.std.proofs.Common.{arith}
use Rattle.pig_board.proofs.Moves.{draw_allowed}
use Rattle.pig_board.proofs.board.Board.draw.Goals as goal

pub fetch_add-number-requires : goal.fetch_add-number-requires
fetch_add-number-requires c =
    let table = c.args.self.now.table.shared in
    let seat = c.args.pass.now.seat in
    let words = c.args.self.now.words in
    (c.requires.board.seat, omega arith, draw_allowed table.key table.table_id.slots seat.id seat.me c.requires.room)
