use Rattle.std.proofs.Common.{arith}
use Rattle.pig_board.proofs.Moves.{split_allowed}
use Rattle.pig_board.proofs.board.Board.split.Goals as goal

pub split_seat-seat-requires : goal.split_seat-seat-requires
split_seat-seat-requires c =
    let table = c.args.self.now.table.shared in
    let seat = c.args.pass.now.seat in
    let words = c.args.self.now.words in
    (c.requires.seat, omega arith, split_allowed table.key seat.id seat.me.0)
