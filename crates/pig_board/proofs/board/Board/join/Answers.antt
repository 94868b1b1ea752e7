use Rattle.std.proofs.Common.{◌∙◌, arith}
use Rattle.pig_board.proofs.Moves.{join_allowed, room_allowed}
use Rattle.pig_board.proofs.board.Board.join.Goals as goal

pub join_seat-requires : goal.join_seat-requires
join_seat-requires c =
    let table = c.args.self.now.table.shared in
    let seat = c.args.pass.now.seat in
    let other = c.args.other.seat in
    let words = c.args.self.now.words in
    (c.requires.board.seat, c.requires.other.seat, c.args.other.no_slot, omega arith, join_allowed table.key seat.id other.id seat.me.0 other.me.0)

pub load-requires : goal.load-requires
load-requires c =
    let table = c.args.self.now.table.shared in
    let seat = c.join_seat.new.seat in
    let words = c.args.self.now.words in
    (c.join_seat.ensures.0 ∙ c.requires.board.seat, omega arith, room_allowed table.key table.table_id.slots seat.id seat.me)
