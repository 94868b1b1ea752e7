-- The piece at the position, or none behind the last piece.
use Rattle.std.proofs.Common.{◌≡◌, sym, arith}
use Rattle.pig_storage.proofs.Pieces.{piece_is, piece_past}
use Rattle.pig_storage.proofs.rows.bytes_at.Goals as goal

pub returns-then-piece-position : goal.returns-then-piece-position
returns-then-piece-position c = sym (piece_past c.args.byte c.args.line.now c.args.piece c.args.position c.requires.piece (c.requires.last c.if-piece-position.true) c.if-piece-position.true)

pub returns : goal.returns
returns c =
    let here : c.args.piece.position ≡ c.args.position = omega arith in
    sym (piece_is c.args.byte c.args.line.now c.args.piece c.args.position c.requires.piece here)
