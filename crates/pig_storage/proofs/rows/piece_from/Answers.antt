-- The piece ends at the next delimiter, or with the line.
use Rattle.std.proofs.Common.{length, take, drop, ◌-◌}
use Rattle.std.proofs.lemmas.List.{take_rest}
use Rattle.pig_storage.proofs.Pieces.{piece_at}
use Rattle.pig_storage.proofs.rows.piece_from.Goals as goal

pub returns-clause-piece : goal.returns-clause-piece
returns-clause-piece c =
    let line = c.args.line.now in
    let from = c.args.from in
    let rest = take (length line - from) (drop from line) in
    piece_at c.args.byte line from c.args.position c.place_of.result rest (take_rest line from) c.requires.within c.requires.starts c.place_of.ensures.is c.place_of.ensures.within
