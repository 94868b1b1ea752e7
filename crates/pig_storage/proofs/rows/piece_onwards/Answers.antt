-- The next piece starts behind the delimiter of the one before it.
use Rattle.std.proofs.Common.{◌<◌, ◌+◌, length, drop, ap, sym, ◌∙◌, arith}
use Rattle.pig_value.specs.FieldRows.{pieces}
use Rattle.pig_storage.proofs.Pieces.{next_starts}
use Rattle.pig_storage.proofs.rows.piece_onwards.Goals as goal

pub piece_from-piece-requires-clause-starts : goal.piece_from-piece-requires-clause-starts
piece_from-piece-requires-clause-starts c =
    let d = c.args.byte in
    let line = c.args.line.now in
    let piece = c.loop-next.piece in
    let ends : piece.to < length line = omega (arith, c.loop-next.invariant.0.within) in
    ap (λ n. drop (n + 1) (pieces d line)) (sym c.loop-next.invariant.1) ∙ next_starts d line piece c.loop-next.invariant.0 ends
