use Rattle.std.proofs.Common.{◌∙◌}
use Rattle.std.specs.List.{flat_map}
use Rattle.pig_value.specs.Lines.{lines}
use Rattle.pig_plain.proofs.LinesLeft.{line_read}
use Rattle.pig_plain.proofs.reading.Lines.next.Goals as goal

pub returns-in-Some-clause-line : goal.returns-in-Some-clause-line
returns-in-Some-clause-line c =
    c.pieces.invariant.0 ∙ line_read c.pieces.self.piece.now (flat_map lines c.pieces.self.pieces.now) c.in-Some.span c.in-Some.ensures.line
