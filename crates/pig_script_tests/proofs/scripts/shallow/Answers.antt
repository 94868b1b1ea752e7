use Rattle.std.proofs.Common.{arith, take}
use Rattle.std.specs.List.{All}
use Rattle.std.proofs.lemmas.List.{take_all}
use Rattle.std.proofs.lemmas.List.Elements.{All-more}
use Rattle.pig_parser.specs.Parsing.{IsShallow}
use Rattle.pig_script_tests.proofs.scripts.shallow.Goals as goal

pub loop-piece-preserved : goal.loop-piece-preserved
loop-piece-preserved c =
    All-more (IsShallow c.args.tokens.now) c.as_slice-piece-items.result.now c.loop-piece.piece-index _ c.loop-piece-test.true c.loop-piece.invariant
    (record { depth = c.depth.result; deep = c.depth.ensures; most = omega (arith, c.if-depth-gt64.false) })

pub returns : goal.returns
returns c = λ _.
    let whole : All (IsShallow c.args.tokens.now) (take c.loop-piece.piece-index c.as_slice-piece-items.result.now) = c.loop-piece.invariant in
    rw (← c.as_slice-piece-items.ensures) (rw (take_all c.loop-piece.piece-index c.as_slice-piece-items.result.now c.loop-piece-test.false) at whole)
