use Rattle.std.proofs.Common.{take}
use Rattle.std.proofs.lemmas.List.{take_all}
use Rattle.pig_parser.proofs.StatementsFormed.{trees_formed}
use Rattle.pig_parser.proofs.TreesInTurn.{none_off, one_more, first_off}
use Rattle.pig_parser.specs.Parsing.{AreTrees, no_trees}
use Rattle.pig_parser.proofs.parsing.parse.Goals as goal

pub loop-index-init : goal.loop-index-init
loop-index-init c = rw c.new-trees.ensures no_trees

pub returns-in-Err-Off-clause-fault : goal.returns-in-Err-Off-clause-fault
returns-in-Err-Off-clause-fault c = rw (c.off.ensures, ← c.as_slice-tokens.ensures, ← c.as_slice-piece-items.ensures)
    (first_off c.as_slice-tokens.result.now c.as_slice-piece-items.result.now c.loop-index.index c.loop-index.trees _ c.loop-index-test.true c.loop-index.invariant
    (none_off _ _ c.in-Err-Off.field-0 c.in-Err-Off.field-0-is c.in-Err-Off.ensures))

pub loop-index-preserved : goal.loop-index-preserved
loop-index-preserved c = rw c.in_ok-push-in-Ok.ensures.ok
    (one_more c.as_slice-tokens.result.now c.as_slice-piece-items.result.now c.loop-index.index c.loop-index.trees _ _ c.loop-index-test.true c.loop-index.invariant c.in-Ok.ensures)

pub returns-clause-formed : goal.returns-clause-formed
returns-clause-formed c = λ free.
    let whole : AreTrees c.as_slice-tokens.result.now (take c.loop-index.index c.as_slice-piece-items.result.now) c.loop-index.trees = c.loop-index.invariant in
    let all : AreTrees c.args.tokens.now c.args.pieces.now c.loop-index.trees =
    rw (← c.as_slice-tokens.ensures, ← c.as_slice-piece-items.ensures) (rw (take_all c.loop-index.index c.as_slice-piece-items.result.now c.loop-index-test.false) at whole) in
    trees_formed c.args.tokens.now all free
