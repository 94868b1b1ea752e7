use Rattle.std.proofs.Common.{rules, refl}
use Rattle.pig_parser.specs.Parsing.{IsShallow}
use Rattle.pig_run.proofs.ReadingSteps.{all_passed, passes_more}
use Rattle.pig_run.proofs.reading.are_shallow.Goals as goal

pub loop-place-preserved : goal.loop-place-preserved
loop-place-preserved c =
    passes_more (IsShallow c.args.tokens.now) c.as_slice-pieces.result.now c.loop-place.place _ c.loop-place-test.true (search rules) (c.is_shallow.ensures.0 (search rules)) c.loop-place.invariant

pub returns : goal.returns
returns c = (λ t. all_passed (IsShallow c.args.tokens.now) c.args.pieces.now c.as_slice-pieces.result.now c.loop-place.place (search rules) (search rules) c.loop-place.invariant, λ all. refl)
