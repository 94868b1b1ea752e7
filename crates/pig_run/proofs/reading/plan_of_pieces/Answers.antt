use Rattle.std.proofs.Common.{rules, refl, ◌<◌, ◌≤◌, length, All}
use Rattle.pig_parser.specs.Parsing.{IsShallow}
use Rattle.pig_run.specs.declared.outcome.RunFault.TheVariants as fault
use Rattle.pig_run.specs.declared.outcome.TooLarge.TheVariants as large
use Rattle.pig_run.specs.Reading.{IsParsed, IsMeasured, too_many, too_deep, measured}
use Rattle.pig_run.specs.Refusals.{too_large}
use Rattle.pig_run.proofs.ReadingSteps.{reads_refusal, reads_weaker}
use Rattle.pig_run.proofs.reading.plan_of_pieces.Goals as goal

pub returns-then-len-gt-MOST_STATEMENTS : goal.returns-then-len-gt-MOST_STATEMENTS
returns-then-len-gt-MOST_STATEMENTS c =
    let many : 4096 < length c.args.pieces.now = search rules in
    reads_refusal (IsMeasured c.args.tokens.now c.args.pieces.now) (too_large large.Statements) (fault.TooLarge large.Statements) (too_many many) refl tt

pub returns-then-not-are_shallow : goal.returns-then-not-are_shallow
returns-then-not-are_shallow c =
    let few : length c.args.pieces.now ≤ 4096 = search rules in
    let deep : All (IsShallow c.args.tokens.now) c.args.pieces.now → ⊥ = search rules in
    reads_refusal (IsMeasured c.args.tokens.now c.args.pieces.now) (too_large large.Depth) (fault.TooLarge large.Depth) (too_deep few deep) refl tt

pub returns : goal.returns
returns c =
    let few : length c.args.pieces.now ≤ 4096 = search rules in
    let shallow : All (IsShallow c.args.tokens.now) c.args.pieces.now = search rules in
    reads_weaker (IsParsed c.args.tokens.now c.args.pieces.now) (IsMeasured c.args.tokens.now c.args.pieces.now) (λ v h. measured few shallow h)
    c.plan_of_statements.result c.plan_of_statements.ensures
