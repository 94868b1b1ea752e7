use Rattle.std.proofs.Common.{rules}
use Rattle.pig_parser.specs.Parsing.{AreTrees}
use Rattle.pig_run.specs.Reading.{IsChecked, IsParsed, parsed}
use Rattle.pig_run.specs.Steps.{ReadsPlan}
use Rattle.pig_run.proofs.ReadingSteps.{off_told, reads_weaker}
use Rattle.pig_run.proofs.reading.plan_of_statements.Goals as goal

pub returns-in-Ok : goal.returns-in-Ok
returns-in-Ok c =
    let trees : AreTrees c.args.tokens.now c.args.pieces.now c.in-Ok.trees = search rules in
    let reads : ReadsPlan (IsChecked c.in-Ok.trees) c.plan_of_trees.result = search rules in
    reads_weaker (IsChecked c.in-Ok.trees) (IsParsed c.args.tokens.now c.args.pieces.now) (λ v h. parsed trees h) c.plan_of_trees.result reads

pub returns-in-Err-Syntax : goal.returns-in-Err-Syntax
returns-in-Err-Syntax c = off_told c.args.tokens.now c.args.pieces.now (search rules)
