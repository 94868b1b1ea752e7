use Rattle.std.proofs.Common.{rules}
use Rattle.pig_syntax.specs.Cutting.{AreStatements}
use Rattle.pig_syntax.specs.Tokens.{AreTokens}
use Rattle.pig_run.specs.Reading.{IsMeasured, IsLexed, lexed}
use Rattle.pig_run.specs.Steps.{ReadsPlan}
use Rattle.pig_run.proofs.ReadingSteps.{bad_told, reads_weaker}
use Rattle.pig_run.proofs.reading.plan_of_text.Goals as goal

pub returns-in_ok-pieces-in-Ok : goal.returns-in_ok-pieces-in-Ok
returns-in_ok-pieces-in-Ok c =
    let tokens : AreTokens c.args.script.now c.in-Ok.tokens = search rules in
    let statements : AreStatements c.in-Ok.tokens c.in_ok-pieces-in-Ok.pieces = search rules in
    let reads : ReadsPlan (IsMeasured c.in-Ok.tokens c.in_ok-pieces-in-Ok.pieces) c.plan_of_pieces.result = search rules in
    reads_weaker (IsMeasured c.in-Ok.tokens c.in_ok-pieces-in-Ok.pieces) (IsLexed c.args.script.now) (λ v h. lexed tokens statements h) c.plan_of_pieces.result reads

pub returns-in-Err-Bad : goal.returns-in-Err-Bad
returns-in-Err-Bad c = bad_told c.args.script.now (search rules)
