use Rattle.std.proofs.lemmas.Result.{on_ok_weaker}
use Rattle.pig_params.proofs.Looking.{passes_ordinary}
use Rattle.pig_params.proofs.putting.put_line.Goals as goal

pub returns-in-Text-clause-passes : goal.returns-in-Text-clause-passes
returns-in-Text-clause-passes c = on_ok_weaker c.put_text.result (λ _. passes_ordinary c.args.line.now c.args.known.now c.in-Text.ensures.line) c.put_text.ensures.puts
