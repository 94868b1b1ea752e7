use Rattle.std.proofs.Common.{refl}
use Rattle.std.proofs.lemmas.Result.{on_ok_weaker}
use Rattle.pig_params.proofs.Looking.{passes_declare, passes_default}
use Rattle.pig_params.proofs.known.note.Goals as goal

pub returns-in-Declare : goal.returns-in-Declare
returns-in-Declare c = on_ok_weaker c.set.result (λ set line. passes_declare c.args.word c.args.name.now c.args.value.now line c.args.known.now _ c.in-Declare.is set refl) c.set.ensures.ok

pub returns-in-Default : goal.returns-in-Default
returns-in-Default c = on_ok_weaker c.set-in-Default.result (λ set line. passes_default c.args.word c.args.name.now c.args.value.now line c.args.known.now _ c.in-Default.is set refl) c.set-in-Default.ensures.ok
