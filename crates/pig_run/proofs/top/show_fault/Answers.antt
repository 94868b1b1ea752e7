use Rattle.std.proofs.Common.{rules, ◌≡◌, [], Some, subst}
use Rattle.pig_run.specs.declared.outcome.RunFault.TheVariants as fault
use Rattle.pig_run.specs.Ends.{Console, Shown}
use Rattle.pig_run.specs.Texts.{fault_text}
use Rattle.pig_run.proofs.Topping.{without_memory}
use Rattle.pig_run.proofs.top.show_fault.Goals as goal

pub returns-in-Err-clause-shown : goal.returns-in-Err-clause-shown
returns-in-Err-clause-shown g c =
    let old : Console = record { text = g.C.Console.text c.args.console.now; faults = g.C.Console.faults c.args.console.now } in
    let new : Console = record { text = g.C.Console.text c.show-in-Err.new.console; faults = g.C.Console.faults c.show-in-Err.new.console } in
    let same : c.as_bytes.result.now ≡ fault_text [] fault.OutOfMemory = search rules in
    without_memory (fault_text c.args.said.now c.args.fault) old new c.args.fault c.show-in-Err.result
    (subst (λ text. Shown text old new (Some fault.OutOfMemory) c.show-in-Err.result) same c.show-in-Err.ensures.shown)
