use Rattle.std.proofs.Common.{rules, ◌<◌, Some, subst, sym}
use Rattle.pig_run.specs.Ends.{Console, Printed, PrintedPart, Shown, cut_short, failed, printed}
use Rattle.pig_run.proofs.top.show.Goals as goal

pub returns-in-Ok-clause-shown : goal.returns-in-Ok-clause-shown
returns-in-Ok-clause-shown g c =
    let old : Console = record { text = g.C.Console.text c.args.console.now; faults = g.C.Console.faults c.args.console.now } in
    let new : Console = record { text = g.C.Console.text c.write.new.self; faults = g.C.Console.faults c.write.new.self } in
    let sound : ¬ (g.C.Console.faults c.args.console.now < g.C.Console.faults c.write.new.self) = search rules in
    let is : Printed c.args.text.now old new = search rules in
    printed sound is

pub returns-in-Err-Failed-clause-shown : goal.returns-in-Err-Failed-clause-shown
returns-in-Err-Failed-clause-shown g c =
    let old : Console = record { text = g.C.Console.text c.args.console.now; faults = g.C.Console.faults c.args.console.now } in
    let new : Console = record { text = g.C.Console.text c.write.new.self; faults = g.C.Console.faults c.write.new.self } in
    let fails : g.C.Console.faults c.args.console.now < g.C.Console.faults c.write.new.self = search rules in
    let is : PrintedPart c.args.text.now old new = search rules in
    subst (λ f. Shown c.args.text.now old new c.args.found (Some f)) (sym c.unshown.ensures) (failed fails is)

pub returns-in-Err-OutOfMemory-clause-shown : goal.returns-in-Err-OutOfMemory-clause-shown
returns-in-Err-OutOfMemory-clause-shown g c =
    let old : Console = record { text = g.C.Console.text c.args.console.now; faults = g.C.Console.faults c.args.console.now } in
    let new : Console = record { text = g.C.Console.text c.write.new.self; faults = g.C.Console.faults c.write.new.self } in
    let sound : ¬ (g.C.Console.faults c.args.console.now < g.C.Console.faults c.write.new.self) = search rules in
    let is : PrintedPart c.args.text.now old new = search rules in
    cut_short sound is
