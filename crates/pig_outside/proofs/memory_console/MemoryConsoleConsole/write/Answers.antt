use Rattle.std.proofs.Common.{◌≡◌, ◌∙◌, ℕ, List, Some, Result, OnErr, Ok, Err, sym, ap, arith}
use Rattle.std.proofs.lemmas.List.{append-nil}
use Rattle.pig_outside.specs.Text.{LeftPrefix}
use Rattle.pig_outside.proofs.memory_console.MemoryConsoleConsole.write.Goals as goal

-- Where nothing was added, a prefix of no byte was.
nothing_written : {T E : Type 0} (result : Result T E) (bytes old new : List ℕ) → new ≡ old → OnErr result (LeftPrefix bytes (Some old) (Some new))
nothing_written (Ok _) bytes old new same = tt
nothing_written (Err _) bytes old new same = (0, omega arith, ap (λ t. Some t) (same ∙ sym (append-nil old)))

pub returns-in_err-extend_from_slice-clause-err : goal.returns-in_err-extend_from_slice-clause-err
returns-in_err-extend_from_slice-clause-err c =
    nothing_written c.from_residual-in_err-extend_from_slice.result c.args.bytes.now c.args.self.now.text.items c.extend_from_slice.new.self.items c.in_err-extend_from_slice.ensures.items
