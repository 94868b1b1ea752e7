use Rattle.std.proofs.Common.{◌+◌, ◌++◌, arith, drop, sym, ◌∙◌, ap}
use Rattle.pig_operators.specs.Given.{run_rows}
use Rattle.pig_operators.proofs.Coming.{rows_split}
use Rattle.pig_operators.proofs.batches.Orderer.next_batch.Goals as goal

pub returns-clause-rows : goal.returns-clause-rows
returns-clause-rows c =
    let run = c.self.inside.run in
    let from = c.self.inside.from in
    sym c.self.view_is ∙ (rows_split run from (from + c.min.result) (omega arith) ∙ ap (λ l. l ++ drop (from + c.min.result) (run_rows run)) (sym c.in_ok-rows.ensures))
