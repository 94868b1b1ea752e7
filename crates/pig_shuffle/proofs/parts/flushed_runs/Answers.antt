use Rattle.std.proofs.Common.{◌∷◌, ◌++◌, [], subst, sym}
use Rattle.pig_value.specs.Elementwise.{Each}
use Rattle.pig_value.proofs.list_laws.Elementwise.{each_joined}
use Rattle.pig_shuffle.specs.Held.{IsFlushed}
use Rattle.pig_shuffle.proofs.parts.flushed_runs.Goals as goal

pub loop-table-preserved : goal.loop-table-preserved
loop-table-preserved c =
    let tables = c.loop-table.yielded in
    let table = c.in-Some.table in
    let run = c.in_ok-flush.field-0 in
    subst (Each IsFlushed (tables ++ table ∷ [])) (sym c.in_ok-push.ensures.ok)
    (each_joined IsFlushed tables (table ∷ []) c.loop-table.runs (run ∷ []) c.loop-table.invariant ((λ added has. c.in_ok-flush.ensures.run added has), tt))
