use Rattle.std.proofs.Common.{◌≡◌, sym, subst}
use Rattle.pig_value.proofs.list_laws.Bags.{each-sort}
use Rattle.pig_value.specs.Trees.{fields_of, v_tuple}
use Rattle.pig_operators.specs.Given.{AreKeyedByRow}
use Rattle.pig_runs.specs.Entries.{run_cmp}
use Rattle.pig_operators_tests.proofs.given.by_row.Goals as goal

pub returns-clause-keys : goal.returns-clause-keys
returns-clause-keys c =
    subst (λ r. AreKeyedByRow r.entries) (sym c.finish.ensures) (each-sort (run_cmp c.loop-text.builder.dirs) (λ e. e.key ≡ v_tuple (fields_of e.row)) c.loop-text.builder.entries c.loop-text.invariant.1)
