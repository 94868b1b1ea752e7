use Rattle.std.proofs.Common.{◌≡◌, sym, subst}
use Rattle.pig_value.proofs.list_laws.Bags.{each-sort}
use Rattle.pig_runs.specs.Entries.{run_cmp}
use Rattle.pig_reduce.specs.Made.{AreOfFirst}
use Rattle.pig_reduce_tests.proofs.given.run_of.Goals as goal

pub returns-clause-first : goal.returns-clause-first
returns-clause-first c first =
    subst (λ run. AreOfFirst run.entries) (sym c.finish.ensures)
    (each-sort (run_cmp c.add_lines.new.builder.dirs) (λ e. e.input ≡ 0) c.add_lines.new.builder.entries (c.in_ok-add_lines.ensures.first first))
