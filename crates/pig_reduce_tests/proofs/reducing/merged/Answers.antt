use Rattle.std.proofs.Common.{◌≡◌, ◌++◌, [], sym, subst, rules}
use Rattle.pig_value.proofs.list_laws.Bags.{each-sort}
use Rattle.pig_value.proofs.list_laws.Listing.{each-append}
use Rattle.pig_runs.specs.Entries.{run_cmp, run_of}
use Rattle.pig_runs.specs.RunParts.{part_entries}
use Rattle.pig_reduce.specs.Made.{AreOfFirst}
use Rattle.pig_reduce_tests.proofs.reducing.merged.Goals as goal

pub returns-clause-first : goal.returns-clause-first
returns-clause-first g c of_a of_b =
    let a = subst AreOfFirst (sym c.whole_run.ensures.entries) of_a in
    let b = subst AreOfFirst (sym c.whole_run-2.ensures.entries) of_b in
    let all = part_entries c.whole_run.result ++ (part_entries c.whole_run-2.result ++ []) in
    let is : c.expect.result ≡ run_of [] all = search rules in
    subst (λ run. AreOfFirst run.entries) (sym is)
    (each-sort (run_cmp []) (λ e. e.input ≡ 0) all
    (each-append (λ e. e.input ≡ 0) (part_entries c.whole_run.result) _ a (each-append (λ e. e.input ≡ 0) (part_entries c.whole_run-2.result) [] b tt)))
