use Rattle.std.proofs.Common.{◌≡◌, [], ap}
use Rattle.pig_value.proofs.list_laws.Listing.{each-map, each_weaker}
use Rattle.pig_runs.specs.Entries.{no_entries_in}
use Rattle.pig_shuffle.proofs.making.partitioned_runs.Goals as goal

pub returns-clause-dirs : goal.returns-clause-dirs
returns-clause-dirs c =
    let runs = c.in_ok-runs.runs.items in
    each-map (λ ds. ds ≡ []) (λ run. run.dirs) runs
    (each_weaker (λ run. run ≡ no_entries_in []) (λ run. run.dirs ≡ []) (λ run e. ap (λ r. r.dirs) e) runs c.in_ok-runs.ensures.empty)
