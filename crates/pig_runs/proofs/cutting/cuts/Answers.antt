use Rattle.std.proofs.Common.{◌≡◌, ◌<◌, ◌-◌, length, subst}
use Rattle.std.specs.Prelude.{MatchOption, ⊤}
use Rattle.pig_value.specs.Sorts.{sort}
use Rattle.pig_runs.specs.Cutting.{dirs_of_all, picked}
use Rattle.pig_runs.specs.Entries.{and_entries, entries_of_all, no_entries_in, run_cmp}
use Rattle.pig_runs.proofs.Chosen.{cut_chosen}
use Rattle.pig_runs.proofs.cutting.cuts.Goals as goal

pub returns-in-Some : goal.returns-in-Some
returns-in-Some c =
    let ds = dirs_of_all c.args.runs.now in
    let all = entries_of_all c.args.runs.now in
    let told = subst
    (λ found. MatchOption found ⊤ (λ built. (0 < length all) × (built ≡ and_entries (picked c.args.n (sort (run_cmp ds) all) (c.args.n - 1)) (no_entries_in ds))))
    c.in-Some.is c.in_ok-built.ensures in
    cut_chosen ds c.args.n all c.in-Some.built c.requires.some told.0 told.1
