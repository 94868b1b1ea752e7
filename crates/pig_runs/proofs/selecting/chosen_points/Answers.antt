use Rattle.std.proofs.Common.{◌≡◌, true, ap, rules}
use Rattle.pig_value.specs.Sorts.{sort}
use Rattle.pig_runs.specs.Cutting.{dirs_of_all}
use Rattle.pig_runs.specs.Entries.{entries_of_all, no_entries_in, run_cmp}
use Rattle.pig_runs.proofs.Chosen.{chosen_step}
use Rattle.pig_runs.proofs.Sliced.{picked_step}
use Rattle.pig_runs.proofs.selecting.chosen_points.Goals as goal

pub loop-k-preserved : goal.loop-k-preserved
loop-k-preserved c =
    let ds = dirs_of_all c.args.runs.now in
    let all = entries_of_all c.args.runs.now in
    let held : c.in_ok-add_chosen.field-0 ≡ true = search rules in
    picked_step c.args.n (sort (run_cmp ds) all) c.loop-k.k (no_entries_in ds) c.loop-k.built c.add_chosen.new.built c.loop-k.invariant
    (chosen_step ds c.args.n c.in-Some.total c.loop-k.k c.place.result all c.loop-k.built c.add_chosen.new.built (ap (λ b. b.dirs) c.loop-k.invariant) c.in-Some.ensures c.place.ensures.is (c.in_ok-add_chosen.ensures.added held))
