use Rattle.std.proofs.Common.{rules, ◌≡◌, map, subst}
use Rattle.std.proofs.lemmas.Result.{IfOk-weaker}
use Rattle.pig_value.specs.Sorts.{sort}
use Rattle.pig_runs.specs.Cutting.{cut_points, dirs_of_all}
use Rattle.pig_runs.specs.Entries.{entries_of_all, run_cmp}
use Rattle.pig_physical.specs.Handed.{out_of}
use Rattle.pig_driver.specs.Slicing.{AreSliced, noted, sliced_outs}
use Rattle.pig_driver.proofs.Cut.{are_sliced, first_directs, one_less, points_direct, runs_directed}
use Rattle.pig_driver.proofs.slicing.slice_outputs.Goals as goal

pub cuts-requires-clause-alike : goal.cuts-requires-clause-alike
cuts-requires-clause-alike c =
    let runs = c.in_ok-runs.field-0.runs in
    let ds = c.requires.directed.dirs in
    first_directs ds runs (runs_directed c.args.outs runs ds c.in_ok-runs.ensures.runs c.requires.directed.all)

pub put_slices-requires-clause-alike : goal.put_slices-requires-clause-alike
put_slices-requires-clause-alike c =
    let runs = c.in_ok-runs.field-0.runs in
    let ds = c.requires.directed.dirs in
    let is : c.in_ok-points.points.dirs ≡ dirs_of_all c.in_ok-runs.field-0.runs = search rules in
    points_direct c.in_ok-points.points.dirs runs is (first_directs ds runs (runs_directed c.args.outs runs ds c.in_ok-runs.ensures.runs c.requires.directed.all))

pub put_slices-requires-clause-count : goal.put_slices-requires-clause-count
put_slices-requires-clause-count c =
    let runs = c.in_ok-runs.field-0.runs in
    let are : c.in_ok-points.points.points ≡ cut_points c.args.parts (sort (run_cmp (dirs_of_all c.in_ok-runs.field-0.runs)) (entries_of_all c.in_ok-runs.field-0.runs)) = search rules in
    one_less c.args.parts c.in_ok-points.points.points _ c.requires.some are

pub returns : goal.returns
returns c =
    let runs = c.in_ok-runs.field-0.runs in
    let notes = c.in_ok-runs.field-0.notes in
    let are : c.in_ok-points.points.points ≡ cut_points c.args.parts (sort (run_cmp (dirs_of_all c.in_ok-runs.field-0.runs)) (entries_of_all c.in_ok-runs.field-0.runs)) = search rules in
    let same : c.as_slice.result.now ≡ c.in_ok-runs.field-0.notes = search rules in
    IfOk-weaker c.put_slices.result _ (λ news. AreSliced c.args.parts (map out_of c.args.outs) (map out_of news))
    (λ news is. are_sliced c.args.parts c.in_ok-points.points.points c.args.outs news runs notes c.in_ok-runs.ensures.runs c.in_ok-runs.ensures.notes are
    (subst (λ found. map out_of news ≡ sliced_outs c.args.parts c.in_ok-points.points.points runs (map noted found)) same is))
    c.put_slices.ensures
