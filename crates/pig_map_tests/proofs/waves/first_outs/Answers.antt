use Rattle.std.proofs.Common.{rules, ◌≡◌, length, sym, subst}
use Rattle.pig_physical.specs.Fitting.{HasAll}
use Rattle.pig_physical.specs.Handed.{out_of}
use Rattle.pig_physical.specs.Seen.{staged}
use Rattle.pig_physical.specs.Stages.{tasks_in}
use Rattle.pig_map_tests.proofs.Probing.{only}
use Rattle.pig_map_tests.proofs.waves.first_outs.Goals as goal

pub returns : goal.returns
returns g c =
    let s = staged c.args.stages.now in
    let one : length (tasks_in s 0) ≡ 1 = search rules in
    subst (λ outs. HasAll s outs 0) (sym c.alone.ensures) (only s (out_of c.first_out-out.result) one c.first_out-out.ensures)
