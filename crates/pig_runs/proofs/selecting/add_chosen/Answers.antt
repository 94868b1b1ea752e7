use Rattle.std.proofs.Common.{◌<◌, length, rules}
use Rattle.std.specs.Prelude.{IsTrue}
use Rattle.pig_runs.proofs.Chosen.{chosen_copy}
use Rattle.pig_runs.proofs.selecting.add_chosen.Goals as goal

pub returns-clause-added : goal.returns-clause-added
returns-clause-added c is_true =
    let held : IsTrue c.stands_at.result = search rules in
    let within : c.in-Some.spot.at < length c.in-Some-run_at.run'.now.entries = search rules in
    chosen_copy c.args.built.now.dirs c.args.runs.now c.in-Some.spot.run c.in-Some-run_at.run'.now c.as_builder.result.now c.in-Some.spot.at c.args.place c.args.built.now c.copy_entry.new.self c.requires.alike
    c.in-Some-run_at.ensures c.as_builder.ensures.is within (c.stands_at.ensures held) c.in_ok-copy_entry.ensures.ok
