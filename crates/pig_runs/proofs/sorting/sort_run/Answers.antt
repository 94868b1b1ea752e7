use Rattle.std.proofs.Common.{ap, map, sym, subst}
use Rattle.pig_value.specs.Trees.{tree}
use Rattle.pig_keycode.specs.Keys.{IsKey}
use Rattle.pig_runs.specs.Entries.{keyed, IsEntry, AreKeyed}
use Rattle.pig_runs.proofs.Reading.{entry_at}
use Rattle.pig_runs.proofs.sorting.sort_run.Goals as goal

pub add-requires-clause-key : goal.add-requires-clause-key
add-requires-clause-key c =
    let all : AreKeyed c.args.dirs (map keyed c.as_slice-entry-items.result.now) = subst (λ es. AreKeyed c.args.dirs (map keyed es)) (sym c.as_slice-entry-items.ensures) c.requires in
    let good : IsEntry c.args.dirs (keyed c.entry-item.result) = entry_at c.args.dirs c.as_slice-entry-items.result.now c.loop-entry.entry-index c.entry-item.result c.loop-entry-test.true c.entry-item.is all in
    subst (λ ds. IsKey ds (tree c.entry-item.result.key)) (sym (ap (λ b. b.dirs) c.loop-entry.invariant)) good.key

pub add-requires-clause-row : goal.add-requires-clause-row
add-requires-clause-row c =
    let all : AreKeyed c.args.dirs (map keyed c.as_slice-entry-items.result.now) = subst (λ es. AreKeyed c.args.dirs (map keyed es)) (sym c.as_slice-entry-items.ensures) c.requires in
    let good : IsEntry c.args.dirs (keyed c.entry-item.result) = entry_at c.args.dirs c.as_slice-entry-items.result.now c.loop-entry.entry-index c.entry-item.result c.loop-entry-test.true c.entry-item.is all in
    good.row
