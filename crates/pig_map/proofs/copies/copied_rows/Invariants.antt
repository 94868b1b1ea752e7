use Rattle.std.proofs.Common.{◌≡◌, ◌++◌, drop}
use Rattle.pig_value.specs.Trees.{rows_tree}
use Rattle.pig_value.specs.Valid.{AreRows}
use Rattle.pig_physical.specs.Handed.{outs_of}
use Rattle.pig_physical.specs.Outs.{outs_at}
use Rattle.pig_physical.specs.Seen.{staged}
use Rattle.pig_physical.specs.Stages.{tasks_in}
use Rattle.pig_map.specs.Copies.{rows_for}
use Rattle.pig_map.specs.Copying.{copied_for}
use Rattle.pig_map.proofs.copies.copied_rows.Given as goal

abbrev pub invariant-loop-at : goal.invariant-loop-at
invariant-loop-at l =
    (rows_tree l.rows ++ rows_for l.place (drop l.at (tasks_in (staged l.wave.stages.now) l.wave.number)) (drop l.at (outs_at (outs_of l.wave.prior.now) l.wave.number))
    ≡ copied_for l.wave l.place) × AreRows (rows_tree l.rows)
